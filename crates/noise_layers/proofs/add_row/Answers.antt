use Rattle.std.proofs.Common.{ap₂, ◌∙◌, arith}
use lib.Ieee.{Float, binary32, add, mul}
use Rattle.noise.specs.Noise.{lerp₃₂}
use Rattle.noise_tables.specs.Row.{at}
use Rattle.noise_tables.proofs.Fill.{start, step, end}
use Rattle.noise_layers.specs.Layers.{between_of, octave_at, row_more}
use Rattle.noise_layers.proofs.add_row.Goals as goal

pub loop-i-init : goal.loop-i-init
loop-i-init c =
    start (row_more c.args.o c.args.ky c.args.kz c.args.amp c.args.eases.now c.args.edges.now c.args.sums.now) c.args.sums.now

pub loop-i-preserved : goal.loop-i-preserved
unfolding row_more octave_at between_of
loop-i-preserved c =
    let l = c.loop-i in
    let v = c.lerp.ensures ∙ ap₂ (λ (u w : Float). lerp₃₂ u w (at c.args.eases.now c.args.kz)) c.lerp-low.ensures c.lerp-high.ensures in
    step (row_more c.args.o c.args.ky c.args.kz c.args.amp c.args.eases.now c.args.edges.now c.args.sums.now) c.args.sums.now
    l.sums l.i _ l.invariant (omega arith)
    (ap₂ (λ (u w : Float). add binary32 u (mul binary32 w c.args.amp)) (l.invariant.rest l.i (omega arith)) v)

pub returns : goal.returns
returns c =
    let l = c.loop-i in
    end (row_more c.args.o c.args.ky c.args.kz c.args.amp c.args.eases.now c.args.edges.now c.args.sums.now) c.args.sums.now
    l.sums l.i c.args.n l.invariant c.loop-i-test.false c.requires.5
