use Rattle.std.proofs.Common.{ap₂, arith}
use lib.Ieee.{Float, binary32, add, mul}
use Rattle.noise.specs.Noise.{along2}
use Rattle.noise_places.specs.Places.{along_places}
use Rattle.noise_rows.specs.Sums.{one_more}
use Rattle.noise_places.proofs.Same.{kept_of}
use Rattle.noise_tables.proofs.Fill.{start, step, end}
use Rattle.noise_places.proofs.add_octave_at.Goals as goal

pub loop-i-init : goal.loop-i-init
loop-i-init c =
    (kept_of _ _ c.square_at-k.ensures, start (one_more (along_places c.args.xs.now c.args.ys.now) c.args.freq c.args.amp c.args.vals.now) _)

pub loop-i-preserved : goal.loop-i-preserved
unfolding one_more along_places along2
loop-i-preserved c =
    let l = c.loop-i in
    let nk = c.noise_at-s.ensures in
    let r = l.invariant.1 in (
      nk.1,
      step (one_more (along_places c.args.xs.now c.args.ys.now) c.args.freq c.args.amp c.args.vals.now) c.args.vals.now l.vals l.i _ r (omega arith)
          (ap₂ (λ (u w : Float). add binary32 u (mul binary32 w c.args.amp)) (r.rest l.i (omega arith)) nk.0),
    )

pub returns : goal.returns
returns c =
    let l = c.loop-i in
    end (one_more (along_places c.args.xs.now c.args.ys.now) c.args.freq c.args.amp c.args.vals.now) c.args.vals.now
    l.vals l.i c.args.n l.invariant.1 c.loop-i-test.false c.requires.3
