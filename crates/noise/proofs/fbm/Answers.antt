use Rattle.std.proofs.Common.{◌≡◌, refl, sym, ap, ◌∙◌, arith}
use lib.Ieee.{of_bits}
use Rattle.num_core.specs.Num.{nearest}
use Rattle.noise.specs.Noise.{octaves, fbm}
use Rattle.noise.proofs.Loop.{turn, end}
use Rattle.noise.proofs.fbm.Goals as goal

pub returns-then-octaves-eq0 : goal.returns-then-octaves-eq0
unfolding fbm nearest of_bits
returns-then-octaves-eq0 g c = λ at h. sym (ap (fbm at) c.if-octaves-eq0.true)

pub loop-init : goal.loop-init
unfolding octaves nearest of_bits
loop-init g c = λ at h. refl

pub loop-preserved : goal.loop-preserved
unfolding nearest of_bits
loop-preserved g c = λ at h. turn at c.loop.counter (c.loop.invariant at h) (h c.loop.freq c.noise.result c.noise.ensures)

pub returns : goal.returns
returns g c =
    let e : c.loop.counter ≡ c.args.octaves = omega arith in
    λ at h. end at c.args.octaves c.if-octaves-eq0.false (ap (octaves at) (sym e) ∙ c.loop.invariant at h)
