-- `fbm2d` meets its contract. Assumes nothing.
use Rattle.std.proofs.Common.{rules}
use Rattle.noise.specs.Noise.{along2, fbm2d₃₂}
use Rattle.noise.proofs.fbm2d.Goals as goal

pub returns : goal.returns
unfolding along2 fbm2d₃₂
returns c = c.fbm.ensures (along2 c.args.x c.args.y) (λ freq val p. search rules)
