-- `fbm3d` meets its contract. Assumes nothing.
use Rattle.std.proofs.Common.{rules}
use Rattle.noise.specs.Noise.{along3, fbm3d₃₂}
use Rattle.noise.proofs.fbm3d.Goals as goal

pub returns : goal.returns
unfolding along3 fbm3d₃₂
returns c = c.fbm.ensures (along3 c.args.x c.args.y c.args.z) (λ freq val p. search rules)
