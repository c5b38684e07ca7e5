-- `lerp` meets its contract. Assumes nothing.
use mathlib.Core.Path.{refl}
use Rattle.noise_lattice.specs.Noise.{lerp₃₂}
use Rattle.noise_lattice.proofs.lerp.Goals as goal

pub returns : goal.returns
unfolding lerp₃₂
returns c = refl
