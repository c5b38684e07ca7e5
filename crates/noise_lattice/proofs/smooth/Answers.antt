-- `smooth` meets its contract. Assumes nothing.
use mathlib.Core.Path.{refl}
use lib.Ieee.{of_bits}
use Rattle.num_core.specs.Num.{nearest}
use Rattle.noise_lattice.specs.Noise.{smooth₃₂}
use Rattle.noise_lattice.proofs.smooth.Goals as goal

pub returns : goal.returns
unfolding smooth₃₂ nearest of_bits
returns c = refl
