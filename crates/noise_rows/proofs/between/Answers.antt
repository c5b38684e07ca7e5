-- `between` meets its contract. Assumes nothing.
use Rattle.noise_rows.specs.Square.{between₃₂}
use Rattle.noise_rows.proofs.between.Goals as goal

pub returns : goal.returns
unfolding between₃₂
returns c = simp (c.lerp-3.ensures, c.lerp-2.ensures, c.lerp.ensures)
