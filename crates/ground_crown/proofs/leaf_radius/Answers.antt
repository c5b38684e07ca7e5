-- `ground_crown::leaf_radius` meets its contract: it reads the table's own list. Assumes nothing.
use mathlib.Core.Path.{refl}
use Rattle.ground_crown.specs.Radii.{radius_at}
use Rattle.ground_crown.proofs.leaf_radius.Goals as goal

pub returns : goal.returns
unfolding radius_at
returns c = refl
