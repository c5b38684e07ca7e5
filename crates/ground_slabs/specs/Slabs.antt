-- Some slabs of the ground, from what lies near them: their base, their own boulders, and the trees near them. Assumes nothing.
use Rattle.std.specs.Prelude.{ℕ, ◌+◌, ◌-◌, ℤ, ltb}
use mathlib.Core.List.{List}
use Rattle.basics.specs.Bools.{pick}
use Rattle.ground_cell.specs.declared.world.Frame.{Frame}
use Rattle.ground_cell.specs.declared.world.Top.{Top}
use Rattle.ground_trees.specs.Features.{boulder_step}
use Rattle.ground_slabs.specs.Far.{reach}
use Rattle.grid_slabs.specs.Rows.{over_rows}
use Rattle.ground_trees.specs.Slabs.{tree_step_in}

-- the rows near enough for a tree to reach the slabs
abbrev pub near_from : ℕ → ℕ
near_from lo = lo - reach

unfoldable pub near_to : ℕ → ℕ → ℕ
near_to s hi = pick (ltb (hi + reach) s) (hi + reach) s

-- boulders of the slabs' own columns, then trees of those near them, on cells whose slabs have the base
unfoldable pub slab_laid : ℕ → ℕ → Frame → ℤ → (ℕ → Top) → List ℕ → List ℕ
slab_laid lo hi o sea t c =
    over_rows o.size (near_from lo) (near_to o.size hi) (tree_step_in lo hi o sea t) (over_rows o.size lo hi (boulder_step o t) c)
