-- Columns too far from some slabs to reach them; and what a slab's own columns and those near it do is all. Assumes nothing.
use Rattle.std.specs.Prelude.{ℕ, ◌+◌, ◌≤◌, ◌<◌}
use Rattle.ground_trees.specs.Features.{giant_crown}

-- how many rows away a tree can have leaves: a giant's crown is 4 wide to each side
abbrev pub reach : ℕ
reach = giant_crown.radius

-- a row z whose trees do not reach the slabs from lo on below hi
pub data Away (lo hi z : ℕ) : Type 0 where
  before : z + reach < lo → Away lo hi z
  behind : hi + reach ≤ z → Away lo hi z
