-- `grid::count_non_air` meets its contract. The loop's invariant: n of the first i cells are not air. Assumes nothing.
use Rattle.std.proofs.Common.{◌≡◌, ◌≤◌, take}
use Rattle.grid.specs.Count.{non_air_count}
use Rattle.grid.proofs.count_non_air.Given as goal

abbrev pub invariant-loop-i : goal.invariant-loop-i
invariant-loop-i l = (l.n ≡ non_air_count (take l.i l.cells)) × (l.n ≤ l.i)
