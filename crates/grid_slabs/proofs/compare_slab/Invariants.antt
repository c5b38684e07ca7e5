-- The numbers are those of the pairs so far. Assumes nothing.
use Rattle.std.proofs.Common.{◌≡◌, ◌≤◌, length, take, drop}
use Rattle.grid.specs.Count.{non_air_count}
use Rattle.grid.specs.Differing.{differing}
use Rattle.grid_slabs.proofs.compare_slab.Given as goal

abbrev pub invariant-loop-kept : goal.invariant-loop-kept
invariant-loop-kept l = record {
  altered_few : l.altered ≤ length l.yielded;
  count_few : l.count ≤ length l.yielded;
  altered : l.altered ≡ differing (take (length l.yielded) l.old) (take (length l.yielded) (drop l.start l.cells));
  count : l.count ≡ non_air_count (take (length l.yielded) (drop l.start l.cells));
}
