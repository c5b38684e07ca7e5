-- `chunk_groups::id_after` meets its contract. The loop's invariant: v is what the cell holds once j groups are laid on. Assumes nothing.
use Rattle.std.proofs.Common.{◌≡◌}
use Rattle.grid.specs.Cube.{see_at}
use Rattle.chunk_groups.specs.Laid.{laid}
use Rattle.chunk_groups.proofs.id_after.Given as goal

abbrev pub invariant-loop-j : goal.invariant-loop-j
invariant-loop-j l = l.v ≡ see_at l.size l.x l.y l.z (laid l.size l.edits l.j l.cells)
