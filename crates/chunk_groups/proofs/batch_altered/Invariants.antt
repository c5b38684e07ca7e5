-- `chunk_groups::batch_altered` meets its contract. The loop's invariant: so many cells differ with k groups laid on. Assumes nothing.
use Rattle.std.proofs.Common.{◌≡◌}
use Rattle.grid.specs.Differing.{differing}
use Rattle.chunk_groups.specs.Laid.{laid}
use Rattle.chunk_groups.proofs.batch_altered.Given as goal

abbrev pub invariant-loop-k : goal.invariant-loop-k
invariant-loop-k l = l.altered ≡ differing l.cells (laid l.size l.edits l.k l.cells)
