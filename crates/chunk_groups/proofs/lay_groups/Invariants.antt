-- `chunk_groups::lay_groups` meets its contract. The loop's invariant: the cells are those with k groups laid on. Assumes nothing.
use Rattle.std.proofs.Common.{◌≡◌}
use Rattle.chunk_groups.specs.Laid.{laid}
use Rattle.chunk_groups.proofs.lay_groups.Given as goal

abbrev pub invariant-loop-k : goal.invariant-loop-k
invariant-loop-k l = l.cells ≡ laid l.size l.edits l.k l.initial.cells
