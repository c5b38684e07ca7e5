-- `chunk_groups::batch_change` meets its contract. The loop's invariant: the change from the cells as lent to those with k groups laid on. Assumes nothing.
use Rattle.chunk_groups.specs.Laid.{laid}
use Rattle.chunk_groups.specs.Net.{Net, change}
use Rattle.chunk_groups.proofs.batch_change.Given as goal

abbrev pub invariant-loop-k : goal.invariant-loop-k
invariant-loop-k l = Net l.cells (laid l.size l.edits l.k l.cells) l.k (change l.before l.after)
