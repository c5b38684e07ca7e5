-- `chunk_trial::trial_count` meets its contract. The loop's invariant: what k parts count with the batch laid on. Assumes nothing.
use Rattle.std.proofs.Common.{◌≡◌, ◌*◌, ◌/◌, length}
use Rattle.chunk_groups.specs.Laid.{laid}
use Rattle.chunk_trial.specs.Trial.{count_to}
use Rattle.chunk_trial.proofs.trial_count.Given as goal

abbrev pub invariant-loop-k : goal.invariant-loop-k
invariant-loop-k l = l.total ≡ count_to (l.k * 16384) (laid l.size l.edits (length l.edits / 4) l.cells)
