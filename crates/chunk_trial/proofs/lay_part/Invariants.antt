-- `chunk_trial::lay_part` meets its contract. The loop's invariant: the first k groups are laid on the part. Assumes nothing.
use Rattle.std.proofs.Common.{◌≡◌}
use Rattle.chunk_trial.specs.Trial.{part_laid}
use Rattle.chunk_trial.proofs.lay_part.Given as goal

abbrev pub invariant-loop-k : goal.invariant-loop-k
invariant-loop-k l = l.part ≡ part_laid l.start l.size l.edits l.k l.initial.part
