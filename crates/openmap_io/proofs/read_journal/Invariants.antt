-- `openmap_io::read_journal`: what was read lies within the buffer.
use Rattle.std.proofs.Common.{length, ◌≡◌, ◌≤◌}
use Rattle.openmap_io.proofs.read_journal.Given as goal

abbrev pub invariant-loop : goal.invariant-loop
invariant-loop g l = (l.at ≤ length l.journal) × (length l.journal ≡ length l.initial.journal)
