-- `openmap_io::write_text`: what was written lies within the text.
use Rattle.std.proofs.Common.{length, ◌≤◌}
use Rattle.openmap_io.proofs.write_text.Given as goal

abbrev pub invariant-loop : goal.invariant-loop
invariant-loop g l = l.at ≤ length l.text
