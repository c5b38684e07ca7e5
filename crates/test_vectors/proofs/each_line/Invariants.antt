-- `test_vectors::each_line` ends: each line leaves less of the text.
use Rattle.std.proofs.Common.{length}
use Rattle.test_vectors.proofs.each_line.Given as goal

abbrev pub decreases-loop-rest : goal.decreases-loop-rest
decreases-loop-rest g l = length l.rest
