-- The top is that of the columns so far. Assumes nothing.
use Rattle.ground_lines.specs.Laws.{HighestTo}
use Rattle.ground_lines.proofs.row_top.Given as goal

abbrev pub invariant-loop-h : goal.invariant-loop-h
invariant-loop-h l = HighestTo l.z l.size l.h-index l.top l.heights
