-- `num_float::max` meets its contract. Assumes nothing.
use Rattle.std.proofs.Common.{sym}
use Rattle.num_float.specs.Num.{max₃₂}
use Rattle.num_float.proofs.max.Goals as goal

pub returns-then-a-b : goal.returns-then-a-b
unfolding max₃₂
returns-then-a-b c = sym (simp c.if-a-b.true)

pub returns-then-b : goal.returns-then-b
unfolding max₃₂
returns-then-b c = sym (simp (c.if-a-b.false, c.if-b.true))

pub returns-else-b : goal.returns-else-b
unfolding max₃₂
returns-else-b c = sym (simp (c.if-a-b.false, c.if-b.false))
