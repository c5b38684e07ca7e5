-- `num_float::clamp` meets its contract. Assumes nothing.
use Rattle.std.proofs.Common.{sym}
use Rattle.num_float.specs.Num.{clamp₃₂}
use Rattle.num_float.proofs.clamp.Goals as goal

pub returns-then-x-lo : goal.returns-then-x-lo
unfolding clamp₃₂
returns-then-x-lo c = sym (simp c.if-x-lo.true)

pub returns-then-x-hi : goal.returns-then-x-hi
unfolding clamp₃₂
returns-then-x-hi c = sym (simp (c.if-x-lo.false, c.if-x-hi.true))

pub returns-else-x-hi : goal.returns-else-x-hi
unfolding clamp₃₂
returns-else-x-hi c = sym (simp (c.if-x-lo.false, c.if-x-hi.false))
