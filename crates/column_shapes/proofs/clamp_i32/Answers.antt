-- `column_shapes::clamp_i32` meets its contract. Assumes nothing.
use mathlib.Core.Path.{◌≡◌, sym, ap₂, ◌∙◌}
use mathlib.Core.Bool.{Bool}
use lib.IntN.{ℤ}
use lib.Signed.{lt_z}
use mir.Syntax.{w32}
use mir.Val.{SFits, of_z, to_z}
use mir.ValLaws.{to_z-of_z}
use Rattle.column_shapes.specs.Shapes.{clamp_of}
use Rattle.column_shapes.proofs.clamp_i32.Goals as goal

order : {a b : ℤ} {t : Bool} → SFits w32 a → SFits w32 b → lt_z (to_z w32 (of_z w32 a)) (to_z w32 (of_z w32 b)) ≡ t → lt_z a b ≡ t
order {a} {b} h k e = sym (ap₂ lt_z (to_z-of_z w32 a h) (to_z-of_z w32 b k)) ∙ e

pub returns-then-n-lo : goal.returns-then-n-lo
unfolding clamp_of
returns-then-n-lo c = to_z-of_z w32 c.args.lo c.ranges.lo ∙ sym (simp (order c.ranges.n c.ranges.lo c.if-n-lo.true))

pub returns-then-n-hi : goal.returns-then-n-hi
unfolding clamp_of
returns-then-n-hi c =
    to_z-of_z w32 c.args.hi c.ranges.hi
    ∙ sym (simp (order c.ranges.n c.ranges.lo c.if-n-lo.false, order c.ranges.hi c.ranges.n c.if-n-hi.true))

pub returns-else-n-hi : goal.returns-else-n-hi
unfolding clamp_of
returns-else-n-hi c =
    to_z-of_z w32 c.args.n c.ranges.n
    ∙ sym (simp (order c.ranges.n c.ranges.lo c.if-n-lo.false, order c.ranges.hi c.ranges.n c.if-n-hi.false))
