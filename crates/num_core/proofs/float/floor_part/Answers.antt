-- `num_core::floor_part` meets its contract. Assumes nothing.
use mathlib.Core.Path.{sym, subst, ◌∙◌}
use mathlib.Core.Bool.{true, false}
use lib.IntN.{pos}
use lib.Ieee.{fin, lt, of_bits, neg, to_signed}
use lib.Ieee.Casts.{to_signed_in}
use mir.Syntax.{w32}
use mir.ValLaws.{to_z-of_z}
use Rattle.basics.specs.Bools.{is_T, and_both}
use Rattle.num_core.proofs.Floor.{Fast, fast_centre}
use Rattle.num_core.proofs.float.floor_part.Goals.{Joined-t-x, then-t-x, else-t-x}
use Rattle.num_core.proofs.float.floor_part.Goals as goal

-- the float that is answered, by whichever arm it came
near : (c : Joined-t-x) → Fast c.args.x c.if-t-x.f
unfolding of_bits neg
near c =
    let x = c.args.x in
    let h = and_both (lt (fin true 1 (pos 22)) x) (lt x (fin false 1 (pos 22))) c.if-x.true in
    let b = fast_centre x (is_T c.well_formed.0.1) h.0 h.1 in
    elim c.if-t-x.branch [
      | then-t-x w ↦ subst (Fast x) (sym w.f-is) (b.0 w.if-t-x.true)
      | else-t-x w ↦ subst (Fast x) (sym w.f-is) (b.1 w.if-t-x.false)
    ]

pub float_to_int-result : goal.float_to_int-result
float_to_int-result c = (near (goal.at.float_to_int-result c).Joined-t-x).casts

pub returns-after-t-x : goal.returns-after-t-x
returns-after-t-x c =
    let f = near (goal.at.returns-after-t-x c).Joined-t-x in
    (to_z-of_z w32 (to_signed 31 c.if-t-x.f) (record { sfits = to_signed_in 31 c.if-t-x.f }) ∙ f.int, f.float)
