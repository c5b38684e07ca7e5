-- `num_core::far_part` meets its contract. Assumes nothing.
use mathlib.Core.Path.{◌≡◌, ◌∙◌, ap}
use Rattle.basics.specs.Words.{read}
use lib.Ieee.{Float, binary32, of_bits, neg, of_int, to_signed}
use lib.Ieee.Casts.{to_signed_in}
use mir.Syntax.{w32}
use mir.Val.{of_z, to_z}
use mir.ValLaws.{to_z-of_z}
use Rattle.num_core.specs.Num.{floor_i, to_i32}
use Rattle.basics.specs.Bools.{is_T}
use Rattle.num_core.proofs.Floor.{Fast, fast_above, fast_below, far_above, far_below}
use Rattle.num_core.proofs.float.far_part.Goals.{then-x+else-x-2, else-x+else-x-3}
use Rattle.num_core.proofs.float.far_part.Goals as goal

answer : {x g : Float} → Fast x g → (to_z w32 (of_z w32 (to_signed 31 g)) ≡ floor_i x) × (g ≡ of_int binary32 (floor_i x))
answer {x} {g} f = (to_z-of_z w32 (to_signed 31 g) (record { sfits = to_signed_in 31 g }) ∙ f.int, f.float)

pub float_to_int-result : goal.float_to_int-result
unfolding of_bits neg
float_to_int-result c = ((fast_below c.args.x c.if-x.true c.if-x-2.true).0 c.if-t-x.true).casts

pub returns-then-t-x : goal.returns-then-t-x
unfolding of_bits neg
returns-then-t-x c = answer ((fast_below c.args.x c.if-x.true c.if-x-2.true).0 c.if-t-x.true)

pub float_to_int-result-then-x-2 : goal.float_to_int-result-then-x-2
unfolding of_bits neg
float_to_int-result-then-x-2 c = ((fast_below c.args.x c.if-x.true c.if-x-2.true).1 c.if-t-x.false).casts

pub returns-then-x-2 : goal.returns-then-x-2
unfolding of_bits neg
returns-then-x-2 c = answer ((fast_below c.args.x c.if-x.true c.if-x-2.true).1 c.if-t-x.false)

pub float_to_int-result-then-t-x-2 : goal.float_to_int-result-then-t-x-2
unfolding of_bits neg
float_to_int-result-then-t-x-2 c = ((fast_above c.args.x (is_T c.well_formed.0.1) c.if-x.false c.if-x-3.true).0 c.if-t-x-2.true).casts

pub returns-then-t-x-2 : goal.returns-then-t-x-2
unfolding of_bits neg
returns-then-t-x-2 c = answer ((fast_above c.args.x (is_T c.well_formed.0.1) c.if-x.false c.if-x-3.true).0 c.if-t-x-2.true)

pub float_to_int-result-then-x-3 : goal.float_to_int-result-then-x-3
unfolding of_bits neg
float_to_int-result-then-x-3 c = ((fast_above c.args.x (is_T c.well_formed.0.1) c.if-x.false c.if-x-3.true).1 c.if-t-x-2.false).casts

pub returns-then-x-3 : goal.returns-then-x-3
unfolding of_bits neg
returns-then-x-3 c = answer ((fast_above c.args.x (is_T c.well_formed.0.1) c.if-x.false c.if-x-3.true).1 c.if-t-x-2.false)

pub returns : goal.returns
unfolding of_bits neg
returns c =
    let x = c.args.x in
    let far : to_i32 x ≡ floor_i x =
    elim c.if-x.branch [
      | then-x+else-x-2 w ↦ far_below x (is_T c.well_formed.0.1) w.if-x.true w.if-x-2.false
      | else-x+else-x-3 w ↦ far_above x (is_T c.well_formed.0.1) w.if-x.false w.if-x-3.false
    ] in
    let e = c.to_i32-i.ensures ∙ far in
    (read w32 c.to_i32-i.type_inv e, c.of_i32-f.ensures ∙ ap (of_int binary32) (read w32 c.to_i32-i.type_inv e))
