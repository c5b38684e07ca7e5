-- `num_core::floor` meets its contract. Assumes nothing.
use mathlib.Core.Path.{◌≡◌, ◌∙◌, subst}
use mathlib.Core.Bool.{true, false}
use lib.Ieee.{Float, lt, of_bits, neg}
use Rattle.basics.specs.Bools.{is_T}
use Rattle.num_core.proofs.Floor.{floor_part_is, floor_far_above, floor_far_below}
use Rattle.num_core.proofs.float.floor.Goals as goal

pub returns-then-f-x : goal.returns-then-f-x
unfolding of_bits neg
returns-then-f-x c =
    let x = c.args.x in
    let e = c.far_part-p.ensures.1 in
    e
    ∙ (floor_part_is x (is_T c.well_formed.0.1) c.if-x.true c.if-x-2.true).0 (subst (λ (u : Float). lt u x ≡ true) e c.if-f-x.true)

pub returns-then-x-2 : goal.returns-then-x-2
unfolding of_bits neg
returns-then-x-2 c =
    let x = c.args.x in
    let e = c.far_part-p.ensures.1 in
    (floor_part_is x (is_T c.well_formed.0.1) c.if-x.true c.if-x-2.true).1 (subst (λ (u : Float). lt u x ≡ false) e c.if-f-x.false)

pub returns-then-x : goal.returns-then-x
unfolding of_bits neg
returns-then-x c = floor_far_above c.args.x (is_T c.well_formed.0.1) c.if-x-2.false

pub returns : goal.returns
unfolding of_bits neg
returns c = floor_far_below c.args.x (is_T c.well_formed.0.1) c.if-x.false
