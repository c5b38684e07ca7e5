-- `ground_boulders::whole` meets its contract. Assumes nothing.
use mathlib.Core.Path.{ap, ◌∙◌}
use native.Mathlib.Omega.{arith}
use Rattle.ground_boulders.specs.Signs.{range_length, whole_part}
use Rattle.ground_boulders.proofs.Counts.{floor_none, floor_some}
use Rattle.ground_boulders.proofs.whole.Goals as goal

pub returns-then-n-lt0 : goal.returns-then-n-lt0
unfolding whole_part
returns-then-n-lt0 c = (floor_none c.to_i32-n.result c.to_i32-n.type_inv c.if-n-lt0.true ∙ ap range_length c.to_i32-n.ensures, omega arith)

pub returns-else-n-lt0 : goal.returns-else-n-lt0
unfolding whole_part
returns-else-n-lt0 c =
    let q = floor_some c.to_i32-n.result c.to_i32-n.type_inv c.if-n-lt0.false in
    (q.0 ∙ ap range_length c.to_i32-n.ensures, q.1)
