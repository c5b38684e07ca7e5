use Rattle.std.proofs.Common.{ℕ, ap, ◌∙◌, List}
use Rattle.grid.specs.Grid.{steps_none, steps_more}
use Rattle.planes_write.specs.Writing.{put_id, put_bytes}
use Rattle.planes_write.proofs.put_bytes.Goals as goal

pub loop-j-init : goal.loop-j-init
loop-j-init c = steps_none _ _

pub loop-j-preserved : goal.loop-j-preserved
unfolding put_id
loop-j-preserved c =
    let a = c.args in
    let g : ℕ → List ℕ → List ℕ = put_bytes a.block.now a.n a.m in
    ap (g c.loop-j.j) c.loop-j.invariant ∙ steps_more c.loop-j.j g a.bytes.now
