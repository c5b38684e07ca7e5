use Rattle.std.proofs.Common.{ap, ◌∙◌}
use Rattle.grid.specs.Cube.{put_at}
use Rattle.chunk.specs.Moves.{lay_none, lay_more}
use Rattle.chunk.proofs.lay_column.Goals as goal

pub loop-y-init : goal.loop-y-init
loop-y-init c = lay_none _ _ _ _ _

pub loop-y-preserved : goal.loop-y-preserved
loop-y-preserved c =
    let a = c.args in c.put.ensures ∙ ap (put_at a.size a.x c.loop-y.y a.z a.id) c.loop-y.invariant ∙ lay_more _ _ _ _ _ _
