use Rattle.cave_rows.specs.Layers.{to_more}
use Rattle.cave_rows.proofs.first_layers.Goals as goal

pub loop-o-preserved : goal.loop-o-preserved
loop-o-preserved c =
    let a = c.args in
    let l = c.loop-o in
    to_more a.y a.z a.n a.floors.now a.eases.now c.requires.most l.o l.edges _ c.layer_rows.ensures l.invariant
