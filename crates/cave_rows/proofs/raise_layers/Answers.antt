use mathlib.Core.Path.{sym, subst}
use Prim.Native.Nat.{◌+◌}
use Rattle.cave_rows.specs.Layers.{LayersTo, LayersFrom, to_more, to_same, from_kept, from_less}
use Rattle.cave_rows.proofs.raise_layers.Goals.{then-floors-level, else-floors-level}
use Rattle.cave_rows.proofs.raise_layers.Goals as goal

pub loop-o-preserved : goal.loop-o-preserved
loop-o-preserved c =
    let a = c.args in
    let l = c.loop-o in
    let i = l.invariant in
    let fs = a.floors.now in
    let es = a.eases.now in
    let m = c.requires.1.most in
    let to = LayersTo (l.o + 1) a.y a.z a.n fs es in
    let on = LayersFrom (l.o + 1) a.from a.z a.n fs es in
    elim c.if-floors-level.branch [
      | then-floors-level w ↦ record {
        raised = subst to (sym w.edges-is) (to_more a.y a.z a.n fs es m l.o l.edges _ w.layer_rows.ensures i.raised);
        left = subst on (sym w.edges-is) (from_kept a.y a.z a.n fs es m l.o a.from l.edges _ w.layer_rows.ensures i.left);
      }
      | else-floors-level w ↦ record {
        raised =
            subst to (sym w.edges-is)
            (to_same a.y a.z a.n fs es m l.o a.from l.edges c.loop-o-test.true w.if-floors-level.false i.left i.raised);
        left = subst on (sym w.edges-is) (from_less a.y a.z a.n fs es m l.o a.from l.edges i.left);
      }
    ]
