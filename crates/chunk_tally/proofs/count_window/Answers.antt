use Rattle.std.proofs.Common.{◌<◌, sym, ap, ◌∙◌, subst, rules, arith, length, get_or, take}
use Rattle.std.proofs.Math.Seq.{length-take-le}
use Rattle.chunk_tally.specs.Ids.{bump_at, bump_table, table_filled, table_room, TableRoom}
use Rattle.chunk_tally.proofs.count_window.Goals as goal

pub loop-id-init : goal.loop-id-init
loop-id-init c = c.fill.ensures.after (λ y h. search rules) ∙ table_filled _ _ c.requires.0

pub bump-requires : goal.bump-requires
bump-requires c =
    let l = c.loop-id in
    let t : l.id-index < length c.args.cells.now = omega arith in
    let m = length-take-le l.id-index c.args.cells.now (omega arith) in
    subst TableRoom (sym l.invariant) (table_room c.args.base (take l.id-index c.args.cells.now) (omega (arith, c.requires.1)))

pub loop-id-preserved : goal.loop-id-preserved
loop-id-preserved c =
    let l = c.loop-id in
    let cs = c.args.cells.now in
    c.bump.ensures ∙ ap (bump_at c.args.base (get_or cs l.id-index 0)) l.invariant ∙ bump_table c.args.base cs l.id-index (omega arith)
