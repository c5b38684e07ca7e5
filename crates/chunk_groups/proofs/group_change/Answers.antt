-- `chunk_groups::group_change` meets its contract. Assumes nothing.
use mathlib.Core.Path.{sym, ap, ◌∙◌}
use native.Mathlib.Omega.{arith}
use Rattle.grid.specs.Count.{non_air}
use Rattle.grid_edits.specs.Edits.{group}
use Rattle.chunk_groups.specs.Laid.{group_inside_lem}
use Rattle.chunk_groups.specs.Net.{net_outside, net_inside}
use Rattle.chunk_groups.proofs.group_change.Goals.{After-is_inside}
use Rattle.chunk_groups.proofs.group_change.Goals as goal

pub returns-then-not-is_inside : goal.returns-then-not-is_inside
returns-then-not-is_inside c =
    let a = c.args in
    net_outside a.size a.edits.now a.k a.cells.now _ c.group_at-g.ensures (sym c.is_inside.ensures ∙ c.if-not-is_inside.true)

pub id_after-old-requires : goal.id_after-old-requires
id_after-old-requires c =
    let g = c.group_at-g.result in
    (c.requires.0, group_inside_lem c.args.size (group g.x g.y g.z g.id) (sym c.is_inside.ensures ∙ c.if-not-is_inside.false), omega arith)

pub returns : goal.returns
returns c =
    let a = c.args in
    let i = (goal.at.returns c).After-is_inside in
    net_inside a.size a.edits.now a.k a.cells.now _ _ i.group_at-g.ensures
    (sym i.is_inside.ensures ∙ c.if-not-is_inside.false)
    c.requires.0
    (c.non_air.ensures ∙ ap non_air c.id_after-old.ensures)
    c.non_air-2.ensures
