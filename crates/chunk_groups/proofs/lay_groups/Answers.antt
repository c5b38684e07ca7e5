use Rattle.std.proofs.Common.{◌*◌, ap, ◌∙◌, arith}
use Rattle.grid_edits.specs.Edits.{Group, put_group}
use Rattle.journal_write.specs.Groups.{group_of}
use Rattle.chunk_groups.specs.Laid.{laid_none, laid_more, laid_all}
use Rattle.chunk_groups.proofs.lay_groups.Goals.{After-group_at-g, After-put}
use Rattle.chunk_groups.proofs.lay_groups.Goals as goal

pub loop-k-init : goal.loop-k-init
loop-k-init c = let a = c.args in laid_none a.size a.edits.now a.cells.now

pub loop-k-preserved : goal.loop-k-preserved
loop-k-preserved c =
    let p = (goal.at.loop-k-preserved c).After-put in
    let g = (goal.at.After-put p).After-group_at-g in
    let a = g.args in
    let l = g.loop-k in
    let ns = a.edits.now in
    p.put.ensures
    ∙ ap (λ (e : Group). put_group a.size e l.cells) g.group_at-g.ensures
    ∙ ap (put_group a.size (group_of ns (4 * l.k))) l.invariant
    ∙ laid_more a.size ns l.k a.cells.now

pub returns : goal.returns
returns c =
    let a = c.args in
    c.loop-k.invariant ∙ laid_all a.size a.edits.now c.loop-k.k a.cells.now (omega arith)
