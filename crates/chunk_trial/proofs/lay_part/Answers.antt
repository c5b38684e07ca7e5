use Rattle.std.proofs.Common.{◌*◌, ap, ◌∙◌}
use Rattle.grid_edits.specs.Edits.{Group}
use Rattle.journal_write.specs.Groups.{group_of}
use Rattle.chunk_trial.specs.Trial.{put_part, part_none, part_more}
use Rattle.chunk_trial.proofs.lay_part.Goals.{After-group_at-g, After-put_part}
use Rattle.chunk_trial.proofs.lay_part.Goals as goal

pub loop-k-init : goal.loop-k-init
loop-k-init c = let a = c.args in part_none a.start a.size a.edits.now a.part.now

pub loop-k-preserved : goal.loop-k-preserved
loop-k-preserved c =
    let p = (goal.at.loop-k-preserved c).After-put_part in
    let g = (goal.at.After-put_part p).After-group_at-g in
    let a = g.args in
    let l = g.loop-k in
    let ns = a.edits.now in
    p.put_part.ensures
    ∙ ap (λ (e : Group). put_part a.start a.size e l.part) g.group_at-g.ensures
    ∙ ap (put_part a.start a.size (group_of ns (4 * l.k))) l.invariant
    ∙ part_more a.start a.size ns l.k a.part.now
