use Rattle.std.proofs.Common.{ℕ, ◌*◌, sym, ap, ap₂, ◌∙◌}
use Rattle.grid.specs.Cube.{see_at}
use Rattle.grid_edits.specs.Edits.{Group}
use Rattle.journal_write.specs.Groups.{group_of}
use Rattle.chunk_groups.specs.Laid.{laid, id_over, laid_none, laid_more, laid_cube, see_put}
use Rattle.chunk_groups.proofs.id_after.Goals as goal

pub loop-j-init : goal.loop-j-init
loop-j-init c =
    let a = c.args in
    c.see-v.ensures ∙ ap (see_at a.size a.x a.y a.z) (laid_none a.size a.edits.now a.cells.now)

pub loop-j-preserved : goal.loop-j-preserved
loop-j-preserved c =
    let a = c.args in
    let l = c.loop-j in
    let ns = a.edits.now in
    let d = laid a.size ns l.j a.cells.now in
    c.id_over-v.ensures
    ∙ ap₂ (λ (g : Group). λ (v : ℕ). id_over g a.x a.y a.z v) c.group_at.ensures l.invariant
    ∙ sym (see_put a.size a.x a.y a.z d (laid_cube a.size ns l.j a.cells.now c.requires.0).all c.requires.1 (group_of ns (4 * l.j)))
    ∙ ap (see_at a.size a.x a.y a.z) (laid_more a.size ns l.j a.cells.now)
