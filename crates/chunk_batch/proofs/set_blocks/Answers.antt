-- `chunk_batch::set_blocks` meets its contract: its tests in the definition's order, then the groups. Assumes nothing.
use Rattle.std.proofs.Common.{ℕ, ◌+◌, ◌-◌, sym, ap₂, ◌∙◌, refl, arith, List, [], ◌∷◌}
use Rattle.std.proofs.lemmas.Result.{err_from_is_err_and}
use Rattle.grid.specs.Grid.{cube_most}
use Rattle.config.specs.Answers.{accepted, cells_outcome}
use Rattle.chunk.specs.Tests.{chunk_passed, cube_of, count_passed}
use Rattle.chunk.specs.Moves.{edit_count_refused, edit_done}
use Rattle.chunk_batch.specs.Calls.{chunk_batch_does}
use Rattle.chunk_batch.proofs.set_blocks.Goals as goal

pub any_change-change-requires : goal.any_change-change-requires
any_change-change-requires c = cube_of _ _ (chunk_passed _ _ (sym c.in_ok-refuse_chunk.ensures))

pub refuse_change-requires : goal.refuse_change-requires
refuse_change-requires c =
    let m = c.any_change-change.ensures.most_after in
    ((chunk_passed _ _ (sym c.in_ok-refuse_chunk.ensures)).most, omega arith)

pub returns-in_err-refuse_change : goal.returns-in_err-refuse_change
unfolding chunk_batch_does
returns-in_err-refuse_change c =
    let r = c.from_residual-in_err-refuse_change in
    let p = err_from_is_err_and r.result r.ensures.1 in
    let e = sym c.in_ok-refuse_chunk.ensures in
    rw (p.1, p.2) (edit_count_refused _ _ _ _ _ _ _ _ e c.any_change-change.ensures.moves _ c.in_err-refuse_change.ensures)

pub lay_groups-requires : goal.lay_groups-requires
lay_groups-requires c = cube_of _ _ (chunk_passed _ _ (sym c.in_ok-refuse_chunk.ensures))

pub overflow_sub-total : goal.overflow_sub-total
overflow_sub-total c = (count_passed _ _ _ _ (sym c.in_ok-refuse_change.ensures)).low

pub overflow_cast-total-2 : goal.overflow_cast-total-2
overflow_cast-total-2 c =
    let h = (count_passed _ _ _ _ (sym c.in_ok-refuse_change.ensures)).high in
    let l = cube_most _ (chunk_passed _ _ (sym c.in_ok-refuse_chunk.ensures)).most in
    omega arith

pub returns : goal.returns
unfolding chunk_batch_does
returns c =
    let r = c.any_change-change.result in
    let e = sym c.in_ok-refuse_chunk.ensures in
    ap₂ (λ (k : ℕ) (d : List ℕ). cells_outcome (accepted (k ∷ (c.args.count + r.after - r.before) ∷ [])) d) c.count_inside-n.ensures c.lay_groups.ensures
    ∙ edit_done _ _ _ (_ ∷ []) _ _ _ _ e c.any_change-change.ensures.moves 0 c.in_ok-refuse_change.ensures refl
