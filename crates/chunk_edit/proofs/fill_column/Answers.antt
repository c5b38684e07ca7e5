-- `chunk_edit::fill_column` meets its contract: its tests in the definition's order, then the column. Assumes nothing.
use Rattle.std.proofs.Common.{◌≡◌, ℕ, ◌*◌, ◌≤◌, sym, ap, refl, arith, []}
use Rattle.std.proofs.lemmas.Result.{err_from_is_err_and}
use Rattle.grid.specs.Grid.{cube_most}
use Rattle.grid.specs.Count.{non_air, non_air_most}
use Rattle.grid_edits.specs.Edits.{clipped_height}
use Rattle.chunk.specs.Tests.{chunk_passed, cube_of, count_passed}
use Rattle.chunk.specs.Moves.{edit_count_refused, edit_done, fill_moves, fill_lays, height_most, column_small}
use Rattle.chunk_edit.specs.Calls.{chunk_fill_does}
use Rattle.chunk_edit.proofs.fill_column.Goals as goal

-- how much is laid: at most a column of blocks
laid : (size x z height h id n : ℕ) → size ≤ 64 → h ≡ clipped_height size x z height → n ≡ non_air id → (h ≤ size) × (h * n ≤ 64)
laid size x z height h id n s e f =
    let m = height_most size x z height in
    let k = non_air_most id in
    (omega arith, column_small h n (omega arith) (omega arith))

pub column_count-before-requires : goal.column_count-before-requires
column_count-before-requires c =
    let a = c.args in
    let h = chunk_passed _ _ (sym c.in_ok-refuse_chunk.ensures) in
    (cube_of _ _ h, omega (arith, height_most a.size a.x a.z a.height))

pub overflow_cast-after : goal.overflow_cast-after
overflow_cast-after c =
    let a = c.args in
    let h = chunk_passed _ _ (sym c.in_ok-refuse_chunk.ensures) in
    omega (arith, height_most a.size a.x a.z a.height)

pub overflow_mul-after : goal.overflow_mul-after
overflow_mul-after c =
    let h = chunk_passed _ _ (sym c.in_ok-refuse_chunk.ensures) in
    omega (arith, laid _ _ _ _ _ _ _ h.most c.column_height-h.ensures c.non_air.ensures)

pub refuse_count-requires : goal.refuse_count-requires
refuse_count-requires c =
    let h = chunk_passed _ _ (sym c.in_ok-refuse_chunk.ensures) in
    (h.most, omega (arith, laid _ _ _ _ _ _ _ h.most c.column_height-h.ensures c.non_air.ensures))

pub returns-in_err-refuse_count : goal.returns-in_err-refuse_count
unfolding chunk_fill_does
returns-in_err-refuse_count c =
    let e = sym c.in_ok-refuse_chunk.ensures in
    let r = c.from_residual-in_err-refuse_count in
    let p = err_from_is_err_and r.result r.ensures.1 in
    let n = ap (λ (k : ℕ). c.column_height-h.result * k) c.non_air.ensures in
    let m = fill_moves _ _ _ _ _ _ _ _ _ (chunk_passed _ _ e).all c.column_height-h.ensures c.column_count-before.ensures n in
    rw (p.1, p.2) (edit_count_refused _ _ _ [] _ _ _ _ e m _ c.in_err-refuse_count.ensures)

pub lay_column-requires : goal.lay_column-requires
lay_column-requires c =
    let a = c.args in
    let h = chunk_passed _ _ (sym c.in_ok-refuse_chunk.ensures) in
    (cube_of _ _ h, omega (arith, height_most a.size a.x a.z a.height))

pub overflow_add-result : goal.overflow_add-result
overflow_add-result c =
    let h = chunk_passed _ _ (sym c.in_ok-refuse_chunk.ensures) in
    let k = count_passed _ _ _ _ (sym c.in_ok-refuse_count.ensures) in
    omega (arith, cube_most _ h.most, laid _ _ _ _ _ _ _ h.most c.column_height-h.ensures c.non_air.ensures)

pub overflow_sub-result : goal.overflow_sub-result
overflow_sub-result c = (count_passed _ _ _ _ (sym c.in_ok-refuse_count.ensures)).low

pub returns : goal.returns
unfolding chunk_fill_does
returns c =
    let a = c.args in
    let e = sym c.in_ok-refuse_chunk.ensures in
    let n = ap (λ (k : ℕ). c.column_height-h.result * k) c.non_air.ensures in
    let m = fill_moves _ _ _ _ _ _ _ _ _ (chunk_passed _ _ e).all c.column_height-h.ensures c.column_count-before.ensures n in
    rw (fill_lays a.size a.x a.z a.height a.id _ a.cells.now _ c.column_height-h.ensures c.lay_column.ensures)
    (edit_done _ _ _ [] _ _ _ _ e m 0 c.in_ok-refuse_count.ensures refl)
