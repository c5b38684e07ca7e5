-- `chunk_edit::set` meets its contract: its tests in the definition's order, then the cell. Assumes nothing.
use Rattle.std.proofs.Common.{sym, refl, arith, [], length}
use Rattle.std.proofs.lemmas.Result.{err_from_is_err_and}
use Rattle.grid.specs.Grid.{cube_most}
use Rattle.grid.specs.Count.{non_air_most}
use Rattle.chunk.specs.Tests.{CellOk, cell_passed, cell_at_lem, chunk_most, count_passed}
use Rattle.chunk.specs.Moves.{edit_count_refused, edit_done, set_moves, set_lays}
use Rattle.chunk_edit.specs.Calls.{chunk_set_does}
use Rattle.chunk_edit.proofs.set.Goals.{After-cell_index-i}
use Rattle.chunk_edit.proofs.set.Goals as goal

-- past the cell's test
cell : (c : After-cell_index-i) → CellOk c.args.size (length c.args.cells.now) c.args.x c.args.y c.args.z
cell c = cell_passed _ _ _ _ _ (sym c.in_ok-refuse_cell.ensures)

pub cell_index-i-requires : goal.cell_index-i-requires
cell_index-i-requires c =
    let h = cell_passed _ _ _ _ _ (sym c.in_ok-refuse_cell.ensures) in
    (h.chunk.most, h.cell.x_in, h.cell.y_in, h.cell.z_in)

pub offset_bounds-cells-i : goal.offset_bounds-cells-i
offset_bounds-cells-i c =
    let h = cell_passed _ _ _ _ _ (sym c.in_ok-refuse_cell.ensures) in
    omega (arith, cell_at_lem _ _ _ _ _ h, chunk_most _ _ h.chunk)

pub bounds-cells-i : goal.bounds-cells-i
bounds-cells-i c = omega (arith, cell_at_lem _ _ _ _ _ (cell_passed _ _ _ _ _ (sym c.in_ok-refuse_cell.ensures)))

pub refuse_count-requires : goal.refuse_count-requires
refuse_count-requires c = ((cell (goal.at.refuse_count-requires c).After-cell_index-i).chunk.most, omega (arith, non_air_most c.args.id))

pub returns-in_err-refuse_count : goal.returns-in_err-refuse_count
unfolding chunk_set_does
returns-in_err-refuse_count c =
    let b = (goal.at.returns-in_err-refuse_count c).After-cell_index-i in
    let r = c.from_residual-in_err-refuse_count in
    let p = err_from_is_err_and r.result r.ensures.1 in
    let m = set_moves _ _ _ _ _ _ _ _ _ (cell b) b.cell_index-i.ensures c.non_air-before.ensures c.non_air-after.ensures in
    rw (p.1, p.2) (edit_count_refused _ _ _ [] _ _ _ _ (sym b.in_ok-refuse_cell.ensures) m _ c.in_err-refuse_count.ensures)

pub offset_bounds-cells-i-2 : goal.offset_bounds-cells-i-2
offset_bounds-cells-i-2 c =
    let h = cell (goal.at.offset_bounds-cells-i-2 c).After-cell_index-i in
    omega (arith, cell_at_lem _ _ _ _ _ h, chunk_most _ _ h.chunk)

pub bounds-cells-i-2 : goal.bounds-cells-i-2
bounds-cells-i-2 c = omega (arith, cell_at_lem _ _ _ _ _ (cell (goal.at.bounds-cells-i-2 c).After-cell_index-i))

pub overflow_add-result : goal.overflow_add-result
overflow_add-result c =
    let k = count_passed _ _ _ _ (sym c.in_ok-refuse_count.ensures) in
    let l = cube_most _ (cell (goal.at.overflow_add-result c).After-cell_index-i).chunk.most in
    omega (arith, non_air_most c.args.id)

pub overflow_sub-result : goal.overflow_sub-result
overflow_sub-result c = (count_passed _ _ _ _ (sym c.in_ok-refuse_count.ensures)).low

pub returns : goal.returns
unfolding chunk_set_does
returns c =
    let b = (goal.at.returns c).After-cell_index-i in
    let a = b.args in
    let h = cell b in
    let m = set_moves _ _ _ _ _ _ _ _ _ h b.cell_index-i.ensures c.non_air-before.ensures c.non_air-after.ensures in
    rw (set_lays a.size a.x a.y a.z a.id _ a.cells.now h b.cell_index-i.ensures)
    (edit_done _ _ _ [] _ _ _ _ (sym b.in_ok-refuse_cell.ensures) m 0 c.in_ok-refuse_count.ensures refl)
