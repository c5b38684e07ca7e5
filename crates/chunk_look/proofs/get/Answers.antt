-- `chunk_look::get` meets its contract: past the test the cell has its place in the slice. Assumes nothing.
use Rattle.std.proofs.Common.{sym, arith}
use Rattle.chunk.specs.Tests.{cell_passed, cell_at_lem, chunk_most}
use Rattle.chunk_look.proofs.get.Goals as goal

pub cell_index-requires : goal.cell_index-requires
cell_index-requires c =
    let h = cell_passed _ _ _ _ _ (sym c.in_ok-refuse_cell.ensures) in
    (h.chunk.most, h.cell.x_in, h.cell.y_in, h.cell.z_in)

pub offset_bounds-cells-cell_index : goal.offset_bounds-cells-cell_index
offset_bounds-cells-cell_index c =
    let h = cell_passed _ _ _ _ _ (sym c.in_ok-refuse_cell.ensures) in
    omega (arith, cell_at_lem _ _ _ _ _ h, chunk_most _ _ h.chunk)

pub bounds-cells-cell_index : goal.bounds-cells-cell_index
bounds-cells-cell_index c = omega (arith, cell_at_lem _ _ _ _ _ (cell_passed _ _ _ _ _ (sym c.in_ok-refuse_cell.ensures)))
