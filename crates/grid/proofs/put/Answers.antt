-- `grid::put` meets its contract: a cell of the chunk has its place in the slice. Assumes nothing.
use Rattle.std.proofs.Common.{sym, arith}
use Rattle.grid.specs.Cube.{put_at}
use Rattle.grid.specs.Grid.{inside_true, index_below}
use Rattle.grid.proofs.put.Goals as goal

pub cell_index-requires : goal.cell_index-requires
cell_index-requires c = let h = inside_true _ _ _ _ (sym c.if-is_inside.ensures) in (c.requires.most, h.x_in, h.y_in, h.z_in)

pub offset_bounds-cells-cell_index : goal.offset_bounds-cells-cell_index
offset_bounds-cells-cell_index c = omega (arith, index_below c.requires (inside_true _ _ _ _ (sym c.if-is_inside.ensures)))

pub bounds-cells-cell_index : goal.bounds-cells-cell_index
bounds-cells-cell_index c = omega (arith, index_below c.requires (inside_true _ _ _ _ (sym c.if-is_inside.ensures)))

pub returns-then-is_inside : goal.returns-then-is_inside
unfolding put_at
returns-then-is_inside c = rw (← c.if-is_inside.ensures, c.cell_index.ensures)

pub returns-else-is_inside : goal.returns-else-is_inside
unfolding put_at
returns-else-is_inside c = rw (← c.if-is_inside.ensures)
