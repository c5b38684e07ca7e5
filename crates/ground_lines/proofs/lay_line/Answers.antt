-- A cell laid by its flag is the base's (`cell_is`). Assumes nothing.
use Rattle.std.proofs.Common.{◌+◌, ◌*◌, ℤ, pos, ◌+ℤ◌, false, get_or, ap, ap₂, ◌∙◌, arith}
use Rattle.std.proofs.Common.{ℕ, ◌≤◌, ◌<◌}
use Rattle.std.proofs.Math.Arith.{digits_lt}
use Rattle.grid.specs.Grid.{cube_most}
use mir.Syntax.{w32}
use Rattle.basics.specs.Words.{read, back}
use Rattle.ground_cell.specs.World.{cell_with, top_with}
use Rattle.ground_lines.specs.Laws.{laying_none, laying_more, laying_all, line_fits_lem, cell_is}
use Rattle.ground_lines.proofs.lay_line.Goals as goal

-- the place of a cell is small
small : (size x y z : ℕ) → size ≤ 64 → x < size → y < size → z < size → (z * size + y) * size + x < 262144
small size x y z m hx hy hz = let i = digits_lt (digits_lt hz hy) hx in let v = cube_most size m in omega arith

pub overflow_add-cells : goal.overflow_add-cells
overflow_add-cells c =
    let a = c.args in
    let k = small a.o.size c.loop-x.x a.y a.z c.requires.1.most c.loop-x-test.true c.requires.2 c.requires.3 in
    omega arith

pub offset_bounds-cells-first : goal.offset_bounds-cells-first
offset_bounds-cells-first c =
    let a = c.args in
    let k = small a.o.size c.loop-x.x a.y a.z c.requires.1.most c.loop-x-test.true c.requires.2 c.requires.3 in
    omega arith

pub loop-x-init : goal.loop-x-init
loop-x-init c = laying_none c.args.w c.args.o _ c.args.cells.now c.requires.6.all

pub loop-x-preserved : goal.loop-x-preserved
loop-x-preserved c =
    let a = c.args in
    let r = c.requires in
    let l = c.loop-x in
    let t = c.loop-x-test.true in
    let k = a.z * a.o.size + l.x in
    let wy = read w32 c.along-wy.type_inv (c.along-wy.ensures ∙ ap (λ (u : ℤ). u +ℤ pos a.y) (back a.o.oy r.1.y)) in
    let e =
    c.cell.ensures
    ∙ ap₂ (λ (u h : ℤ). cell_with (top_with (get_or a.heights.now k 0) (get_or a.biomes.now k 0)) u h (get_or a.flags.now l.x false))
    (back a.w.sea_level r.0.sea) wy
    ∙ cell_is a.w a.o a.heights.now a.biomes.now a.flags.now r.4 l.x a.y a.z t r.2 r.3 r.5 in
    laying_more a.w a.o (a.z * a.o.size + a.y) l.x a.cells.now l.cells _ (line_fits_lem a.w a.o l.x a.y a.z t r.2 r.3) e l.invariant

pub returns : goal.returns
returns c =
    let a = c.args in
    let l = c.loop-x in
    laying_all a.w a.o (a.z * a.o.size + a.y) l.x a.cells.now l.cells (omega arith) l.invariant
