-- The column at x and z is column z * size + x. Assumes nothing.
use Rattle.std.proofs.Common.{◌≡◌, ℕ, ◌+◌, ◌*◌, ◌<◌, List, ℤ, ap, ◌∙◌, arith}
use Rattle.std.proofs.Math.Arith.{digits_div, digits_mod}
use mir.Syntax.{w32}
use mir.ValLaws.{to_z-of_z}
use Rattle.basics.specs.Words.{again}
use Rattle.grid_slabs.specs.Rows.{over_rows, columns_none, columns_more, columns_next, columns_all}
use Rattle.ground_cell.specs.declared.world.Frame.{Frame}
use Rattle.ground_cell.specs.declared.world.Top.{Top}
use Rattle.ground_trees.specs.Features.{top_in}
use Rattle.ground_trees.specs.Slabs.{tree_column_in, tree_step_in}
use Rattle.ground_trees.proofs.tree.place_trees.Goals as goal

step_at : (lo hi : ℕ) (o : Frame) (sea : ℤ) (t : ℕ → Top) (z x : ℕ) (d : List ℕ) → x < o.size
    → tree_column_in lo hi o sea (t (z * o.size + x)) x z d ≡ tree_step_in lo hi o sea t (z * o.size + x) d
unfolding tree_step_in
step_at lo hi o sea t z x d h = rw (digits_mod z h, digits_div z h)

pub loop-z-init : goal.loop-z-init
loop-z-init c = columns_none _ _ _ _

pub loop-x-preserved : goal.loop-x-preserved
loop-x-preserved c =
    let a = c.args in
    let z = c.loop-z.z in
    let l = c.loop-x in
    c.tree_column.ensures
    ∙ step_at a.lo a.hi a.o (again w32 a.sea) (top_in a.heights.now a.biomes.now) z l.x l.cells c.loop-x-test.true
    ∙ columns_more a.o.size a.first _ a.cells.now z l.x l.cells (omega arith) l.invariant

pub loop-z-preserved : goal.loop-z-preserved
loop-z-preserved c =
    let a = c.args in
    let l = c.loop-x in
    let e : l.x ≡ a.o.size = omega arith in
    columns_next a.o.size a.first _ a.cells.now c.loop-z.z l.cells (omega arith) (rw e at l.invariant)

pub returns : goal.returns
returns c =
    let a = c.args in
    let l = c.loop-z in
    let e : l.z ≡ a.last = omega arith in
    rw e at (columns_all a.o.size a.first _ a.cells.now l.z l.cells l.invariant)
    ∙ ap (λ (u : ℤ). over_rows a.o.size a.first a.last (tree_step_in a.lo a.hi a.o u (top_in a.heights.now a.biomes.now)) a.cells.now)
    (to_z-of_z w32 a.sea c.ranges.sea)
