-- `ground_crown::leaf_at` meets its contract. Assumes nothing.
use mathlib.Core.Path.{◌≡◌, sym, ap, ◌∙◌}
use Prim.Native.Nat.{ℕ}
use lib.ListN.{get_or}
use borrow.Author.Tests.{eq-eqb, ne_eqb}
use Rattle.grid.specs.Cube.{cell_index}
use Rattle.grid.specs.Grid.{in_all, out_x, out_y, out_z}
use Rattle.ground_crown.specs.Crown.{leaf_at}
use Rattle.ground_crown.proofs.leaf_at.Goals as goal

pub returns-then-x-size : goal.returns-then-x-size
unfolding leaf_at
returns-then-x-size c = let a = c.args in rw (out_x a.size a.x a.y a.z c.if-x-size.true)

pub returns-then-y-size : goal.returns-then-y-size
unfolding leaf_at
returns-then-y-size c = let a = c.args in rw (out_y a.size a.x a.y a.z c.if-x-size.false c.if-y-size.true)

pub returns-then-z-size : goal.returns-then-z-size
unfolding leaf_at
returns-then-z-size c =
    let a = c.args in
    rw (out_z a.size a.x a.y a.z c.if-x-size.false c.if-y-size.false c.if-z-size.true)

pub returns-then-cells-i-eq-AIR : goal.returns-then-cells-i-eq-AIR
unfolding leaf_at
returns-then-cells-i-eq-AIR c =
    let a = c.args in
    let t : get_or a.cells.now (cell_index a.size a.x a.y a.z) 0 ≡ 0 =
    ap (λ (k : ℕ). get_or a.cells.now k 0) (sym c.cell_index-i.ensures) ∙ c.if-cells-i-eq-AIR.true in
    rw (in_all a.size a.x a.y a.z c.if-x-size.false c.if-y-size.false c.if-z-size.false, c.cell_index-i.ensures, eq-eqb _ _ t)

pub returns : goal.returns
unfolding leaf_at
returns c =
    let a = c.args in
    let t : get_or a.cells.now (cell_index a.size a.x a.y a.z) 0 ≡ 0 → ⊥ =
    λ h. c.if-cells-i-eq-AIR.false (ap (λ (k : ℕ). get_or a.cells.now k 0) c.cell_index-i.ensures ∙ h) in
    rw (in_all a.size a.x a.y a.z c.if-x-size.false c.if-y-size.false c.if-z-size.false, ne_eqb _ _ t)
