-- The leaf at i and m is leaf i * w + m. Assumes nothing.
use Rattle.std.proofs.Common.{◌≡◌, ℕ, ◌+◌, ◌*◌, ◌<◌, List, ℤ, ◌∙◌, arith}
use Rattle.std.proofs.Math.Arith.{digits_div, digits_mod}
use mir.Syntax.{w32}
use mir.ValLaws.{to_z-of_z}
use Rattle.basics.specs.Paths.{ap₃}
use Rattle.basics.specs.Words.{again}
use Rattle.grid.specs.Cube.{steps}
use Rattle.grid.specs.Grid.{steps_none}
use Rattle.grid_slabs.specs.Rows.{row_more}
use Rattle.ground_crown.specs.Slabs.{leaf_step_in, layer_step_in, layer_in}
use Rattle.ground_crown.proofs.layer.Goals as goal

step_at : (lo hi size x z : ℕ) (wx wz : ℤ) (y r l i m : ℕ) (d : List ℕ) → m < 2 * r + 1
    → leaf_step_in lo hi size x z wx wz y r l i m d ≡ layer_step_in lo hi size x z wx wz y r l (i * (2 * r + 1) + m) d
unfolding layer_step_in
step_at lo hi size x z wx wz y r l i m d h = rw (digits_div i h, digits_mod i h)

pub loop-i-init : goal.loop-i-init
loop-i-init c = let none : 0 * (2 * c.args.r + 1) ≡ 0 = omega arith in rw none (steps_none _ _)

pub loop-m-preserved : goal.loop-m-preserved
loop-m-preserved c =
    let a = c.args in
    let i = c.loop-i.i in
    let l = c.loop-m in
    let f = layer_step_in a.lo a.hi a.size a.x a.z (again w32 a.wx) (again w32 a.wz) a.y a.r a.l in
    c.leaf_in.ensures
    ∙ step_at a.lo a.hi a.size a.x a.z (again w32 a.wx) (again w32 a.wz) a.y a.r a.l i l.m l.cells c.loop-m-test.true
    ∙ row_more (2 * a.r + 1) i f a.cells.now l.cells l.m l.invariant

pub returns : goal.returns
unfolding layer_in
returns c =
    let a = c.args in
    let l = c.loop-i in
    let w = 2 * a.r + 1 in
    let e : l.i ≡ 2 * a.r + 1 = omega arith in
    l.invariant
    ∙ ap₃ (λ (k : ℕ) (u v : ℤ). steps (k * w) (layer_step_in a.lo a.hi a.size a.x a.z u v a.y a.r a.l) a.cells.now)
    e (to_z-of_z w32 a.wx c.ranges.wx) (to_z-of_z w32 a.wz c.ranges.wz)
