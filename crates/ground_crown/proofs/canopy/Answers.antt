-- A layer more is a step more: the table has its radius, and its level is one below the top and up. Assumes nothing.
use Rattle.std.proofs.Common.{◌≡◌, ℕ, ◌+◌, List, ℤ, pos, ap, ◌∙◌, rules, arith}
use mir.Syntax.{w32}
use mir.ValLaws.{to_z-of_z}
use Rattle.basics.specs.Paths.{ap₃, ap₄}
use Rattle.basics.specs.Words.{again, back}
use Rattle.grid.specs.Cube.{steps}
use Rattle.grid.specs.Grid.{steps_more, steps_none}
use Rattle.ground_cell.specs.World.{local_y}
use Rattle.ground_crown.specs.Slabs.{layer_in, canopy_step_in, canopy_in}
use Rattle.ground_crown.proofs.Counts.{layer_level}
use Rattle.ground_crown.proofs.Radii.{few, radius_most, radius_is}
use Rattle.ground_crown.proofs.canopy.Goals as goal

pub loop-l-init : goal.loop-l-init
loop-l-init c = steps_none _ _

pub layer-requires : goal.layer-requires
layer-requires c =
    let e = c.leaf_radius-q.ensures in
    let q = radius_most c.args.n c.loop-l.l in
    let f = few c.args.r c.args.n c.requires.4 in
    (search rules, c.requires.1, c.requires.2, omega arith, omega arith)

pub loop-l-preserved : goal.loop-l-preserved
unfolding canopy_step_in
loop-l-preserved c =
    let l = c.loop-l in
    let a = c.args in
    let wx = again w32 a.wx in
    let wz = again w32 a.wz in
    let oy = again w32 a.oy in
    c.layer.ensures
    ∙ ap₃ (λ (y q : ℕ) (d : List ℕ). layer_in a.lo a.hi a.size a.x a.z wx wz y q l.l d)
    (c.local_y-y.ensures ∙ ap (local_y a.size oy) (layer_level a.top l.l c.requires.5))
    (c.leaf_radius-q.ensures ∙ radius_is a.r a.n l.l c.requires.4 (omega arith))
    l.invariant
    ∙ steps_more l.l (canopy_step_in a.lo a.hi a.size oy a.x a.z wx wz (pos a.top) a.r a.n) a.cells.now

pub returns : goal.returns
unfolding canopy_in
returns c =
    let l = c.loop-l in
    let a = c.args in
    let e : l.l ≡ a.n + 1 = omega arith in
    l.invariant
    ∙ ap₄ (λ (k : ℕ) (o u v : ℤ). steps k (canopy_step_in a.lo a.hi a.size o a.x a.z u v (pos a.top) a.r a.n) a.cells.now)
    e (back a.oy c.requires.3) (to_z-of_z w32 a.wx c.ranges.wx) (to_z-of_z w32 a.wz c.ranges.wz)
