-- `ground_trees::tree::plant` meets its contract. Assumes nothing.
use mathlib.Core.Path.{sym, ap, ◌∙◌}
use Prim.Native.Nat.{ℕ, ◌+◌}
use lib.IntN.{ℤ, pos}
use lib.Ieee.{of_bits}
use mir.Syntax.{w32}
use mir.ValLaws.{to_z-of_z}
use Rattle.basics.specs.Paths.{ap₄}
use Rattle.num_core.specs.Num.{nearest}
use Rattle.basics.specs.Words.{back}
use Rattle.ground_trees.specs.Signs.{sum_natural}
use Rattle.ground_trees.specs.Features.{trunk_height}
use Rattle.ground_trees.specs.Slabs.{grow_in, plant_in}
use Rattle.ground_trees.proofs.tree.plant.Goals as goal

pub returns-then-big : goal.returns-then-big
unfolding plant_in trunk_height nearest of_bits
returns-then-big c =
    let a = c.args in
    rw c.if-big.true
    (c.grow.ensures
    ∙ ap₄ (λ (o u v t : ℤ). grow_in a.lo a.hi a.size o a.x a.z u v a.y t 4 4 a.cells.now)
    (back a.oy c.requires.3) (to_z-of_z w32 a.wx c.ranges.wx) (to_z-of_z w32 a.wz c.ranges.wz)
    (ap (λ (k : ℕ). pos (8 + k)) c.whole-t.ensures.0 ∙ sym (sum_natural 8 40 a.v c.requires.5)))

pub returns : goal.returns
unfolding plant_in trunk_height nearest of_bits
returns c =
    let a = c.args in
    rw c.if-big.false
    (c.grow-2.ensures
    ∙ ap₄ (λ (o u v t : ℤ). grow_in a.lo a.hi a.size o a.x a.z u v a.y t 2 3 a.cells.now)
    (back a.oy c.requires.3) (to_z-of_z w32 a.wx c.ranges.wx) (to_z-of_z w32 a.wz c.ranges.wz)
    (ap (λ (k : ℕ). pos (4 + k)) c.whole-t-2.ensures.0 ∙ sym (sum_natural 4 3 a.v c.requires.5)))
