-- `ground_boulders::boulder_at` meets its contract. Assumes nothing.
use mathlib.Core.Path.{sym, ap, ap₂, ◌∙◌}
use Prim.Native.Nat.{ℕ, ◌+◌}
use lib.IntN.{ℤ}
use lib.Ieee.{of_bits}
use borrow.Author.Tests.{eq-eqb}
use Rattle.num_core.specs.Num.{nearest}
use Rattle.grid.specs.Cube.{steps}
use Rattle.basics.specs.Words.{back}
use Rattle.ground_boulders.specs.Signs.{range_length, sum_natural}
use Rattle.ground_boulders.specs.Boulders.{pillar_of, boulder_height, boulder_blocks, place_boulder}
use Rattle.ground_boulders.proofs.boulder_at.Goals.{After-whole-n}
use Rattle.ground_boulders.proofs.boulder_at.Goals as goal

pub returns-then-h : goal.returns-then-h
unfolding place_boulder boulder_blocks pillar_of steps nearest of_bits
returns-then-h c = rw (eq-eqb _ _ c.if-b-ne-MOUNTAIN.false, c.if-h.true)

pub returns : goal.returns
unfolding place_boulder boulder_blocks boulder_height nearest of_bits
returns c =
    let c5 = (goal.at.returns c).After-whole-n in
    let a = c5.args in
    let few = ap (λ (k : ℕ). 2 + k) c5.whole-n.ensures.0 ∙ sym (ap range_length (sum_natural 2 500 a.h c5.requires.3)) in
    rw (eq-eqb _ _ c5.if-b-ne-MOUNTAIN.false, c5.if-h.false)
    (c.pillar.ensures
    ∙ ap₂ (λ (u : ℤ) (n : ℕ). pillar_of a.size u a.x a.z a.t.height n 1 a.cells.now) (back a.oy c5.requires.1) few)
