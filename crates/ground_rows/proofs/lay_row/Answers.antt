-- `ground_rows::lay_row` meets its contract. Assumes nothing.
use mathlib.Core.Path.{◌≡◌, sym, ap, ◌∙◌, subst}
use Prim.Native.Nat.{ℕ, ◌-◌, ◌≤◌}
use native.Mathlib.Omega.{arith}
use lib.IntN.{ℤ}
use Rattle.ground_lines.specs.Lines.{below_level}
use Rattle.ground_lines.specs.Laws.{below_most, height_range}
use Rattle.basics.specs.Words.{back}
use Rattle.ground_rows.proofs.lay_row.Goals as goal

pub begin_row-requires : goal.begin_row-requires
begin_row-requires c =
    let n = c.requires.5 in
    let most = subst (λ (u : ℕ). u ≤ c.args.o.size) (sym c.below_level-hi.ensures) (below_most c.args.o.size _ _) in
    (c.requires.1, most, c.requires.2, c.requires.4, n.wholes, n.parts, n.rows, c.requires.6)

pub lay_levels-requires : goal.lay_levels-requires
lay_levels-requires c =
    let o = c.args.o in
    let n = c.requires.5 in
    let oy = back o.oy c.requires.1.y in
    let d = c.begin_row.ensures in
    let lo = c.below_level-lo.result in
    let hi = c.below_level-hi.result in
    let top = c.row_top-top.result in
    let high : hi ≡ below_level o.size o.oy (top - 1) = c.below_level-hi.ensures ∙ ap (λ (u : ℤ). below_level o.size u (top - 1)) oy in
    let most : hi ≤ o.size = subst (λ (u : ℕ). u ≤ o.size) (sym high) (below_most o.size o.oy (top - 1)) in (
      c.requires.0,
      c.requires.1,
      c.requires.2,
      c.requires.3,
      record {
        low = c.below_level-lo.ensures ∙ ap (λ (u : ℤ). below_level o.size u 1) oy;
        top = top;
        high = high;
        highest = c.row_top-top.ensures;
        least = λ (x : ℕ) h. (height_range c.args.w o c.requires.0 c.args.heights.now c.args.biomes.now c.requires.3 x c.args.z h c.requires.2).0;
        columns = c.requires.3.long;
        noted = c.requires.4;
        cut = d.cut;
        layers = λ h. (omega arith, d.layers h);
      },
      record { wholes = n.wholes; parts = n.parts; rows = c.begin_row.auto.edges ∙ n.rows; marks = n.marks },
      c.requires.7,
    )
