-- Heights of crowns, and radii of the table: both are at most 4, and the radii are those of the definition in `Crown`. Assumes nothing.
use mathlib.Core.List.{List, [], ◌∷◌}
use mathlib.Core.Logic.{⊎_elim}
use Prim.Native.Nat.{ℕ, zero, suc, ◌+◌, ◌≤◌, ◌<◌, max}
use native.Mathlib.Omega.{arith}
use lib.ListN.{get_or}
use Rattle.std.specs.Prelude.{◌≡◌, refl, ◌++◌, length}
use Rattle.std.proofs.Common.{ap, ◌∙◌, get_or-append-add}
use Rattle.std.specs.Float.Ieee.{lt, div}
use Rattle.std.proofs.Math.ListN.{get_or-append}
use Rattle.num_core.specs.Num.{nearest}
use Rattle.grid.specs.Cube.{tab}
use Rattle.grid.specs.Grid.{tab_length, tab_at}
use Rattle.ground_crown.specs.Crown.{Crown, normal_crown, giant_crown, Canopy, layers_of, leaf_radius, radii}
use Rattle.ground_crown.specs.Radii.{leaf_radii, row_at, radius_at}

pub few : (r n : ℕ) → Canopy r n → (3 ≤ n) × (n ≤ 4)
few r n k = ⊎_elim (λ w. (omega arith, omega arith)) (λ w. (omega arith, omega arith)) k

-- no number of a list is above its greatest
greatest : List ℕ → ℕ
greatest [] = 0
greatest (x ∷ l) = max x (greatest l)

at_most : (l : List ℕ) (i : ℕ) → get_or l i 0 ≤ greatest l
unfolding greatest
at_most [] i = omega arith
at_most (x ∷ l) zero = omega arith
at_most (x ∷ l) (suc i) = let h = at_most l i in omega arith

pub radius_most : (n l : ℕ) → radius_at n l ≤ 4
unfolding radius_at greatest
radius_most n l = at_most leaf_radii (row_at n + l)

-- ---- the table

-- each of the nine is what the definition's division and comparisons of f32 give: computed, over the whole table
pub radii_are : leaf_radii ≡ radii normal_crown ++ radii giant_crown
unfolding radii tab leaf_radius nearest lt div
radii_are = refl

-- a crown's row, which begins behind as many numbers as stand before it
row_is : (k : Crown) (before behind : List ℕ) (l : ℕ) → leaf_radii ≡ before ++ (radii k ++ behind) → l < layers_of k.height
    → get_or leaf_radii (length before + l) 0 ≡ leaf_radius k.radius k.height l
unfolding radii
row_is k before behind l e h =
    let f = leaf_radius k.radius k.height in
    ap (λ (t : List ℕ). get_or t (length before + l) 0) e
    ∙ get_or-append-add before (radii k ++ behind) l 0
    ∙ get_or-append (radii k) behind 0 l (rw (tab_length (layers_of k.height) f) h)
    ∙ tab_at (layers_of k.height) f l h

-- so the table has the radius of every layer of both crowns
pub radius_is : (r n l : ℕ) → Canopy r n → l ≤ n → radius_at n l ≡ leaf_radius r n l
unfolding radius_at radii tab
radius_is r n l k h =
    ⊎_elim
    (λ w. rw (w.0, w.1) (row_is normal_crown [] (radii giant_crown) l radii_are (omega arith)))
    (λ w. rw (w.0, w.1) (row_is giant_crown (radii normal_crown) [] l radii_are (omega arith)))
    k
