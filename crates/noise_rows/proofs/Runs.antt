-- Runs of places that lie in one column of squares. Assumes nothing.
use mathlib.Core.Path.{◌≡◌, refl, sym, ap, ap₂, ◌∙◌}
use mathlib.Core.List.{List}
use mathlib.Core.Bool.{Bool, true, false}
use Prim.Native.Nat.{ℕ, ◌+◌, ◌≤◌, ◌<◌}
use native.Mathlib.Omega.{arith}
use lib.Dec.{ltb}
use lib.ListN.{get_or}
use lib.Ieee.{Float}
use mir.Syntax.{w32}
use mir.Val.{to_z}
use borrow.Author.Tests.{ltb-true, ltb-false}
use Rattle.num_core.specs.Num.{floor_i}
use Rattle.noise.specs.Noise.{ease₃₂, square₃₂}
use Rattle.noise_tables.specs.Row.{at}
use Rattle.noise_rows.specs.Square.{square_of, between₃₂}
use Rattle.noise_rows.specs.Sums.{Run, in_square, noise_at}
use Rattle.noise_rows.specs.declared.Square.{Square}

pub run_one : (base lo n : ℕ) (floors : List ℕ) → lo < n → Run base lo n (lo + 1) floors
run_one base lo n floors h = record {
  above = omega arith;
  most = omega arith;
  same = λ (i : ℕ) l m. let e : i ≡ lo = omega arith in ap (λ (u : ℕ). get_or floors (base + u) 0) e;
}

pub run_more : (base lo n r : ℕ) (floors : List ℕ) → r < n → get_or floors (base + r) 0 ≡ get_or floors (base + lo) 0
    → Run base lo n r floors → Run base lo n (r + 1) floors
run_more base lo n r floors h e a =
    let b = a.above in
    record { above = omega arith; most = omega arith; same = λ (i : ℕ) l m. here i l m (ltb i r) refl }
  where
    here : (i : ℕ) → lo ≤ i → i < r + 1 → (c : Bool) → ltb i r ≡ c → get_or floors (base + i) 0 ≡ get_or floors (base + lo) 0
    here i l m true t = a.same i l (ltb-true i r t)
    here i l m false t = let k : i ≡ r = (let q = ltb-false i r t in omega arith) in ap (λ (u : ℕ). get_or floors (base + u) 0) k ∙ e

-- the square at the run's first place is that of each place of the run
pub in_run : (k : Square) (fy v : Float) (base lo n r : ℕ) (floors : List ℕ) (eases : List Float)
    → k ≡ square_of (to_z w32 (get_or floors (base + lo) 0)) (floor_i v) → fy ≡ ease₃₂ v → Run base lo n r floors
    → (i : ℕ) → lo ≤ i → i < r → in_square k fy base eases i ≡ noise_at base floors eases v i
unfolding in_square noise_at between₃₂ square_of square₃₂
in_run k fy v base lo n r floors eases e f a i l m =
    ap₂ (λ (u : Square) (w : Float). between₃₂ u (at eases (base + i)) w) e f
    ∙ ap (λ (u : ℕ). square₃₂ (to_z w32 u) (floor_i v) (at eases (base + i)) (ease₃₂ v)) (sym (a.same i l m))
