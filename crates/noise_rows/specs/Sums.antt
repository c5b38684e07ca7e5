-- Octaves (SCOPE 3.7) that are added along a row whose places the tables tell of. Assumes nothing.
use Rattle.std.specs.Prelude.{◌≡◌, refl, List, Bool, true, false, ℕ, zero, suc, ◌+◌, ◌*◌, ◌≤◌, ◌<◌, ltb, ℤ, length, get_or, set, Float}
use Rattle.std.proofs.Common.{ap, ap₂, ◌∙◌, subst, arith, length-set, get_or-set_same, get_or-set_other, ltb-true, ltb-false, to_z}
use Rattle.std.specs.Float.{nan, binary32}
use Rattle.std.specs.Float.Ieee.{add, mul, div}
use Rattle.std.specs.Int.{w32}
use Rattle.num_core.specs.Num.{floor_i}
use Rattle.noise.specs.Noise.{num, ease₃₂, square₃₂, noise2d₃₂, fbm2d₃₂}
use Rattle.noise_tables.specs.Row.{at, Row}
use Rattle.noise_tables.specs.Places.{Tells, tells_floor}
use Rattle.noise_rows.specs.Square.{between₃₂}
use Rattle.noise_rows.specs.declared.Square.{Square}

-- the places from lo to r lie in one column of squares
pub record Run (base lo n r : ℕ) (floors : List ℕ) : Type 0 where
  pub above : lo < r
  pub most : r ≤ n
  pub same : (i : ℕ) → lo ≤ i → i < r → get_or floors (base + i) 0 ≡ get_or floors (base + lo) 0

-- the places from lo to hi have the noise g added, as `fbm2d` adds it, and the others hold what they held
pub record Added (g : ℕ → Float) (amp : Float) (lo hi : ℕ) (old new : List Float) : Type 0 where
  pub long : length new ≡ length old
  pub more : (i : ℕ) → lo ≤ i → i < hi → at new i ≡ add binary32 (at old i) (mul binary32 (g i) amp)
  pub below : (i : ℕ) → i < lo → at new i ≡ at old i
  pub above : (i : ℕ) → hi ≤ i → at new i ≡ at old i

pub added_none : (g : ℕ → Float) (amp : Float) (lo : ℕ) (old : List Float) → Added g amp lo lo old old
added_none g amp lo old = record { long = refl; more = λ (i : ℕ) l m. absurd (omega arith); below = λ (i : ℕ) l. refl; above = λ (i : ℕ) l. refl }

-- one place more
pub added_one : (g : ℕ → Float) (amp : Float) (lo y : ℕ) (old new : List Float) (v : Float) → lo ≤ y → y < length new
    → v ≡ add binary32 (at new y) (mul binary32 (g y) amp) → Added g amp lo y old new → Added g amp lo (y + 1) old (set new y v)
added_one g amp lo y old new v b h e a = record {
  long = length-set new y v ∙ a.long;
  more = λ (j : ℕ) l m. here j l m (ltb j y) refl;
  below = λ (j : ℕ) m. get_or-set_other new y j v nan (λ (q : j ≡ y). omega arith) ∙ a.below j m;
  above = λ (j : ℕ) m. get_or-set_other new y j v nan (λ (q : j ≡ y). omega arith) ∙ a.above j (omega arith);
}
  where
    here : (j : ℕ) → lo ≤ j → j < y + 1 → (c : Bool) → ltb j y ≡ c → at (set new y v) j ≡ add binary32 (at old j) (mul binary32 (g j) amp)
    here j l m true t =
        let k = ltb-true j y t in
        get_or-set_other new y j v nan (λ (q : j ≡ y). omega arith) ∙ a.more j l k
    here j l m false t =
        let k : y ≡ j = (let q = ltb-false j y t in omega arith) in
        subst (λ (u : ℕ). at (set new y v) u ≡ add binary32 (at old u) (mul binary32 (g u) amp)) k
        (get_or-set_same new y v nan h ∙ e ∙ ap (λ (u : Float). add binary32 u (mul binary32 (g y) amp)) (a.above y (omega arith)))

-- one run of places more, whose noise is called f there
pub added_run : (f g : ℕ → Float) (amp : Float) (lo m hi : ℕ) (old mid new : List Float) → lo ≤ m → m ≤ hi
    → ((i : ℕ) → m ≤ i → i < hi → f i ≡ g i) → Added g amp lo m old mid → Added f amp m hi mid new → Added g amp lo hi old new
added_run f g amp lo m hi old mid new p q e a b = record {
  long = b.long ∙ a.long;
  more = λ (i : ℕ) l h. here i l h (ltb i m) refl;
  below = λ (i : ℕ) l. b.below i (omega arith) ∙ a.below i l;
  above = λ (i : ℕ) l. b.above i l ∙ a.above i (omega arith);
}
  where
    here : (i : ℕ) → lo ≤ i → i < hi → (c : Bool) → ltb i m ≡ c → at new i ≡ add binary32 (at old i) (mul binary32 (g i) amp)
    here i l h true t = let k = ltb-true i m t in b.below i k ∙ a.more i l k
    here i l h false t =
        let k = ltb-false i m t in
        b.more i k h ∙ ap₂ (λ (u v : Float). add binary32 u (mul binary32 v amp)) (a.above i k) (e i k h)

-- the noise in a square at place i
unfoldable pub in_square : Square → Float → ℕ → List Float → ℕ → Float
in_square k fy base eases i = between₃₂ k (at eases (base + i)) fy

-- the noise at v above place i, by the tables
unfoldable pub noise_at : ℕ → List ℕ → List Float → Float → ℕ → Float
noise_at base floors eases v i = square₃₂ (to_z w32 (get_or floors (base + i) 0)) (floor_i v) (at eases (base + i)) (ease₃₂ v)

pub noise_told : (base : ℕ) (floors : List ℕ) (eases : List Float) (v x : Float) (i : ℕ) → Tells floors eases (base + i) x
    → noise_at base floors eases v i ≡ noise2d₃₂ x v
unfolding noise_at noise2d₃₂
noise_told base floors eases v x i t = ap₂ (λ (u : ℤ) (e : Float). square₃₂ u (floor_i v) e (ease₃₂ v)) (tells_floor t) t.part

-- one octave more along a row: at each place the noise is added, as `fbm2d` adds it
unfoldable pub one_more : (ℕ → Float → Float) → Float → Float → List Float → ℕ → Float
one_more noise freq amp l i = add binary32 (at l i) (mul binary32 (noise i freq) amp)

-- what the row holds before the first octave, and after the last: val / max
unfoldable pub zero_at : ℕ → Float
zero_at i = num 0

unfoldable pub share_at : Float → List Float → ℕ → Float
share_at max l i = div binary32 (at l i) max

-- the frequency of octave k
unfoldable pub freq_at : ℕ → Float
freq_at zero = num 1
freq_at (suc k) = mul binary32 (freq_at k) (num 2)

-- the tables hold from base on where the places x lie, for these octaves
pub record Lies (x : ℕ → Float) (octaves base n : ℕ) (floors : List ℕ) (eases : List Float) : Type 0 where
  pub tells : (k i : ℕ) → k < octaves → i < n → Tells floors eases (base + k * 64 + i) (mul binary32 (x i) (freq_at k))

-- `fbm2d` at each place, wherever the tables tell of the places
pub record Summed (y : Float) (octaves base n : ℕ) (floors : List ℕ) (eases vals : List Float) : Type 0 where
  pub is : (x : ℕ → Float) → Lies x octaves base n floors eases → Row n (λ (i : ℕ). fbm2d₃₂ (x i) y octaves) vals
