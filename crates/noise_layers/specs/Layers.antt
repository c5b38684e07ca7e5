-- Rows of an octave at a level: what is kept of the noise (SCOPE 3.6). Assumes nothing.
use Rattle.std.specs.Prelude.{◌≡◌, refl, List, Bool, true, false, ℕ, ◌+◌, ◌*◌, ◌≤◌, ◌<◌, ltb, ℤ, length, get_or, set, Float}
use Rattle.std.proofs.Common.{sym, ap, ◌∙◌, arith, length-set, get_or-set_same, get_or-set_other, ltb-true, ltb-false, to_z}
use Rattle.std.specs.Float.{nan, binary32}
use Rattle.std.specs.Float.Ieee.{add, mul}
use Rattle.std.specs.Int.{w32}
use Rattle.noise.specs.Hash.{hash3₃₂}
use Rattle.noise.specs.Noise.{lerp₃₂, next}
use Rattle.noise_tables.specs.Row.{at}

-- between two corners along x
unfoldable pub edge₃₂ : ℤ → ℤ → ℤ → Float → Float
edge₃₂ ix iy iz fx = lerp₃₂ (hash3₃₂ ix iy iz) (hash3₃₂ (next ix) iy iz) fx

-- the whole part that the tables have at place j
abbrev pub whole_at : List ℕ → ℕ → ℤ
whole_at floors j = to_z w32 (get_or floors j 0)

-- the same for a place that the tables tell of
unfoldable pub edge_at : ℤ → ℤ → ℕ → List ℕ → List Float → ℕ → Float
edge_at iy iz base floors eases i = edge₃₂ (whole_at floors (base + i)) iy iz (at eases (base + i))

-- a and b are the hashes along x at the whole part whose bits are x
abbrev pub Hashes : ℤ → ℤ → ℕ → Float → Float → Type 0
Hashes iy iz x a b = (a ≡ hash3₃₂ (to_z w32 x) iy iz) × (b ≡ hash3₃₂ (next (to_z w32 x)) iy iz)

-- n places from `to` on hold f 0, f 1, .., and all others what they held
pub record RowLaid (to n : ℕ) (f : ℕ → Float) (old new : List Float) : Type 0 where
  pub long : length new ≡ length old
  pub holds : (i : ℕ) → i < n → at new (to + i) ≡ f i
  pub below : (j : ℕ) → j < to → at new j ≡ at old j
  pub above : (j : ℕ) → to + n ≤ j → at new j ≡ at old j

module _ (to : ℕ) (f : ℕ → Float) (old : List Float) where
  pub laid_none : RowLaid to 0 f old old
  laid_none = record { long = refl; holds = λ (i : ℕ) h. absurd (omega arith); below = λ (j : ℕ) h. refl; above = λ (j : ℕ) h. refl }

  pub laid_more : (n : ℕ) (new : List Float) (v : Float) → to + n < length old → v ≡ f n → RowLaid to n f old new
      → RowLaid to (n + 1) f old (set new (to + n) v)
  laid_more n new v h e l = record {
    long = length-set new (to + n) v ∙ l.long;
    holds = λ (i : ℕ) k. here i k (ltb i n) refl;
    below = λ (j : ℕ) k. other j (λ (q : j ≡ to + n). omega arith) ∙ l.below j k;
    above = λ (j : ℕ) k. other j (λ (q : j ≡ to + n). omega arith) ∙ l.above j (omega arith);
  }
    where
      other : (j : ℕ) → (j ≡ to + n → ⊥) → at (set new (to + n) v) j ≡ at new j
      other j k = get_or-set_other new (to + n) j v nan k

      here : (i : ℕ) → i < n + 1 → (c : Bool) → ltb i n ≡ c → at (set new (to + n) v) (to + i) ≡ f i
      here i k true c =
          let m = ltb-true i n c in
          other (to + i) (λ (q : to + i ≡ to + n). omega arith) ∙ l.holds i m
      here i k false c =
          let q : i ≡ n = (let g = ltb-false i n c in omega arith) in
          let g = l.long in
          ap (λ (u : ℕ). at (set new (to + n) v) (to + u)) q ∙ get_or-set_same new (to + n) v nan (omega arith) ∙ e ∙ ap f (sym q)

-- eight octaves of four rows of 64 places
pub record OctaveRoom (o ky kz n : ℕ) (floors : List ℕ) (eases edges : List Float) : Type 0 where
  pub octave : o < 8
  pub some : 0 < n
  pub most : n ≤ 64
  pub level : ky < length floors
  pub depth : kz < length floors
  pub wholes : 512 ≤ length floors
  pub parts : 512 ≤ length eases
  pub rows : 2048 ≤ length edges

-- the four rows of octave o
pub record Layer (o n : ℕ) (iy iz : ℤ) (floors : List ℕ) (eases edges : List Float) : Type 0 where
  pub a : (i : ℕ) → i < n → at edges (o * 256 + i) ≡ edge_at iy iz (o * 64) floors eases i
  pub b : (i : ℕ) → i < n → at edges (o * 256 + i + 64) ≡ edge_at (next iy) iz (o * 64) floors eases i
  pub c : (i : ℕ) → i < n → at edges (o * 256 + i + 128) ≡ edge_at iy (next iz) (o * 64) floors eases i
  pub d : (i : ℕ) → i < n → at edges (o * 256 + i + 192) ≡ edge_at (next iy) (next iz) (o * 64) floors eases i

-- octave o has the rows of the level at ky and the z at kz, and the other octaves theirs
pub record Layered (o ky kz n : ℕ) (floors : List ℕ) (eases old new : List Float) : Type 0 where
  pub long : length new ≡ length old
  pub rows : Layer o n (whole_at floors ky) (whole_at floors kz) floors eases new
  pub below : (j : ℕ) → j < o * 256 → at new j ≡ at old j
  pub above : (j : ℕ) → o * 256 + 256 ≤ j → at new j ≡ at old j

-- between four corners: along y, then along z
unfoldable pub between_of : Float → Float → Float → Float → Float → Float → Float
between_of a b c d fy fz = lerp₃₂ (lerp₃₂ a b fy) (lerp₃₂ c d fy) fz

-- octave o at place i, by its rows
unfoldable pub octave_at : ℕ → ℕ → ℕ → List Float → List Float → ℕ → Float
octave_at o ky kz eases edges i =
    between_of (at edges (o * 256 + i)) (at edges (o * 256 + i + 64)) (at edges (o * 256 + i + 128)) (at edges (o * 256 + i + 192)) (at eases ky) (at eases kz)

unfoldable pub row_more : ℕ → ℕ → ℕ → Float → List Float → List Float → List Float → ℕ → Float
row_more o ky kz amp eases edges sums i = add binary32 (at sums i) (mul binary32 (octave_at o ky kz eases edges i) amp)
