-- The layers of all octaves at a level, for the noise of caves (SCOPE 4.10). Assumes nothing.
use Rattle.std.specs.Prelude.{◌≡◌, refl, List, Bool, true, false, ℕ, ◌+◌, ◌*◌, ◌≤◌, ◌<◌, ltb, ℤ, length, get_or, Float}
use Rattle.std.proofs.Common.{◌∙◌, subst, arith, ltb-true, ltb-false, to_z}
use Rattle.std.specs.Int.{w32}
use Rattle.noise_tables.specs.Row.{at}
use Rattle.noise_layers.specs.Layers.{whole_at, Layer, Layered}

-- tables and edges have their lengths, and the level and the row lie in them
pub record CaveRoom (y z n : ℕ) (floors : List ℕ) (eases edges : List Float) : Type 0 where
  pub level : y < 64
  pub depth : z < 64
  pub some : 0 < n
  pub most : n ≤ 64
  pub wholes : length floors ≡ 1728
  pub parts : length eases ≡ 1728
  pub rows : length edges ≡ 2048

-- where the tables tell of level y and of the row at z, for octave o
abbrev pub level_at : ℕ → ℕ → ℕ
level_at o y = o * 64 + 704 + y

abbrev pub depth_at : ℕ → ℕ → ℕ
depth_at o z = o * 64 + 1216 + z

-- octave o at level y
abbrev pub LayerAt : ℕ → ℕ → ℕ → ℕ → List ℕ → List Float → List Float → Type 0
LayerAt o y z n floors eases edges = Layer o n (whole_at floors (level_at o y)) (whole_at floors (depth_at o z)) floors eases edges

pub record AllLayers (y z n : ℕ) (floors : List ℕ) (eases edges : List Float) : Type 0 where
  pub each : (o : ℕ) → o < 8 → LayerAt o y z n floors eases edges

-- the first m octaves
pub record LayersTo (m y z n : ℕ) (floors : List ℕ) (eases edges : List Float) : Type 0 where
  pub each : (o : ℕ) → o < m → LayerAt o y z n floors eases edges

-- the octaves from m on
pub record LayersFrom (m y z n : ℕ) (floors : List ℕ) (eases edges : List Float) : Type 0 where
  pub each : (o : ℕ) → m ≤ o → o < 8 → LayerAt o y z n floors eases edges

above : (q o : ℕ) → q ≤ o → (o ≡ q → ⊥) → q < o
above q o h d = one (ltb q o) refl
  where
    one : (b : Bool) → ltb q o ≡ b → q < o
    one true e = ltb-true q o e
    one false e = let g = ltb-false q o e in absurd (d (omega arith))

-- another octave's rows stay
pub layer_kept : (o q ky kz n : ℕ) (iy iz : ℤ) (floors : List ℕ) (eases old new : List Float) → n ≤ 64 → (o ≡ q → ⊥)
    → Layered q ky kz n floors eases old new → Layer o n iy iz floors eases old → Layer o n iy iz floors eases new
layer_kept o q ky kz n iy iz floors eases old new h d l k = record {
  a = λ (i : ℕ) m. same (o * 256 + i) (ltb o q) refl (omega arith) (omega arith) ∙ k.a i m;
  b = λ (i : ℕ) m. same (o * 256 + i + 64) (ltb o q) refl (omega arith) (omega arith) ∙ k.b i m;
  c = λ (i : ℕ) m. same (o * 256 + i + 128) (ltb o q) refl (omega arith) (omega arith) ∙ k.c i m;
  d = λ (i : ℕ) m. same (o * 256 + i + 192) (ltb o q) refl (omega arith) (omega arith) ∙ k.d i m;
}
  where
    same : (j : ℕ) (b : Bool) → ltb o q ≡ b → o * 256 ≤ j → j < o * 256 + 256 → at new j ≡ at old j
    same j true e u v = let g = ltb-true o q e in l.below j (omega arith)
    same j false e u v =
        let g = ltb-false o q e in
        let w : q < o = above q o g d in
        l.above j (omega arith)

module _ (y z n : ℕ) (floors : List ℕ) (eases : List Float) (h : n ≤ 64) where
  pub to_none : (edges : List Float) → LayersTo 0 y z n floors eases edges
  to_none edges = record { each = λ (o : ℕ) k. absurd (omega arith) }

  -- octave m is worked out anew
  pub to_more : (m : ℕ) (old new : List Float) → Layered m (level_at m y) (depth_at m z) n floors eases old new
      → LayersTo m y z n floors eases old → LayersTo (m + 1) y z n floors eases new
  to_more m old new l t = record { each = λ (o : ℕ) k. here o k (ltb o m) refl }
    where
      here : (o : ℕ) → o < m + 1 → (b : Bool) → ltb o m ≡ b → LayerAt o y z n floors eases new
      here o k true e =
          let g = ltb-true o m e in
          layer_kept o m (level_at m y) (depth_at m z) n _ _ floors eases old new h (λ (q : o ≡ m). omega arith) l (t.each o g)
      here o k false e =
          let g : m ≡ o = (let q = ltb-false o m e in omega arith) in
          subst (λ (u : ℕ). LayerAt u y z n floors eases new) g l.rows

  -- octave m lies in the same cubes at both levels
  pub to_same : (m from : ℕ) (edges : List Float) → m < 8 → get_or floors (level_at m from) 0 ≡ get_or floors (level_at m y) 0
      → LayersFrom m from z n floors eases edges → LayersTo m y z n floors eases edges → LayersTo (m + 1) y z n floors eases edges
  to_same m from edges b s f t = record { each = λ (o : ℕ) k. here o k (ltb o m) refl }
    where
      here : (o : ℕ) → o < m + 1 → (c : Bool) → ltb o m ≡ c → LayerAt o y z n floors eases edges
      here o k true e = t.each o (ltb-true o m e)
      here o k false e =
          let g : m ≡ o = (let q = ltb-false o m e in omega arith) in
          subst (λ (u : ℕ). LayerAt u y z n floors eases edges) g
          (subst (λ (u : ℕ). Layer m n (to_z w32 u) (whole_at floors (depth_at m z)) floors eases edges) s (f.each m (omega arith) b))

  -- the octaves behind m stay
  pub from_kept : (m from : ℕ) (old new : List Float) → Layered m (level_at m y) (depth_at m z) n floors eases old new
      → LayersFrom m from z n floors eases old → LayersFrom (m + 1) from z n floors eases new
  from_kept m from old new l f = record {
    each = λ (o : ℕ) k b. layer_kept o m (level_at m y) (depth_at m z) n _ _ floors eases old new h (λ (q : o ≡ m). omega arith) l (f.each o (omega arith) b);
  }

  pub from_less : (m from : ℕ) (edges : List Float) → LayersFrom m from z n floors eases edges → LayersFrom (m + 1) from z n floors eases edges
  from_less m from edges f = record { each = λ (o : ℕ) k b. f.each o (omega arith) b }
