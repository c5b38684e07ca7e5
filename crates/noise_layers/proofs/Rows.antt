-- Rows that are laid one after the other. Assumes nothing.
use mathlib.Core.Path.{◌≡◌, ap, ◌∙◌, subst}
use mathlib.Core.List.{List}
use Prim.Native.Nat.{ℕ, ◌+◌, ◌*◌, ◌≤◌}
use native.Mathlib.Omega.{arith}
use lib.IntN.{ℤ}
use lib.Ieee.{Float}
use Rattle.noise.specs.Noise.{next}
use Rattle.noise_tables.specs.Row.{at}
use Rattle.noise_layers.specs.Layers.{whole_at, edge_at, RowLaid, Layered}

-- the same row by other names of its level, its z and its length
pub laid_same : (to base : ℕ) (floors : List ℕ) (eases old new : List Float) {n m : ℕ} {y v z w : ℤ} → n ≡ m → y ≡ v → z ≡ w
    → RowLaid to n (edge_at y z base floors eases) old new → RowLaid to m (edge_at v w base floors eases) old new
laid_same to base floors eases old new {n} {m} {y} {v} {z} {w} e p q l =
    subst (λ (u : ℤ). RowLaid to m (edge_at v u base floors eases) old new) q
    (subst (λ (u : ℤ). RowLaid to m (edge_at u z base floors eases) old new) p
    (subst (λ (u : ℕ). RowLaid to u (edge_at y z base floors eases) old new) e l))

module _ (o ky kz n : ℕ) (floors : List ℕ) (eases : List Float) where
  abbrev row : ℕ → ℤ → ℤ → List Float → List Float → Type 0
  row to y z old new = RowLaid to n (edge_at y z (o * 64) floors eases) old new

  -- four rows, each beside the others
  pub layered : (old a b c new : List Float) → n ≤ 64
      → row (o * 256) (whole_at floors ky) (whole_at floors kz) old a
      → row (o * 256 + 64) (next (whole_at floors ky)) (whole_at floors kz) a b
      → row (o * 256 + 128) (whole_at floors ky) (next (whole_at floors kz)) b c
      → row (o * 256 + 192) (next (whole_at floors ky)) (next (whole_at floors kz)) c new
      → Layered o ky kz n floors eases old new
  layered old a b c new h p q r s = record {
    long = s.long ∙ r.long ∙ q.long ∙ p.long;
    rows = record {
      a = λ (i : ℕ) k.
          let j = o * 256 + i in
          s.below j (omega arith) ∙ r.below j (omega arith) ∙ q.below j (omega arith) ∙ p.holds i k;
      b = λ (i : ℕ) k.
          let j = o * 256 + i + 64 in
          let e : j ≡ o * 256 + 64 + i = omega arith in
          s.below j (omega arith) ∙ r.below j (omega arith) ∙ ap (at b) e ∙ q.holds i k;
      c = λ (i : ℕ) k.
          let j = o * 256 + i + 128 in
          let e : j ≡ o * 256 + 128 + i = omega arith in
          s.below j (omega arith) ∙ ap (at c) e ∙ r.holds i k;
      d = λ (i : ℕ) k.
          let j = o * 256 + i + 192 in
          let e : j ≡ o * 256 + 192 + i = omega arith in
          ap (at new) e ∙ s.holds i k;
    };
    below = λ (j : ℕ) k. s.below j (omega arith) ∙ r.below j (omega arith) ∙ q.below j (omega arith) ∙ p.below j (omega arith);
    above = λ (j : ℕ) k. s.above j (omega arith) ∙ r.above j (omega arith) ∙ q.above j (omega arith) ∙ p.above j (omega arith);
  }
