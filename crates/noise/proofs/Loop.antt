-- The loop over octaves, for any noise: what `fbm2d` and `fbm3d` cite. Assumes nothing.
use mathlib.Core.Path.{◌≡◌, refl, sym, ap, ◌∙◌}
use Prim.Native.Nat.{ℕ, zero, suc, ◌+◌}
use native.Mathlib.Numerals.{add-one}
use lib.Ieee.{Float, binary32, add, mul, div}
use Rattle.num_core.specs.Num.{nearest}
use Rattle.noise.specs.Noise.{Octaves, octave, octaves, fbm, num}

-- the loop's locals
abbrev pub state : Float → Float → Float → Float → Octaves
state val amp freq max = record { val = val; amp = amp; freq = freq; max = max }

module _ (at : Float → Float) where
  pub some : (n : ℕ) → (n ≡ 0 → ⊥) → fbm at n ≡ div binary32 (octaves at n).val (octaves at n).max
  unfolding fbm
  some zero h = absurd (h refl)
  some (suc n) h = refl

  pub turn : (n : ℕ) {v a f m w : Float} → octaves at n ≡ state v a f m → w ≡ at f
      → octaves at (n + 1)
      ≡ state (add binary32 v (mul binary32 w a)) (mul binary32 a (nearest 1 2)) (mul binary32 f (num 2)) (add binary32 m a)
  unfolding octaves octave
  turn n {v} {a} {f} {m} e d =
      ap (octaves at) (add-one n) ∙ ap (octave at) e
      ∙ ap (λ (u : Float). state (add binary32 v (mul binary32 u a)) (mul binary32 a (nearest 1 2)) (mul binary32 f (num 2)) (add binary32 m a)) (sym d)

  pub end : (n : ℕ) {v a f m : Float} → (n ≡ 0 → ⊥) → octaves at n ≡ state v a f m → div binary32 v m ≡ fbm at n
  end n h e = sym (some n h ∙ ap (λ (u : Octaves). div binary32 u.val u.max) e)
