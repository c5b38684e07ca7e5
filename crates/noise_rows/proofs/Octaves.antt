-- The loop over octaves along a row, for any noise: what the sums over octaves cite. Assumes nothing.
use mathlib.Core.Path.{◌≡◌, refl, sym, ap, ◌∙◌}
use Prim.Native.Nat.{ℕ, ◌+◌, ◌≤◌, ◌<◌}
use native.Mathlib.Omega.{arith}
use mathlib.Core.List.{List}
use lib.ListN.{length}
use lib.Ieee.{Float, binary32, add, mul}
use Rattle.num_core.specs.Num.{nearest}
use Rattle.noise.specs.Noise.{num, octaves, fbm}
use Rattle.noise.proofs.Loop.{state, turn, end}
use Rattle.noise_tables.specs.Row.{at, Row}
use Rattle.noise_rows.specs.Sums.{one_more, zero_at, share_at}

-- after k octaves, with these locals of `fbm2d`
pub record Passed (n : ℕ) (noise : ℕ → Float → Float) (k : ℕ) (l : List Float) (amp freq max : Float) : Type 0 where
  pub long : n ≤ length l
  pub holds : (i : ℕ) → i < n → octaves (noise i) k ≡ record { val = at l i; amp = amp; freq = freq; max = max }

module _ (n : ℕ) (noise : ℕ → Float → Float) where
  pub passed_none : (l : List Float) → Row n zero_at l → Passed n noise 0 l (num 1) (num 1) (num 0)
  unfolding zero_at octaves
  passed_none l r = record { long = r.long; holds = λ i h. ap (λ (v : Float). state v (num 1) (num 1) (num 0)) (sym (r.holds i h)) }

  pub passed_more : (k : ℕ) (l l' : List Float) (amp freq max : Float) → Passed n noise k l amp freq max → Row n (one_more noise freq amp l) l'
      → Passed n noise (k + 1) l' (mul binary32 amp (nearest 1 2)) (mul binary32 freq (num 2)) (add binary32 max amp)
  unfolding one_more
  passed_more k l l' amp freq max p r = record {
    long = r.long;
    holds = λ i h. turn (noise i) k (p.holds i h) refl ∙ ap (λ (v : Float). state v (mul binary32 amp (nearest 1 2)) (mul binary32 freq (num 2)) (add binary32 max amp)) (sym (r.holds i h));
  }

  pub passed_all : (k m : ℕ) (l l' : List Float) (amp freq max : Float) → 0 < m → k ≡ m → Passed n noise k l amp freq max → Row n (share_at max l) l'
      → Row n (λ (i : ℕ). fbm (noise i) m) l'
  unfolding share_at
  passed_all k m l l' amp freq max s e p r = record {
    long = r.long;
    holds = λ i h. r.holds i h ∙ end (noise i) m (λ z. omega arith) (ap (octaves (noise i)) (sym e) ∙ p.holds i h);
  }
