-- The loop over octaves along a row whose places the tables tell of. Assumes nothing.
use mathlib.Core.Path.{◌≡◌, refl, sym, ap, ◌∙◌, subst}
use mathlib.Core.List.{List}
use Prim.Native.Nat.{ℕ, ◌+◌, ◌*◌, ◌≤◌, ◌<◌}
use native.Mathlib.Omega.{arith}
use native.Mathlib.Numerals.{add-one}
use lib.ListN.{length}
use lib.Ieee.{Float, binary32, add, mul}
use Rattle.num_core.specs.Num.{nearest}
use Rattle.noise.specs.Noise.{num, along2, fbm2d₃₂}
use Rattle.noise_tables.specs.Row.{at, Row}
use Rattle.noise_tables.specs.Places.{Tells}
use Rattle.noise_rows.specs.Sums.{Added, noise_at, noise_told, one_more, zero_at, share_at, freq_at, Lies, Summed}
use Rattle.noise_rows.proofs.Octaves.{Passed, passed_none, passed_more, passed_all}

module _ (y : Float) (octaves base n : ℕ) (floors : List ℕ) (eases : List Float) where
  -- after k octaves: where the tables are read next, and what the row holds wherever they tell of its places
  pub record Going (k : ℕ) (l : List Float) (amp freq max : Float) (place : ℕ) : Type 0 where
    pub read : place ≡ base + k * 64
    pub often : freq ≡ freq_at k
    pub long : n ≤ length l
    pub passed : (x : ℕ → Float) → Lies x octaves base n floors eases → Passed n (λ (i : ℕ). along2 (x i) y) k l amp freq max

  pub going_none : (l : List Float) → Row n zero_at l → Going 0 l (num 1) (num 1) (num 0) base
  unfolding freq_at
  going_none l r = record {
    read = omega arith;
    often = refl;
    long = r.long;
    passed = λ (x : ℕ → Float) t. passed_none n (λ (i : ℕ). along2 (x i) y) l r;
  }

  -- the frequency of the octave after k
  freq_more : (k : ℕ) (freq : Float) → freq ≡ freq_at k → mul binary32 freq (num 2) ≡ freq_at (k + 1)
  unfolding freq_at
  freq_more k freq e = ap (λ (u : Float). mul binary32 u (num 2)) e ∙ ap freq_at (sym (add-one k))

  -- what an octave adds is its noise at each place that the tables tell of
  row_more : (k : ℕ) (l l' : List Float) (amp freq max : Float) (place : ℕ) → k < octaves → Added (noise_at place floors eases (mul binary32 y freq)) amp 0 n l l'
      → Going k l amp freq max place → (x : ℕ → Float) → Lies x octaves base n floors eases → Row n (one_more (λ (i : ℕ). along2 (x i) y) freq amp l) l'
  unfolding one_more along2
  row_more k l l' amp freq max place h a g x t = record {
    long = (let p = a.long in let q = g.long in omega arith);
    holds = λ (i : ℕ) m.
        a.more i (omega arith) m
        ∙ ap (λ (u : Float). add binary32 (at l i) (mul binary32 u amp)) (noise_told place floors eases (mul binary32 y freq) (mul binary32 (x i) freq) i
        (subst (λ (u : Float). Tells floors eases (place + i) (mul binary32 (x i) u)) (sym g.often)
        (subst (λ (u : ℕ). Tells floors eases (u + i) (mul binary32 (x i) (freq_at k))) (sym g.read) (t.tells k i h m))));
  }

  pub going_more : (k : ℕ) (l l' : List Float) (amp freq max : Float) (place : ℕ) → k < octaves → Added (noise_at place floors eases (mul binary32 y freq)) amp 0 n l l'
      → Going k l amp freq max place → Going (k + 1) l' (mul binary32 amp (nearest 1 2)) (mul binary32 freq (num 2)) (add binary32 max amp) (place + 64)
  going_more k l l' amp freq max place h a g = record {
    read = (let p = g.read in omega arith);
    often = freq_more k freq g.often;
    long = (let p = a.long in let q = g.long in omega arith);
    passed = λ (x : ℕ → Float) t.
        passed_more n (λ (i : ℕ). along2 (x i) y) k l l' amp freq max (g.passed x t) (row_more k l l' amp freq max place h a g x t);
  }

  pub going_all : (k : ℕ) (l l' : List Float) (amp freq max : Float) (place : ℕ) → 0 < octaves → k ≡ octaves → Going k l amp freq max place → Row n (share_at max l) l'
      → Summed y octaves base n floors eases l'
  unfolding fbm2d₃₂
  going_all k l l' amp freq max place h e g r = record {
    is = λ (x : ℕ → Float) t. passed_all n (λ (i : ℕ). along2 (x i) y) k octaves l l' amp freq max h e (g.passed x t) r;
  }
