-- Rows that are filled from the front. Assumes nothing.
use mathlib.Core.Path.{◌≡◌, refl, ◌∙◌}
use Prim.Native.Nat.{ℕ, ◌+◌, ◌≤◌, ◌<◌}
use native.Mathlib.Omega.{arith}
use mathlib.Core.List.{List}
use lib.ListN.{length, set, length-set}
use lib.Seq.{get_or-set_other}
use lib.Ieee.{Float, nan}
use Rattle.basics.specs.Lists.{front_more}
use Rattle.noise_tables.specs.Row.{at, Row}

-- the first i places of the row hold f, the others what they held
pub record Filling (i : ℕ) (f : ℕ → Float) (old l : List Float) : Type 0 where
  pub same : length l ≡ length old
  pub done : (j : ℕ) → j < i → at l j ≡ f j
  pub rest : (j : ℕ) → i ≤ j → at l j ≡ at old j

pub start : (f : ℕ → Float) (l : List Float) → Filling 0 f l l
start f l = record { same = refl; done = λ j h. absurd (omega arith); rest = λ j h. refl }

pub step : (f : ℕ → Float) (old l : List Float) (i : ℕ) (v : Float) → Filling i f old l → i < length old → v ≡ f i → Filling (i + 1) f old (set l i v)
step f old l i v r h e = record {
  same = length-set l i v ∙ r.same;
  done = front_more nan f l i v (let s = r.same in omega arith) e r.done;
  rest = λ j k. get_or-set_other l i j v nan (λ (q : j ≡ i). omega arith) ∙ r.rest j (omega arith);
}

pub end : (f : ℕ → Float) (old l : List Float) (i n : ℕ) → Filling i f old l → n ≤ i → n ≤ length old → Row n f l
end f old l i n r h k = let s = r.same in record { long = omega arith; holds = λ j q. r.done j (omega arith) }
