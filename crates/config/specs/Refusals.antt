-- Refusals in their order (SCOPE 10.1): tests, each with the number that answers where it does not hold. Assumes nothing.
use Rattle.std.specs.Prelude.{◌≡◌, refl, ℕ, suc, Bool, true, false, List, [], ◌∷◌, T, eqb}
use Rattle.std.proofs.Common.{sym, ◌∙◌, subst, arith, eqb-true, eq-eqb, ne_eqb}

pub record Test : Type 0 where
  pub holds : Bool
  pub number : ℕ

-- what must hold, else the number answers
abbrev pub must : Bool → ℕ → Test
must b k = record { holds = b; number = k }

-- what another list of tests answered: where it refused, its number answers here too
abbrev pub passed : ℕ → Test
passed k = must (eqb k 0) k

abbrev pub unless : Bool → ℕ → ℕ → ℕ
unless true k rest = rest
unless false k rest = k

-- the number of the first test that does not hold; 0 is no refusal
unfoldable pub refusal : List Test → ℕ
refusal [] = 0
refusal (t ∷ ts) = unless t.holds t.number (refusal ts)

pub refusal_none : refusal [] ≡ 0
unfolding refusal
refusal_none = refl

-- a test that holds
pub refusal_pass : (b : Bool) (k : ℕ) (ts : List Test) → b ≡ true → refusal (must b k ∷ ts) ≡ refusal ts
unfolding refusal
refusal_pass b k ts e = rw e

-- the first that does not
pub refusal_stop : (b : Bool) (k : ℕ) (ts : List Test) → b ≡ false → refusal (must b k ∷ ts) ≡ k
unfolding refusal
refusal_stop b k ts e = rw e

-- 0 says that the test holds and that the rest answers 0
pub refusal_zero : (b : Bool) (k : ℕ) (ts : List Test) → refusal (must b (suc k) ∷ ts) ≡ 0 → (b ≡ true) × (refusal ts ≡ 0)
unfolding refusal
refusal_zero true k ts e = (refl, e)
refusal_zero false k ts e = absurd (omega arith)

pub passed_on : (k : ℕ) (ts : List Test) → k ≡ 0 → refusal (passed k ∷ ts) ≡ refusal ts
passed_on k ts e = refusal_pass (eqb k 0) k ts (eq-eqb k 0 e)

pub passed_stop : (k : ℕ) (ts : List Test) → (k ≡ 0 → ⊥) → refusal (passed k ∷ ts) ≡ k
passed_stop k ts e = refusal_stop (eqb k 0) k ts (ne_eqb k 0 e)

pub passed_zero : (k : ℕ) (ts : List Test) → refusal (passed k ∷ ts) ≡ 0 → (k ≡ 0) × (refusal ts ≡ 0)
unfolding refusal
passed_zero k ts e = go (eqb k 0) refl e
  where
    go : (b : Bool) → eqb k 0 ≡ b → unless b k (refusal ts) ≡ 0 → (k ≡ 0) × (refusal ts ≡ 0)
    go true q e = (eqb-true k 0 q, e)
    go false q e = let z : true ≡ false = sym (eq-eqb k 0 e) ∙ q in absurd (subst T z tt)
