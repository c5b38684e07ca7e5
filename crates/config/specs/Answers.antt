-- What a call answers (SCOPE 1.4, 10.1), and what it leaves of the cells. Assumes nothing.
use Rattle.std.specs.Prelude.{◌≡◌, refl, ℕ, zero, suc, List, Result, Ok, Err}
use Rattle.std.proofs.Common.{arith, sym, ◌∙◌, ap}
use Rattle.config.specs.Numbers.{number_of, number_some, number_same}
use Rattle.config.specs.declared.refusals.Refusal.{Refusal}

-- the values of what is accepted, or a refusal's number and line; the two are never one value, whatever the number
pub data Answer : Type 0 where
  accepted : List ℕ → Answer
  refused : (number line : ℕ) → Answer

pub never_both : (values : List ℕ) (number line : ℕ) → accepted values ≡ refused number line → ⊥
never_both values number line e = let z : ◌≡◌ {A = ℕ} 0 1 = cc in omega arith

-- a refusal that is not 11 or 12: its line is 0
abbrev pub refused_with : ℕ → Answer
refused_with n = refused n 0

-- what is accepted where no test refuses, else what the refusal gives
abbrev pub unless_refused : {A : Type 0} → ℕ → A → (ℕ → A) → A
unless_refused zero good bad = good
unless_refused (suc n) good bad = bad (suc n)

pub not_refused : {A : Type 0} (n : ℕ) (good : A) (bad : ℕ → A) → n ≡ 0 → unless_refused n good bad ≡ good
not_refused n good bad e = rw e

pub is_refused : {A : Type 0} (n : ℕ) (good : A) (bad : ℕ → A) → (n ≡ 0 → ⊥) → unless_refused n good bad ≡ bad n
is_refused zero good bad e = absurd (e refl)
is_refused (suc n) good bad e = refl

-- what a call's result says, by the values that it tells where it is accepted
abbrev pub says : {A : Type 0} → (A → List ℕ) → Result A Refusal → Answer
says values (Ok a) = accepted (values a)
says values (Err r) = refused_with (number_of r)

-- SCOPE 1.4: results that say the same are the same, where values that are told are
pub says_same : {A : Type 0} (values : A → List ℕ) → ((a b : A) → values a ≡ values b → a ≡ b)
    → (a b : Result A Refusal) → says values a ≡ says values b → a ≡ b
says_same values same (Ok a) (Ok b) e = let q : values a ≡ values b = cc in ap Ok (same a b q)
says_same values same (Ok a) (Err r) e = absurd (never_both (values a) (number_of r) 0 e)
says_same values same (Err r) (Ok b) e = absurd (never_both (values b) (number_of r) 0 (sym e))
says_same values same (Err r) (Err t) e = let q : number_of r ≡ number_of t = cc in ap Err (number_same r t q)

-- a refusal that a test's number gives
pub is_refused_by : {A : Type 0} (r : Refusal) (n : ℕ) (good : A) (bad : ℕ → A) → number_of r ≡ n → unless_refused n good bad ≡ bad (number_of r)
is_refused_by r n good bad e = is_refused n good bad (λ q. number_some r (e ∙ q)) ∙ ap bad (sym e)

-- ---- a call that changes cells

-- its answer and the cells after it
pub record CellsOutcome : Type 0 where
  pub answer : Answer
  pub cells : List ℕ

abbrev pub cells_outcome : Answer → List ℕ → CellsOutcome
cells_outcome a c = record { answer = a; cells = c }

-- by the number of the first refusal: 0 turns the cells c into d and answers the values, any other leaves the cells as they were
abbrev pub done : ℕ → List ℕ → List ℕ → List ℕ → CellsOutcome
done n values c d = unless_refused n (cells_outcome (accepted values) d) (λ (k : ℕ). cells_outcome (refused_with k) c)
