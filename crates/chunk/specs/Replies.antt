-- What each answer of a call on bare cells (SCOPE 5) says. Assumes nothing.
use Rattle.std.specs.Prelude.{◌≡◌, refl, ℕ, Bool, true, false, List, [], ◌∷◌, Result}
use Rattle.std.proofs.Common.{arith}
use Rattle.config.specs.declared.refusals.Refusal.{Refusal}
use Rattle.config.specs.Answers.{Answer, says, says_same}

-- a number alone
abbrev pub one_number : ℕ → List ℕ
one_number n = n ∷ []

-- the count after an edit
abbrev pub says_counted : Result ℕ Refusal → Answer
says_counted = says one_number

-- the id of a cell
abbrev pub says_id : Result ℕ Refusal → Answer
says_id = says one_number

-- yes is 1, no is 0
abbrev pub yes : Bool → ℕ
yes true = 1
yes false = 0

abbrev pub says_flag : Result Bool Refusal → Answer
says_flag = says (λ (b : Bool). one_number (yes b))

-- ---- SCOPE 1.4: answers that say the same are the same

same_number : (a b : ℕ) → one_number a ≡ one_number b → a ≡ b
same_number a b e = cc

pub same_counted : (a b : Result ℕ Refusal) → says_counted a ≡ says_counted b → a ≡ b
same_counted = says_same one_number same_number

pub same_id : (a b : Result ℕ Refusal) → says_id a ≡ says_id b → a ≡ b
same_id = says_same one_number same_number

same_yes : (a b : Bool) → yes a ≡ yes b → a ≡ b
same_yes true true e = refl
same_yes true false e = absurd (omega arith)
same_yes false true e = absurd (omega arith)
same_yes false false e = refl

pub same_flag : (a b : Result Bool Refusal) → says_flag a ≡ says_flag b → a ≡ b
same_flag = says_same (λ (b : Bool). one_number (yes b)) (λ a b e. same_yes a b (same_number _ _ e))
