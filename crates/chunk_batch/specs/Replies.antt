-- What the answer of a batch says (SCOPE 5.6). Assumes nothing.
use Rattle.std.specs.Prelude.{◌≡◌, ℕ, List, [], ◌∷◌, Result}
use Rattle.config.specs.declared.refusals.Refusal.{Refusal}
use Rattle.config.specs.Answers.{Answer, says, says_same}
use Rattle.chunk_batch.specs.declared.Batched.{Batched}

-- the number of groups written and the count after them
abbrev pub batch_values : Batched → List ℕ
batch_values b = b.written ∷ b.count ∷ []

abbrev pub says_written : Result Batched Refusal → Answer
says_written = says batch_values

same_values : (a b : Batched) → batch_values a ≡ batch_values b → a ≡ b
same_values a b e =
    let q : a.written ≡ b.written = cc in
    let r : a.count ≡ b.count = cc in
    λ i. record { written = q i; count = r i }

-- answers that say the same are the same
pub same_written : (a b : Result Batched Refusal) → says_written a ≡ says_written b → a ≡ b
same_written = says_same batch_values same_values
