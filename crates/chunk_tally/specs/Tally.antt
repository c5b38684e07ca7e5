-- What a tally does (SCOPE 5.9). Assumes nothing.
use Rattle.std.specs.Prelude.{◌≡◌, ℕ, ◌&&◌, List, [], ◌∷◌, leb, length, Result}
use Rattle.std.proofs.lemmas.List.Edits.{sets}
use Rattle.config.specs.Refusals.{must, passed, refusal}
use Rattle.config.specs.Answers.{Answer, accepted, refused_with, says, unless_refused}
use Rattle.config.specs.declared.refusals.Refusal.{Refusal}
use Rattle.chunk.specs.Replies.{one_number, same_counted}
use Rattle.chunk.specs.Tests.{chunk_refusal}
use Rattle.chunk_tally.specs.Ids.{present_ids, present_counts}

abbrev pub says_listed : Result ℕ Refusal → Answer
says_listed = says one_number

-- 1 and 6, then 13 where one of the lists is too short
unfoldable pub tally_refusal : ℕ → List ℕ → ℕ → ℕ → ℕ
tally_refusal size c n m =
    refusal (passed (chunk_refusal size (length c)) ∷ must (leb (length (present_ids c)) n && leb (length (present_ids c)) m) 13 ∷ [])

-- an answer, and the two lists after it
pub record TallyOutcome : Type 0 where
  pub answer : Answer
  pub ids : List ℕ
  pub counts : List ℕ

abbrev pub tally_outcome : Answer → List ℕ → List ℕ → TallyOutcome
tally_outcome a ids counts = record { answer = a; ids = ids; counts = counts }

-- the ids upward, and the number of cells of each, in the first places of the two lists; every other place is as it was
unfoldable pub chunk_tally_does : ℕ → List ℕ → List ℕ → List ℕ → TallyOutcome
chunk_tally_does size c ids counts =
    unless_refused (tally_refusal size c (length ids) (length counts))
    (tally_outcome (accepted (length (present_ids c) ∷ [])) (sets ids 0 (present_ids c)) (sets counts 0 (present_counts c)))
    (λ (n : ℕ). tally_outcome (refused_with n) ids counts)

-- ---- laws

-- answers that say the same are the same
pub same_listed : (a b : Result ℕ Refusal) → says_listed a ≡ says_listed b → a ≡ b
same_listed = same_counted
