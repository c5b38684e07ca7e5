-- What a tally leaves (SCOPE 5.9, 10.4). Assumes nothing.
use Rattle.std.specs.Prelude.{◌≡◌, ℕ, List, [], ◌∷◌, length}
use Rattle.std.proofs.Common.{sym, ap, ◌∙◌}
use Rattle.std.proofs.lemmas.List.Edits.{sets}
use Rattle.config.specs.Answers.{accepted, refused_with, is_refused, not_refused}
use Rattle.config.specs.declared.refusals.Refusal.{Refusal}
use Rattle.config.specs.Numbers.{number_of, number_some}
use Rattle.chunk.specs.Tests.{chunk_refusal}
use Rattle.chunk_tally.specs.Does.{refuse_input}
use Rattle.chunk_tally.specs.Ids.{present_ids, present_counts}
use Rattle.chunk_tally.specs.Tally.{tally_refusal, tally_outcome, chunk_tally_does}

pub does_refuse : (size : ℕ) (c ids counts : List ℕ) (k : ℕ) → k ≡ tally_refusal size c (length ids) (length counts) → (k ≡ 0 → ⊥)
    → tally_outcome (refused_with k) ids counts ≡ chunk_tally_does size c ids counts
unfolding chunk_tally_does
does_refuse size c ids counts k e h = ap (λ (n : ℕ). tally_outcome (refused_with n) ids counts) e ∙ sym (is_refused _ _ _ (λ q. h (e ∙ q)))

-- a refusal by the tests of the chunk, and by those of the lists
pub tally_refused : (r : Refusal) (size : ℕ) (c ids counts : List ℕ) → number_of r ≡ chunk_refusal size (length c)
    → tally_outcome (refused_with (number_of r)) ids counts ≡ chunk_tally_does size c ids counts
tally_refused r size c ids counts e =
    does_refuse size c ids counts (number_of r) (e ∙ refuse_input size c _ _ (λ q. number_some r (e ∙ q))) (number_some r)

pub does_list : (size : ℕ) (c ids counts ids' counts' : List ℕ) (n : ℕ) → tally_refusal size c (length ids) (length counts) ≡ 0
    → n ≡ length (present_ids c) → ids' ≡ sets ids 0 (present_ids c) → counts' ≡ sets counts 0 (present_counts c)
    → tally_outcome (accepted (n ∷ [])) ids' counts' ≡ chunk_tally_does size c ids counts
unfolding chunk_tally_does
does_list size c ids counts ids' counts' n e en ei ec = (λ i. tally_outcome (accepted (en i ∷ [])) (ei i) (ec i)) ∙ sym (not_refused _ _ _ e)
