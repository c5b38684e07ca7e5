-- Laws of a tally as C sees it (SCOPE 5.9): it tells what the library's call answered, and so what `Tallied` allows. Assumes nothing.
use Rattle.std.specs.Prelude.{◌≡◌, refl, List, ℕ}
use Rattle.std.proofs.Common.{ap, ◌∙◌}
use Rattle.config.specs.Answers.{Answer}
use Rattle.chunk_tally.specs.Tally.{TallyOutcome, tally_outcome, chunk_tally_does}
use Rattle.chunk_tally.proofs.Order.{as_before}
use Rattle.host_answers.specs.declared.Answer.{Answer as AnswerInC}
use Rattle.host_answers.specs.Answers.{answer_of, TallyAnswered, tally_answered, tally_in_c}
use Rattle.host_answers.specs.AnyOrder.{TalliedInC}

pub tally_in_c_lem : (r : AnswerInC) (a : Answer) (ids counts : List ℕ) (o : TallyOutcome)
    → r ≡ answer_of a → tally_outcome a ids counts ≡ o → tally_answered r ids counts ≡ tally_in_c o
tally_in_c_lem r a ids counts o e f = ap (λ (u : AnswerInC). tally_answered u ids counts) e ∙ ap tally_in_c f

pub tally_as_before : (size : ℕ) (c ids counts : List ℕ)
    → (let o : TallyAnswered = tally_in_c (chunk_tally_does size c ids counts) in TalliedInC size c o.answer ids counts o.ids o.counts)
tally_as_before size c ids counts = record { answer = (chunk_tally_does size c ids counts).answer; is = refl; tallied = as_before size c ids counts }
