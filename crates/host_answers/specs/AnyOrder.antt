-- What a tally says in C of its lists, whatever the order of the ids (SCOPE 5.9). Assumes nothing.
use Rattle.std.specs.Prelude.{◌≡◌, List, ℕ}
use Rattle.config.specs.Answers.{Answer}
use Rattle.chunk_tally.specs.AnyOrder.{Tallied}
use Rattle.host_answers.specs.declared.Answer.{Answer as AnswerInC}
use Rattle.host_answers.specs.Answers.{answer_of}

-- `answer` is one that `Tallied` allows
pub record TalliedInC (size : ℕ) (c : List ℕ) (r : AnswerInC) (ids counts ids' counts' : List ℕ) : Type 0 where
  pub answer : Answer
  pub is : r ≡ answer_of answer
  pub tallied : Tallied size c answer ids counts ids' counts'
