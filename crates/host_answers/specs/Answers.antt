-- What a call answers at the C boundary (SCOPE 10.1, 14.2): number, line and value of each answer, with the buffers beside them. Assumes nothing.
use Rattle.std.specs.Prelude.{◌≡◌, refl, List, [], ◌∷◌, ℕ, zero, suc, ◌<◌}
use Rattle.std.proofs.Common.{ap, ◌∙◌, arith}
use Rattle.std.proofs.Math.Option.{Option, some, none}
use Rattle.config.specs.Answers.{Answer, accepted, refused, CellsOutcome, cells_outcome}
use Rattle.chunk_border.specs.declared.Face.{Face}
pub use Rattle.chunk_border.specs.Faces.{face_of}
use Rattle.chunk_border.specs.Border.{chunk_border_does, bordered, Bordered}
use Rattle.chunk_tally.specs.Tally.{TallyOutcome}
use Rattle.planes.specs.Planes.{PlanesOutcome, planes_outcome}
use Rattle.host_answers.specs.declared.Answer.{Answer as AnswerInC}
use Rattle.host_answers.specs.declared.BatchAnswer.{BatchAnswer as BatchAnswerInC}

-- an answer in C of a number, a line and a value
abbrev pub answer : ℕ → ℕ → ℕ → AnswerInC
answer number line value = record { number = number; line = line; value = value }

-- an answer in C of a batch
abbrev pub batch_answer : ℕ → ℕ → ℕ → ℕ → BatchAnswerInC
batch_answer number line written count = record { number = number; line = line; written = written; count = count }

-- the first value of an accepted call, 0 where it has none
abbrev pub first_of : List ℕ → ℕ
first_of [] = 0
first_of (v ∷ vs) = v

-- .. and the second
abbrev pub second_of : List ℕ → ℕ
second_of [] = 0
second_of (v ∷ vs) = first_of vs

-- an answer that has at most one value: number 0 and the value, or a refusal's number and line
abbrev pub answer_of : Answer → AnswerInC
answer_of (accepted values) = answer 0 0 (first_of values)
answer_of (refused number line) = answer number line 0

-- .. and that of a batch: the number of groups written and the count
abbrev pub batch_answer_of : Answer → BatchAnswerInC
batch_answer_of (accepted values) = batch_answer 0 0 (first_of values) (second_of values)
batch_answer_of (refused number line) = batch_answer number line 0 0

-- ---- with the cells after the call

pub record Answered : Type 0 where
  pub answer : AnswerInC
  pub cells : List ℕ

abbrev pub answered : AnswerInC → List ℕ → Answered
answered a c = record { answer = a; cells = c }

-- a call on cells, as C sees it
abbrev pub edit_in_c : CellsOutcome → Answered
edit_in_c o = answered (answer_of o.answer) o.cells

pub record BatchAnswered : Type 0 where
  pub answer : BatchAnswerInC
  pub cells : List ℕ

abbrev pub batch_answered : BatchAnswerInC → List ℕ → BatchAnswered
batch_answered a c = record { answer = a; cells = c }

-- a batch on cells, as C sees it
abbrev pub batch_in_c : CellsOutcome → BatchAnswered
batch_in_c o = batch_answered (batch_answer_of o.answer) o.cells

-- ---- the border

pub record BorderAnswered : Type 0 where
  pub answer : AnswerInC
  pub border : List ℕ

abbrev pub border_answered : AnswerInC → List ℕ → BorderAnswered
border_answered a b = record { answer = a; border = b }

-- the border of a face, as C sees it
abbrev pub border_in_c : Bordered → BorderAnswered
border_in_c o = border_answered (answer_of o.answer) o.border

-- SCOPE 10.6: a number that names no face gets 99, before all other tests; the border is left as it was
abbrev pub border_at : Option Face → ℕ → List ℕ → List ℕ → BorderAnswered
border_at (some face) size c b = border_in_c (chunk_border_does face size c b)
border_at none size c b = border_answered (answer 99 0 0) b

-- `extract_border` of a number
unfoldable pub border_in_c_does : ℕ → ℕ → List ℕ → List ℕ → BorderAnswered
border_in_c_does n size c b = border_at (face_of n) size c b

-- ---- the tally

pub record TallyAnswered : Type 0 where
  pub answer : AnswerInC
  pub ids : List ℕ
  pub counts : List ℕ

abbrev pub tally_answered : AnswerInC → List ℕ → List ℕ → TallyAnswered
tally_answered a ids counts = record { answer = a; ids = ids; counts = counts }

-- SCOPE 5.9: a tally with its two lists, as C sees it
abbrev pub tally_in_c : TallyOutcome → TallyAnswered
tally_in_c o = tally_answered (answer_of o.answer) o.ids o.counts

-- ---- planes

pub record PlanesAnswered : Type 0 where
  pub answer : AnswerInC
  pub bytes : List ℕ

abbrev pub planes_answered : AnswerInC → List ℕ → PlanesAnswered
planes_answered a b = record { answer = a; bytes = b }

-- SCOPE 5.12: cells copied into bytes, as C sees it
abbrev pub planes_in_c : PlanesOutcome → PlanesAnswered
planes_in_c o = planes_answered (answer_of o.answer) o.bytes

-- ---- laws: an answer in C, of what the library's call answered

pub edit_in_c_lem : (r : AnswerInC) (a : Answer) (c : List ℕ) (o : CellsOutcome) → r ≡ answer_of a → cells_outcome a c ≡ o → answered r c ≡ edit_in_c o
edit_in_c_lem r a c o e f = ap (λ (u : AnswerInC). answered u c) e ∙ ap edit_in_c f

pub batch_in_c_lem : (r : BatchAnswerInC) (a : Answer) (c : List ℕ) (o : CellsOutcome)
    → r ≡ batch_answer_of a → cells_outcome a c ≡ o → batch_answered r c ≡ batch_in_c o
batch_in_c_lem r a c o e f = ap (λ (u : BatchAnswerInC). batch_answered u c) e ∙ ap batch_in_c f

pub border_in_c_lem : (n size : ℕ) (face : Face) (c b b' : List ℕ) (r : AnswerInC) (a : Answer)
    → face_of n ≡ some face → r ≡ answer_of a → bordered a b' ≡ chunk_border_does face size c b → border_answered r b' ≡ border_in_c_does n size c b
unfolding border_in_c_does
border_in_c_lem n size face c b b' r a g e f = rw g (ap (λ (u : AnswerInC). border_answered u b') e ∙ ap border_in_c f)

pub planes_in_c_lem : (r : AnswerInC) (a : Answer) (b : List ℕ) (o : PlanesOutcome)
    → r ≡ answer_of a → planes_outcome a b ≡ o → planes_answered r b ≡ planes_in_c o
planes_in_c_lem r a b o e f = ap (λ (u : AnswerInC). planes_answered u b) e ∙ ap planes_in_c f

-- only 0 to 5 name a face
pub no_face : (n : ℕ) → 5 < n → face_of n ≡ none
no_face zero h = absurd (omega arith)
no_face (suc zero) h = absurd (omega arith)
no_face (suc (suc zero)) h = absurd (omega arith)
no_face (suc (suc (suc zero))) h = absurd (omega arith)
no_face (suc (suc (suc (suc zero)))) h = absurd (omega arith)
no_face (suc (suc (suc (suc (suc zero))))) h = absurd (omega arith)
no_face (suc (suc (suc (suc (suc (suc n)))))) h = refl

pub border_no_face : (n size : ℕ) (c b : List ℕ) (r : AnswerInC) → 5 < n → r ≡ answer 99 0 0 → border_answered r b ≡ border_in_c_does n size c b
unfolding border_in_c_does
border_no_face n size c b r h e = rw (no_face n h) (ap (λ (u : AnswerInC). border_answered u b) e)
