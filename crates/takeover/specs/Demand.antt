-- THE TAKEOVER THEOREM, SCOPE 9.5: one statement over the whole list of calls as they were made, and every cut. `AsMade` says what a list as it
-- was made is, a first tablet and a second. In the crate `takeover_model`, `Statement` says what is compared and what a cut is, and `Model` is the
-- reference model. `Theorem` proves it. Assumes nothing.
use Rattle.std.specs.Prelude.{◌≡◌, List, ℕ, ◌+◌, ◌≤◌, ◌<◌, length, take}
use Rattle.config.specs.Limits.{config_header}
use Rattle.journal_format.specs.Line.{header_text, ended}
use Rattle.journal_format.specs.Journal as J
use Rattle.session_calls.specs.declared.Session.{Session}
use Rattle.session_calls.specs.declared.Reply.{Reply}
use Rattle.session_calls.specs.Reopened.{Opened, Refused}
use Rattle.takeover_model.specs.Model.{Call, Model, model_fresh, model_run, model_replies}
use Rattle.takeover_model.specs.Statement.{Tablet, used_bytes, Alike, AsModel, Laid, CutAt}
use Rattle.takeover.specs.AsMade.{Made, after, First, began, Second, resumes}

-- SCOPE 8.1: the reference model of the same start, with the first tablet's settings, place and length of the lent journal
abbrev pub model : First → Model
model f = model_fresh f.config f.place (length f.journal.now)

-- G's line, with its LF
abbrev pub first_line : First → List ℕ
first_line f = ended (header_text (config_header f.config f.place))

module _ {s t : Tablet} {calls : List Call} {rs : List Reply} (made : Made s calls rs t) where
  -- The last call whose line is whole among the first q bytes, by its number, 0 where there is none: after it the used bytes end within q, and after
  -- every later one beyond. (A call without a line changes nothing, so it can be the one.)
  pub record LastWhole (q count : ℕ) : Type 0 where
    pub most : count ≤ length calls
    pub within : (after count made).session.used ≤ q
    pub beyond : (n : ℕ) → count < n → n ≤ length calls → q < (after n made).session.used

  -- G's line is whole: what the second tablet gets. t is the first after its last call.
  pub record TakenOver (confirmed q : ℕ) (o : Second) : Type 1 where
    -- reopening accepts, and answers how many lines are whole and how many bytes trail, which is all that is held behind the used bytes
    pub session : Session
    pub lines : ℕ
    pub trailing : ℕ
    pub answer : o.answer ≡ Opened session lines trailing
    pub lines_are : lines ≡ length (J.lines (used_bytes (resumes o session)))
    pub trailing_are : session.used + trailing ≡ o.held
    -- the second has the record, cells, used bytes, active edits and checkpoints (names and lists) that the first had after the last call whose line
    -- is whole, call `count`
    pub count : ℕ
    pub whole : LastWhole q count
    pub same : Alike (resumes o session) (after count made)
    -- no confirmed line is missing, and each has the bytes that were written
    pub kept : confirmed ≤ session.used
    pub kept_bytes : take confirmed (used_bytes (resumes o session)) ≡ take confirmed (used_bytes t)
    -- and further on: every list of calls, made on the second and on the first as it was after that call, gets the same answers and leaves the same
    pub further : (more : List Call) (rs₁ rs₂ : List Reply) (u v : Tablet)
        → Made (resumes o session) more rs₁ u → Made (after count made) more rs₂ v → (rs₁ ≡ rs₂) × Alike u v

-- f is a fresh session that was accepted, rs are the answers to the calls that were made on it, t is the tablet that they left.
module _ (f : First) {calls : List Call} {rs : List Reply} {t : Tablet} (made : Made (began f) calls rs t) where
  -- one cut: q bytes were kept, at least the confirmed ones, and o is a second tablet that reopens them
  pub record Takeover (confirmed q : ℕ) (o : Second) : Type 1 where
    -- G's line is cut: reopening answers 10, and leaves the cells as they were
    pub no_first_line : q < length (first_line f) → (o.answer ≡ Refused 10 0) × (o.cells'.now ≡ o.cells.now)
    -- G's line is whole
    pub taken_over : length (first_line f) ≤ q → TakenOver made confirmed q o

  -- what holds of the whole list
  pub record Demand : Type 1 where
    -- at first, after every call and after the last: the tablet has the model's cells, count, used bytes, active edits and checkpoints
    pub each : (n : ℕ) → AsModel (model_run (model f) (take n calls)) (after n made)
    pub last : AsModel (model_run (model f) calls) t
    -- its cells are the ground with its active edits laid on in order
    pub laid : (n : ℕ) → Laid (after n made)
    -- every answer is the model's, whole: refused exactly where the model refuses, with the same number; else with the same groups written, the same
    -- id that was there before, and as many cells altered (SCOPE 7.8). The model tells these of its own cells (`takeover_model/proofs/Told`).
    pub answers : rs ≡ model_replies (model f) calls
    -- every cut: whatever byte it comes at, whatever is confirmed, whatever the second's buffers had in them
    pub cut : (confirmed q : ℕ) (tail : List ℕ) (o : Second) → CutAt t confirmed q tail o.cells.now o.journal.now o.held
        → Takeover confirmed q o

-- SCOPE 9.5: so for every fresh session that was accepted, and every list of calls as it was made on it.
abbrev pub TakeoverTheorem : Type 1
TakeoverTheorem = (f : First) (calls : List Call) (rs : List Reply) (t : Tablet) (made : Made (began f) calls rs t) → Demand f made
