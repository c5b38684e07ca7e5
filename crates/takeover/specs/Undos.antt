-- SCOPE 9.8: in a map that only these calls write and that has no older line of an idle edit, every accepted undo alters a cell. One statement over
-- the whole list of calls as they were made, from a fresh session or from a reopened journal. Assumes nothing.
use Rattle.std.specs.Prelude.{◌≡◌, List, ℕ}
use Rattle.session_calls.specs.declared.Session.{Session}
use Rattle.session_calls.specs.declared.Reply.{Reply}
use Rattle.session_calls.specs.Reopened.{Opened}
use Rattle.takeover_model.specs.Model.{Call}
use Rattle.takeover_model.specs.Statement.{Tablet}
use Rattle.takeover_model.specs.Alters.{NoIdleLine, UndosAlter}
use Rattle.takeover.specs.AsMade.{Made, after, First, began, Second, resumes}

-- the tablet at the start of such a map: a fresh session, or a reopened journal of which no line is an idle edit
pub data Start : Tablet → Type 1 where
  fresh : (f : First) → Start (began f)
  reopened : (o : Second) (s : Session) (lines trailing : ℕ) → o.answer ≡ Opened s lines trailing → NoIdleLine (resumes o s) → Start (resumes o s)

-- what holds of a list of calls, with their answers: every accepted undo tells at least one altered cell, and after each call no line is an idle edit
pub record EveryUndoAlters {t u : Tablet} {ks : List Call} {rs : List Reply} (made : Made t ks rs u) : Type 0 where
  pub undos : UndosAlter ks rs
  pub stays : (n : ℕ) → NoIdleLine (after n made)

-- SCOPE 9.8
abbrev pub UndoTheorem : Type 1
UndoTheorem = (t : Tablet) → Start t → (calls : List Call) (rs : List Reply) (u : Tablet) (made : Made t calls rs u) → EveryUndoAlters made
