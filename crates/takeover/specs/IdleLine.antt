-- What 9.8 asks of older lines is needed: for all settings and places within the limits there is an older journal (6.14) with one line behind G, an idle
-- edit; it opens, and an undo then is accepted and alters no cell. Assumes nothing.
use Rattle.std.specs.Prelude.{◌≡◌, [], ◌∷◌, ℕ}
use Rattle.session_calls.specs.Calls.{accepted}
use Rattle.session_calls.specs.declared.Session.{Session}
use Rattle.session_calls.specs.Reopened.{Opened}
use Rattle.takeover_model.specs.Model.{undo}
use Rattle.takeover.specs.AsMade.{Second, resumes}
use Rattle.takeover.specs.Witness.{Makes}

-- a tablet that reopened a journal, and an undo on it, as both were made: the undo is accepted, and no cell is altered
pub record IdleUndone : Type 1 where
  pub reopened : Second
  pub session : Session
  pub lines : ℕ
  pub trailing : ℕ
  pub answer : reopened.answer ≡ Opened session lines trailing
  pub made : Makes (resumes reopened session) (undo ∷ [])
  pub told : made.replies ≡ accepted 0 0 0 ∷ []
