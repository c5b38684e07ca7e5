-- SCOPE 9.8: in a map that only these calls write and that has no older line of an idle edit, every accepted undo alters a cell. One statement over
-- the whole list of calls as they were made, from a fresh session or from a reopened journal. Assumes nothing.
use Rattle.std.specs.Prelude.{List, ℕ, take}
use Rattle.std.proofs.Common.{sym, ◌∙◌, ap, subst}
use Rattle.session_calls.specs.Calls.{resumed}
use Rattle.session_calls.specs.declared.Reply.{Reply}
use Rattle.session_calls.specs.Reopened.{Reopened}
use Rattle.takeover_model.specs.Model.{Call, Model, model_run}
use Rattle.takeover_model.specs.Statement.{Tablet}
use Rattle.takeover_model.specs.Run.{run}
use Rattle.takeover_model.specs.Steps.{Good, Holds}
use Rattle.takeover_model.proofs.Opened.{opened_start}
use Rattle.takeover_model.proofs.Takeover.{along, same_replies}
use Rattle.takeover_model.specs.Alters.{NoIdleLine, UndosAlter, NoIdle}
use Rattle.takeover_model.proofs.Alters.{fresh_no_idle, run_no_idle, undos_alter, held_no_idle, model_no_idle, alike_no_idle}
use Rattle.takeover.specs.AsMade.{Made, after, Second, reopens, resumes}
use Rattle.takeover.specs.Demand.{model, TakenOver}
use Rattle.takeover.proofs.Theorem.{ran, after_ran, start, holds}
use Rattle.takeover.specs.Undos.{Start, UndoTheorem, fresh, reopened}

-- ---- the proof: the start is a model's state, and the model has no idle line

record Begins (t : Tablet) : Type 0 where
  from : Model
  good : Good from
  holds : Holds from t
  no_idle : NoIdle from

begins : (t : Tablet) → Start t → Begins t
begins t (fresh f) = record { from = model f; good = (start f).good; holds = holds f; no_idle = fresh_no_idle _ _ _ }
begins t (reopened o s lines trailing a p) =
    let b = opened_start o.cells.now o.journal.now o.held lines trailing s o.cells'.now
    (sym (reopens o) ∙ ap (λ (x : Reopened). resumed x o.cells'.now) a) in
    record { from = b.model; good = b.good; holds = b.holds; no_idle = model_no_idle b.model (resumes o s) b.good b.holds p }

pub undo_alters : UndoTheorem
undo_alters t s calls rs u made =
    let b = begins t s in
    record {
      undos = subst (UndosAlter calls) (sym ((ran made).answers ∙ same_replies b.from t b.good b.holds calls))
          (undos_alter b.from b.good b.no_idle calls);
      stays = λ n.
          (let l = along b.from t b.good b.holds (take n calls) in
          subst NoIdleLine (sym (after_ran n made))
          (held_no_idle (model_run b.from (take n calls)) (run t (take n calls)) l.good l.holds
          (run_no_idle b.from b.good b.no_idle (take n calls))));
    }

-- a tablet that takes such a map over after a cut (9.5) is such a start again
pub taken_over_starts : {s t : Tablet} {calls : List Call} {rs : List Reply} (made : Made s calls rs t) (confirmed q : ℕ) (o : Second) → Start s
    → (w : TakenOver made confirmed q o) → Start (resumes o w.session)
taken_over_starts {s} {t} {calls} {rs} made confirmed q o b w =
    reopened o w.session w.lines w.trailing w.answer
    (alike_no_idle (resumes o w.session) (after w.count made) w.same ((undo_alters s b calls rs t made).stays w.count))
