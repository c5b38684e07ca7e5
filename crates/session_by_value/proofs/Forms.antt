-- What a caller of each of the six calls with the record by value (SCOPE 7.1, 7.7) learns is what `does` says of the tablet: the equation that the
-- takeover theorem takes as a step (takeover's `Made.form`). By computation, so that a change of a contract makes this module fail. Assumes nothing.
use mathlib.Core.Path.{◌≡◌, refl, ap}
use mathlib.Core.List.{List}
use Prim.Native.Nat.{ℕ, ◌≤◌}
use seplogic.Ra.Ura.{Ura}
use base.Logic.{SProp}
use prog.Memory.{Memory}
use prog.Routine.{Routine}
use types.Logic.{Logic}
use contract.Lifetimes.{Lfts}
use contract.Monad.{Fun, fact}
use Rattle.std.specs.Borrow.{Bor, MutBor}
use Rattle.session_calls.specs.Calls.{Outcome, outcome, Recorded, recorded}
use Rattle.session_calls.specs.Checkpoints.{session_checkpoint_does, beside_cells}
use Rattle.session_calls.specs.declared.Session.{Session}
use Rattle.session_by_value.specs.declared.Edited.{Edited}
use Rattle.takeover_model.specs.Model.{set, column, batch, undo, checkpoint, restore}
use Rattle.takeover_model.specs.Statement.{Tablet, tablet, does}
use Rattle.session_by_value.specs.contracts.set as set_form
use Rattle.session_by_value.specs.contracts.fill_column as column_form
use Rattle.session_by_value.specs.contracts.set_blocks as batch_form
use Rattle.session_by_value.specs.contracts.undo as undo_form
use Rattle.session_by_value.specs.contracts.checkpoint as checkpoint_form
use Rattle.session_by_value.specs.contracts.restore as restore_form

-- the record as it goes in, the cells and the journal as they are lent, and as the call leaves them ('), with what comes back
module _ {M : Type 1} {𝓤 : Ura M} (𝓛 : Logic 𝓤) (mem : Memory → SProp 𝓤) (run : Routine → Fun 𝓤)
    (s : Session) (cells journal cells' journal' : MutBor (List ℕ)) (back : Edited) where
  abbrev given : Tablet
  given = tablet s cells.now journal.now

  abbrev gave : Outcome
  gave = outcome back.session back.reply cells'.now journal'.now

  set_does : (κs : Lfts 2) (x y z id : ℕ) (h : id ≤ 65535)
      → (set_form.clauses 𝓛 mem run κs (s, (cells, (journal, (x, (y, (z, (id, tt)))))))).ensures tt back
      (s, (cells', (journal', (x, (y, (z, (id, tt)))))))
      ≡ fact 𝓤 (gave ≡ does given (set x y z id h))
  unfolding does
  set_does κs x y z id h = refl

  column_does : (κs : Lfts 2) (x z height id : ℕ) (h : id ≤ 65535)
      → (column_form.clauses 𝓛 mem run κs (s, (cells, (journal, (x, (z, (height, (id, tt)))))))).ensures tt back
      (s, (cells', (journal', (x, (z, (height, (id, tt)))))))
      ≡ fact 𝓤 (gave ≡ does given (column x z height id h))
  unfolding does
  column_does κs x z height id h = refl

  batch_does : (κs : Lfts 3) (edits : Bor (List ℕ))
      → (batch_form.clauses 𝓛 mem run κs (s, (cells, (journal, (edits, tt))))).ensures tt back (s, (cells', (journal', (edits, tt))))
      ≡ fact 𝓤 (gave ≡ does given (batch edits.now))
  unfolding does
  batch_does κs edits = refl

  undo_does : (κs : Lfts 2)
      → (undo_form.clauses 𝓛 mem run κs (s, (cells, (journal, tt)))).ensures tt back (s, (cells', (journal', tt)))
      ≡ fact 𝓤 (gave ≡ does given undo)
  unfolding does
  undo_does κs = refl

  -- a checkpoint is lent no cells: those beside it are as they were
  abbrev noted : Bor (List ℕ) → Type 0
  noted name = recorded back.session back.reply journal'.now ≡ session_checkpoint_does s journal.now name.now

  checkpoint_does : (κs : Lfts 2) (name : Bor (List ℕ))
      → (checkpoint_form.clauses 𝓛 mem run κs (s, (journal, (name, tt)))).ensures tt back (s, (journal', (name, tt)))
      ≡ fact 𝓤 (noted name)
  checkpoint_does κs name = refl

  checkpoint_beside : (name : Bor (List ℕ)) → noted name
      → outcome back.session back.reply cells.now journal'.now ≡ does given (checkpoint name.now)
  unfolding does
  checkpoint_beside name e = ap (λ (r : Recorded). beside_cells r cells.now) e

  restore_does : (κs : Lfts 3) (name : Bor (List ℕ))
      → (restore_form.clauses 𝓛 mem run κs (s, (cells, (journal, (name, tt))))).ensures tt back (s, (cells', (journal', (name, tt))))
      ≡ fact 𝓤 (gave ≡ does given (restore name.now))
  unfolding does
  restore_does κs name = refl
