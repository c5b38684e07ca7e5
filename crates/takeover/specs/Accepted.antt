-- SCOPE 9.6: for every accepted journal, the calls that its lines say, given to the reference model with a lent length of at least the committed
-- prefix, are refused nowhere and leave exactly those bytes, the active edits and the checkpoints: with the older writer, and where no line is an idle
-- edit with the present one. Assumes nothing.
use Rattle.std.specs.Prelude.{◌≡◌}
use mathlib.Core.List.{List, [], ◌∷◌, ◌++◌}
use Prim.Native.Nat.{ℕ}
use Rattle.std.proofs.Math.ListN.{take}
use Rattle.config.specs.declared.TerrainConfig.{TerrainConfig}
use Rattle.config.specs.declared.ChunkPos.{ChunkPos}
use Rattle.config.specs.Limits.{limit_refusal}
use Rattle.ground.specs.Ground.{ground}
use Rattle.journal_format.specs.Line.{set, column, batch, ended, Line, edits, undoes, checkpoints, restores, wrong}
use Rattle.journal_format.specs.Journal.{lines, committed, Active, read}
use Rattle.journal_format.specs.Batches.{batch_args}
use Rattle.journal_format.specs.Writer.{LineOk, AllLineOk}
use Rattle.session_calls.specs.Record.{size_of, header_of_record}
use Rattle.session_calls.specs.declared.Session.{Session}
use Rattle.session_calls.specs.declared.Reply.{Reply}
use Rattle.takeover_model.specs.Model.{Call, Model, Ran, model_fresh, Writer, older_edit, model_edit, run_by, replies_by}
use Rattle.takeover_model.specs.Model as M
use Rattle.takeover_model.specs.Statement.{later_lines}
use Rattle.takeover_model.specs.Cut.{Same}
use Rattle.takeover_model.specs.Alters.{LaterAlter}

-- ---- the call that a line says

-- a line that can be written, as the call that writes it
abbrev pub call_of : (size : ℕ) (d : Line) → LineOk size d → Call
call_of size (edits (set x y z id)) p = M.set x y z id p.id
call_of size (edits (column x z height id)) p = M.column x z height id p.id
call_of size (edits (batch gs)) p = M.batch (batch_args gs)
call_of size undoes p = M.undo
call_of size (checkpoints n) p = M.checkpoint n
call_of size (restores n) p = M.restore n
call_of size wrong p = absurd p

-- .. and several of them
abbrev pub calls_of : (size : ℕ) (ds : List Line) → AllLineOk size ds → List Call
calls_of size [] p = []
calls_of size (d ∷ ds) p = call_of size d p.0 ∷ calls_of size ds p.1

-- none of the answers is a refusal
abbrev pub AllAccepted : List Reply → Type 0
AllAccepted [] = Unit
AllAccepted (r ∷ rs) = (r.refusal ≡ 0) × AllAccepted rs

-- ---- one line

-- a call is accepted, and the model has one line more and b active
pub record Gives (m : Model) (r : Ran) (b : Active) (l : List ℕ) : Type 0 where
  pub accepted : r.reply.refusal ≡ 0
  pub bytes : r.next.bytes ≡ m.bytes ++ ended l
  pub active : r.next.active ≡ b
  pub same : Same m r.next

-- ---- a whole journal: the model of its settings and place, and the calls of its later lines

-- s is a journal of these settings and this place, with the active edits b; `borrowed` is the length that the model is lent, w its writer
pub record Accepted (w : Writer) (s : List ℕ) (config : TerrainConfig) (place : ChunkPos) (b : Active) (borrowed : ℕ) : Type 0 where
  pub said : List Line
  pub good : AllLineOk config.chunk_size said
  -- no call is refused
  pub accepted : AllAccepted (replies_by w (model_fresh config place borrowed) (calls_of config.chunk_size said good))
  -- the bytes are the committed prefix
  pub bytes : (run_by w (model_fresh config place borrowed) (calls_of config.chunk_size said good)).bytes ≡ take (committed s) s
  -- and the active edits are the journal's, and the checkpoints
  pub active : (run_by w (model_fresh config place borrowed) (calls_of config.chunk_size said good)).active ≡ b

-- SCOPE 9.6
pub record WrittenByBoth (s : List ℕ) (config : TerrainConfig) (place : ChunkPos) (b : Active) (borrowed : ℕ) : Type 0 where
  -- with the older writer, which writes idle edits too
  pub older : Accepted older_edit s config place b borrowed
  -- and with the present one, where no line is an idle edit
  pub present : LaterAlter config.chunk_size (ground config place) (lines s) → Accepted model_edit s config place b borrowed

-- ---- what reopening accepts

-- SCOPE 1.2, 9.6: r is a record that reopening gave: its settings and place are within the limits, so that a session can begin with them, and the
-- journal s is what that session's calls write
pub record AsWritten (s : List ℕ) (r : Session) (borrowed : ℕ) : Type 0 where
  pub active_edits : Active
  pub edits : later_lines (size_of r) (lines s) ≡ read active_edits
  pub limits : limit_refusal (header_of_record r) ≡ 0
  pub written : WrittenByBoth s r.config r.pos active_edits borrowed
