-- What 9.8 asks of older lines is needed: for all settings and places within the limits there is an older journal (6.14) with one line behind G, an idle
-- edit; it opens, and an undo then is accepted and alters no cell. Assumes nothing.
use Rattle.std.specs.Prelude.{◌≡◌, [], ◌∷◌}
use Rattle.std.proofs.Common.{◌∙◌, ap}
use Rattle.config.specs.declared.TerrainConfig.{TerrainConfig}
use Rattle.config.specs.declared.ChunkPos.{ChunkPos}
use Rattle.config.specs.Limits.{config_header, limit_refusal}
use Rattle.ground.specs.Ground.{ground}
use Rattle.session_calls.specs.Calls.{Resumed}
use Rattle.takeover_model.specs.Model.{undo}
use Rattle.takeover_model.specs.Statement.{tablet}
use Rattle.takeover_model.specs.Run.{replies}
use Rattle.takeover_model.specs.Older.{flat}
use Rattle.takeover_model.proofs.Older.{older_model, flat_journal, flat_opens, flat_undone}
use Rattle.takeover_model.proofs.Takeover.{same_replies}
use Rattle.takeover.specs.AsMade.{Second, resumes}
use Rattle.takeover.proofs.Theorem.{ran}
use Rattle.takeover.specs.Witness.{second}
use Rattle.takeover.proofs.Witness.{makes}
use Rattle.takeover.specs.IdleLine.{IdleUndone}

pub idle_undone : (config : TerrainConfig) (place : ChunkPos) → limit_refusal (config_header config place) ≡ 0 → IdleUndone
idle_undone config place limits =
    let o = flat_opens config place limits in
    let t : Second = second (ground config place) (flat_journal config place limits) 32768 in
    record {
      reopened = t;
      session = o.session;
      lines = o.lines;
      trailing = o.trailing;
      answer = ap (λ (r : Resumed). r.answer) o.answer;
      made = makes (resumes t o.session) (undo ∷ []);
      told =
          (ran (makes (resumes t o.session) (undo ∷ [])).made).answers
          ∙ ap (λ (r : Resumed). replies (tablet o.session r.cells (flat_journal config place limits)) (undo ∷ [])) o.answer
          ∙ same_replies (older_model config place 32768 (flat ∷ [])) (tablet o.session o.cells (flat_journal config place limits)) o.good o.holds
          (undo ∷ [])
          ∙ flat_undone config place limits;
    }
