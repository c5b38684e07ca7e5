-- SCOPE 9.6, of every text and of every journal that reopening accepts: what `by_both` gives. Assumes nothing.
use Rattle.std.specs.Prelude.{◌≡◌, nat_abs}
use Rattle.std.proofs.Math.Path.{sym, ap}
use Rattle.std.proofs.Common.{◌∙◌, subst}
use mathlib.Core.List.{List, ◌∷◌}
use Rattle.std.proofs.Math.Option.{some}
use Prim.Native.Nat.{ℕ, ◌≤◌}
use Rattle.std.proofs.Math.ListN.{take}
use Rattle.config.specs.declared.Header.{Header}
use Rattle.config.specs.Limits.{limit_refusal}
use Rattle.journal_format.specs.Line.{header_of}
use Rattle.journal_format.specs.Journal.{lines, committed, Active, none_active, read, follow}
use Rattle.session_calls.specs.Calls.{resumed, config_of, pos_of, session_reopen_does}
use Rattle.session_calls.specs.FirstLine.{text_back}
use Rattle.session_calls.specs.declared.Session.{Session}
use Rattle.session_calls.specs.Reopened.{Reopened}
use Rattle.session_calls.specs.Reopened.{Opened}
use Rattle.takeover_model.specs.Model.{Model, model_size}
use Rattle.takeover_model.specs.Statement.{later_lines}
use Rattle.takeover_model.proofs.Opened.{opened_start}
use Rattle.takeover.specs.Accepted.{WrittenByBoth, AsWritten}
use Rattle.takeover.proofs.Accepted.{by_both}

-- SCOPE 9.6, of every text: a first line h within the limits, and lines behind it that leave b, active edits and checkpoints
pub accepted_is_written : (s g : List ℕ) (ls : List (List ℕ)) (h : Header) (b : Active) (borrowed : ℕ)
    → lines s ≡ g ∷ ls → header_of g ≡ some h → limit_refusal h ≡ 0 → follow (nat_abs h.chunk_size) 2 none_active ls ≡ read b → committed s ≤ borrowed
    → WrittenByBoth s (config_of h) (pos_of h) b borrowed
accepted_is_written s g ls h b borrowed e f l q c =
    by_both (config_of h) (pos_of h) s ls b (e ∙ ap (λ (x : List ℕ). x ∷ ls) (text_back g h f l)) q borrowed c

pub reopened_is_written : (c j : List ℕ) (held many trailing borrowed : ℕ) (r : Session) → (session_reopen_does c j held).answer ≡ Opened r many trailing
    → committed (take held j) ≤ borrowed → AsWritten (take held j) r borrowed
reopened_is_written c j held many trailing borrowed r a fits =
    let d : List ℕ = (session_reopen_does c j held).cells in
    let o = opened_start c j held many trailing r d (ap (λ (x : Reopened). resumed x d) a) in
    let m : Model = o.model in
    subst (λ (x : Session). AsWritten (take held j) x borrowed) (sym o.holds.session)
    (record {
      active_edits = m.active;
      edits = ap (later_lines (model_size m)) o.whole ∙ o.good.reads;
      limits = o.good.limits;
      written = by_both m.config m.place (take held j) o.good.ls m.active o.whole o.good.reads borrowed fits;
    })
