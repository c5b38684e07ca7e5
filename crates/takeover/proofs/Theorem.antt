-- The takeover theorem (SCOPE 9.5), proved: what was made is what the calls' definitions give one after the other, and the theorem over the
-- definitions (`Takeover` of the crate `takeover_model`) is carried over. Assumes nothing.
use Rattle.std.specs.Prelude.{◌≡◌, List, ◌∷◌, ℕ, zero, suc, ◌≤◌, ◌<◌, length, take}
use Rattle.std.proofs.Math.Path.{refl}
use Rattle.std.proofs.Common.{sym, ◌∙◌, ap, subst, arith}
use Rattle.config.specs.Limits.{config_header}
use Rattle.journal_format.specs.Line.{header_text}
use Rattle.journal_format.specs.Journal as J
use Rattle.journal_format.specs.Lines.{NoLF}
use Rattle.journal_format.proofs.Lines.{no_lf_append}
use Rattle.journal_format.proofs.RoundTrip.{header_no_lf}
use Rattle.session_calls.specs.Calls.{Outcome, Recorded, Begun, session_fresh_does, Resumed, resumed}
use Rattle.session_calls.specs.Checkpoints.{beside_cells}
use Rattle.session_calls.specs.declared.Reply.{Reply}
use Rattle.session_calls.specs.Reopened.{Refused}
use Rattle.takeover_model.specs.Model.{Call, model_fresh, model_run}
use Rattle.takeover_model.specs.Model as M
use Rattle.takeover_model.specs.Statement.{Tablet, tablet, used_bytes, does, leaves, Alike, AsModel, Laid, CutAt}
use Rattle.takeover_model.specs.Run.{run, replies}
use Rattle.takeover_model.specs.Steps.{Holds}
use Rattle.takeover_model.specs.Open.{Fresher}
use Rattle.takeover_model.proofs.Open.{fresh_holds, reopens_none}
use Rattle.takeover_model.specs.Takeover.{Taken, Along}
use Rattle.takeover_model.proofs.Takeover.{taken, first_cut, along, as_model, laid_on, same_replies}
use Rattle.takeover.specs.AsMade.{noted, Made, none, set, column, batch, undo, checkpoint, restore, form, after, gave, First, began, Second, reopens, resumes}
use Rattle.takeover.specs.Demand.{model, first_line, TakenOver, TakeoverTheorem}

-- ---- what was made is what `run` and `replies` say

pub record RanAs (t : Tablet) (ks : List Call) (rs : List Reply) (u : Tablet) : Type 0 where
  pub last : u ≡ run t ks
  pub answers : rs ≡ replies t ks

-- one step: the outcome o of a call on t
step : {t u : Tablet} {ks : List Call} {rs : List Reply} (k : Call) (o : Outcome) → o ≡ does t k → RanAs (leaves o) ks rs u → RanAs t (k ∷ ks) (o.reply ∷ rs) u
unfolding run replies
step {ks = ks} k o l r = record {
  last = r.last ∙ ap (λ (p : Outcome). run (leaves p) ks) l;
  answers = ap (λ (xs : List Reply). o.reply ∷ xs) r.answers ∙ ap (λ (p : Outcome). p.reply ∷ replies (leaves p) ks) l;
}

pub ran : {t u : Tablet} {ks : List Call} {rs : List Reply} → Made t ks rs u → RanAs t ks rs u
unfolding run replies does
ran none = record { last = refl; answers = refl }
ran (set κs c x y z id h l p) = step (M.set x y z id h) (gave c) l (ran p)
ran (column κs c x z height id h l p) = step (M.column x z height id h) (gave c) l (ran p)
ran (batch κs c edits l p) = step (M.batch edits.now) (gave c) l (ran p)
ran (undo κs c l p) = step M.undo (gave c) l (ran p)
ran (checkpoint κs k name cells l p) =
    step (M.checkpoint name.now) (beside_cells (noted k) cells) (ap (λ (r : Recorded). beside_cells r cells) l) (ran p)
ran (restore κs c name l p) = step (M.restore name.now) (gave c) l (ran p)
ran (form k o l p) = step k o l (ran p)

-- the same of the state after n calls
after_step : (t : Tablet) (ks : List Call) (n : ℕ) (k : Call) (o : Outcome) (u : Tablet)
    → o ≡ does t k → u ≡ run (leaves o) (take n ks) → u ≡ run t (take (suc n) (k ∷ ks))
unfolding run
after_step t ks n k o u l e = e ∙ ap (λ (p : Outcome). run (leaves p) (take n ks)) l

pub after_ran : {t u : Tablet} {ks : List Call} {rs : List Reply} (n : ℕ) (made : Made t ks rs u) → after n made ≡ run t (take n ks)
unfolding run does
after_ran zero made = refl
after_ran (suc n) none = refl
after_ran (suc n) (set κs c x y z id h l p) = after_step _ _ n (M.set x y z id h) (gave c) (after n p) l (after_ran n p)
after_ran (suc n) (column κs c x z height id h l p) = after_step _ _ n (M.column x z height id h) (gave c) (after n p) l (after_ran n p)
after_ran (suc n) (batch κs c edits l p) = after_step _ _ n (M.batch edits.now) (gave c) (after n p) l (after_ran n p)
after_ran (suc n) (undo κs c l p) = after_step _ _ n M.undo (gave c) (after n p) l (after_ran n p)
after_ran (suc n) (checkpoint κs k name cells l p) =
    after_step _ _ n (M.checkpoint name.now) (beside_cells (noted k) cells) (after n p) (ap (λ (r : Recorded). beside_cells r cells) l) (after_ran n p)
after_ran (suc n) (restore κs c name l p) = after_step _ _ n (M.restore name.now) (gave c) (after n p) l (after_ran n p)
after_ran (suc n) (form k o l p) = after_step _ _ n k o (after n p) l (after_ran n p)

-- ---- the fresh session

module _ (f : First) where
  pub start : Fresher f.config f.place f.cells.now f.journal.now (session_fresh_does f.config f.place f.cells.now f.journal.now)
      f.session
  start = fresh_holds f.config f.place f.cells.now f.journal.now f.session (sym (ap (λ (b : Begun). b.answer) f.gives))

  pub holds : Holds (model f) (began f)
  holds = subst (λ (b : Begun). Holds (model f) (tablet f.session b.cells b.journal)) (sym f.gives) start.holds

  first_bytes : (model f).bytes ≡ first_line f
  unfolding model_fresh
  first_bytes = refl

  beside : (ks : List Call) → Along (model f) (began f) ks
  beside ks = along (model f) (began f) start.good holds ks

  as_model_after : (ks : List Call) → AsModel (model_run (model f) ks) (run (began f) ks)
  as_model_after ks = as_model (model_run (model f) ks) (run (began f) ks) (beside ks).good (beside ks).holds

  laid_so : (ks : List Call) → Laid (run (began f) ks)
  laid_so ks = laid_on (model_run (model f) ks) (run (began f) ks) (beside ks).good (beside ks).holds

-- ---- a cut

module _ (f : First) {calls : List Call} {rs : List Reply} {t : Tablet} (made : Made (began f) calls rs t) where
  -- a fact of the state after n calls, from that of the definitions' run
  at : (P : Tablet → Type 0) (n : ℕ) → P (run (began f) (take n calls)) → P (after n made)
  at P n p = subst P (sym (after_ran n made)) p

  module _ (confirmed q : ℕ) (tail : List ℕ) (o : Second) (cut : CutAt t confirmed q tail o.cells.now o.journal.now o.held) where
    cut_run : CutAt (run (began f) calls) confirmed q tail o.cells.now o.journal.now o.held
    cut_run = subst (λ (u : Tablet). CutAt u confirmed q tail o.cells.now o.journal.now o.held) (ran made).last cut

    no_first_line : q < length (first_line f) → (o.answer ≡ Refused 10 0) × (o.cells'.now ≡ o.cells.now)
    no_first_line h =
        let n : NoLF (take q (run (began f) calls).journal) =
        first_cut (model f) (began f) (header_text (config_header f.config f.place)) (first_bytes f)
        (header_no_lf (config_header f.config f.place)) (start f).good (holds f) calls q
        (subst (λ (b : List ℕ). q < length b) (sym (first_bytes f)) h) cut_run.to_used in
        let l : length o.journal.now ≤ 32768 =
        (let s = (beside f calls).good.short in omega (arith, cut_run.journal ∙ (beside f calls).holds.bytes.long)) in
        let e : resumed o.answer o.cells'.now ≡ resumed (Refused 10 0) o.cells.now =
        reopens o
        ∙ reopens_none o.cells.now o.journal.now o.held l cut.within
        (subst NoLF (sym cut_run.bytes) (no_lf_append (take q (run (began f) calls).journal) tail n cut.no_lf_lem)) in
        (ap (λ (r : Resumed). r.answer) e, ap (λ (r : Resumed). r.cells) e)

    taken_over : length (first_line f) ≤ q → TakenOver made confirmed q o
    taken_over h =
        let k : Taken (began f) calls confirmed q o.cells.now o.journal.now o.held =
        taken (model f) (began f) (start f).good (holds f) calls confirmed q tail o.cells.now o.journal.now o.held
        (subst (λ (b : List ℕ). length b ≤ q) (sym (first_bytes f)) h) cut_run in
        let e = reopens o ∙ k.answer in
        let cells : o.cells'.now ≡ k.cells = ap (λ (r : Resumed). r.cells) e in
        let second : resumes o k.session ≡ tablet k.session k.cells o.journal.now =
        ap (λ (c : List ℕ). tablet k.session c o.journal.now) cells in
        record {
          session = k.session;
          lines = k.lines;
          trailing = k.trailing;
          answer = ap (λ (r : Resumed). r.answer) e;
          lines_are = k.lines_are ∙ ap (λ (u : Tablet). length (J.lines (used_bytes u))) (sym second);
          trailing_are = k.trailing_is;
          count = k.count;
          whole = record {
            most = k.most;
            within = at (λ (u : Tablet). u.session.used ≤ q) k.count k.within;
            beyond = λ n l m. at (λ (u : Tablet). q < u.session.used) n (k.beyond n l m);
          };
          same = at (λ (u : Tablet). Alike (resumes o k.session) u) k.count
              (subst (λ (u : Tablet). Alike u (run (began f) (take k.count calls))) (sym second) k.same);
          kept = k.kept;
          kept_bytes = k.kept_bytes ∙ ap (λ (u : Tablet). take confirmed (used_bytes u)) (sym (ran made).last);
          further = λ more rs₁ rs₂ u v a b.
              (let x = ran a in
              let y = ran b in
              let p = k.further more in
              let from : run (resumes o k.session) more ≡ run (tablet k.session k.cells o.journal.now) more =
              ap (λ (w : Tablet). run w more) second in
              let to : run (after k.count made) more ≡ run (run (began f) (take k.count calls)) more =
              ap (λ (w : Tablet). run w more) (after_ran k.count made) in (
                x.answers
                    ∙ ap (λ (w : Tablet). replies w more) second
                    ∙ p.0
                    ∙ sym (y.answers ∙ ap (λ (w : Tablet). replies w more) (after_ran k.count made)),
                subst (λ (w : Tablet). Alike u w) (sym (y.last ∙ to))
                    (subst (λ (w : Tablet). Alike w (run (run (began f) (take k.count calls)) more)) (sym (x.last ∙ from)) p.1),
              ));
        }

-- SCOPE 9.5, in one piece.
pub takeover : TakeoverTheorem
takeover f calls rs t made = record {
  each = λ n. at f made (λ (u : Tablet). AsModel (model_run (model f) (take n calls)) u) n (as_model_after f (take n calls));
  last = subst (λ (u : Tablet). AsModel (model_run (model f) calls) u) (sym (ran made).last) (as_model_after f calls);
  laid = λ n. at f made Laid n (laid_so f (take n calls));
  answers = (ran made).answers ∙ same_replies (model f) (began f) (start f).good (holds f) calls;
  cut = λ confirmed q tail o c. record { no_first_line = no_first_line f made confirmed q tail o c; taken_over = taken_over f made confirmed q tail o c };
}
