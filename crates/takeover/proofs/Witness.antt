-- The theorem (SCOPE 9.5) speaks of something: every list of calls can be made from every tablet, by the calls' own contracts; a fresh session that
-- is accepted is a first tablet, and every journal can be reopened by a second. Assumes nothing.
use Rattle.std.specs.Prelude.{◌≡◌, List, [], ◌∷◌}
use Rattle.std.proofs.Common.{ap}
use Rattle.session_calls.specs.Answers.{reply_of}
use Rattle.session_calls.specs.Calls.{Outcome, outcome, recorded}
use Rattle.session_calls.specs.declared.Reply.{Reply}
use Rattle.session_calls.proofs.Answered.{Answered, set_answered, column_answered, batch_answered, undo_answered, checkpoint_answered, restore_answered}
use Rattle.takeover_model.specs.Model.{Call}
use Rattle.takeover_model.specs.Model as M
use Rattle.takeover_model.specs.Statement.{Tablet, leaves, does}
use Rattle.takeover.specs.AsMade.{Made}
use Rattle.takeover.specs.AsMade as C
use Rattle.takeover.specs.Witness.{showing, three, four, turn, note, Makes}

more : {t : Tablet} {k : Call} {ks : List Call} (o : Outcome) (a : Answered o.reply) (rest : Makes (leaves o) ks)
    → Made t (k ∷ ks) (reply_of a.answer ∷ rest.replies) rest.last → Makes t (k ∷ ks)
more o a rest m = record { replies = reply_of a.answer ∷ rest.replies; last = rest.last; made = m }

-- the outcome of a call, with its result in place of the reply
with_result : (o : Outcome) (a : Answered o.reply) → outcome o.session (reply_of a.answer) o.cells o.journal ≡ o
with_result o a = ap (λ (r : Reply). outcome o.session r o.cells o.journal) a.says

-- every list of calls has them
pub makes : (t : Tablet) (ks : List Call) → Makes t ks
unfolding does
makes t [] = record { replies = []; last = t; made = C.none }
makes t (M.set x y z id h ∷ ks) =
    let o = does t (M.set x y z id h) in
    let a = set_answered t.session t.cells t.journal x y z id in
    let rest = makes (leaves o) ks in
    more o a rest (C.set three (turn t o a) x y z id h (with_result o a) rest.made)
makes t (M.column x z height id h ∷ ks) =
    let o = does t (M.column x z height id h) in
    let a = column_answered t.session t.cells t.journal x z height id in
    let rest = makes (leaves o) ks in
    more o a rest (C.column three (turn t o a) x z height id h (with_result o a) rest.made)
makes t (M.batch ns ∷ ks) =
    let o = does t (M.batch ns) in
    let a = batch_answered t.session t.cells t.journal ns in
    let rest = makes (leaves o) ks in
    more o a rest (C.batch four (turn t o a) (showing ns) (with_result o a) rest.made)
makes t (M.undo ∷ ks) =
    let o = does t M.undo in
    let a = undo_answered t.session t.cells t.journal in
    let rest = makes (leaves o) ks in
    more o a rest (C.undo three (turn t o a) (with_result o a) rest.made)
makes t (M.checkpoint n ∷ ks) =
    let o = does t (M.checkpoint n) in
    let a = checkpoint_answered t.session t.cells t.journal n in
    let rest = makes (leaves o) ks in
    more o a rest
    (C.checkpoint three (note t o a) (showing n) t.cells (ap (λ (r : Reply). recorded o.session r o.journal) a.says) rest.made)
makes t (M.restore n ∷ ks) =
    let o = does t (M.restore n) in
    let a = restore_answered t.session t.cells t.journal n in
    let rest = makes (leaves o) ks in
    more o a rest (C.restore four (turn t o a) (showing n) (with_result o a) rest.made)
