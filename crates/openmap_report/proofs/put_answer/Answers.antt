-- `openmap_report::put_answer` meets its contract. One line for a refusal; for an opened map its line and then its rows, which fit. Assumes nothing.
use Rattle.openmap_lines.specs.Appended.{same_length as kept}
use Rattle.openmap_report.specs.Fits.{Sized}
use Rattle.openmap_rows.specs.Rows.{map_length, size_most}
use Rattle.openmap_lines.specs.Appended.{as_text, then}
use Rattle.openmap_lines.specs.Text.{no_text}
use Rattle.openmap_report.specs.Text.{answer_text}
use Rattle.session_calls.specs.Answers.{says_reopened}
use Rattle.session_calls.specs.declared.Opened.{Opened}
use Rattle.config.specs.declared.refusals.Refused.{Refused}
use Rattle.session_calls.specs.Record.{size_of}
use Rattle.std.specs.Prelude.{Result}
use Rattle.grid.specs.Cube.{Cube}
use mathlib.Core.Path.{sym, ◌∙◌, ap, subst}
use Prim.Native.Nat.{ℕ}
use native.Mathlib.Omega.{arith}
use Rattle.openmap_report.proofs.put_answer.Goals as goal

pub put_map-requires : goal.put_map-requires
put_map-requires c =
    let s = c.in-Ok.opened.session in
    let cube : Cube (size_of s) c.args.cells.now =
    subst (λ (a : Result Opened Refused). Sized (says_reopened a) c.args.cells.now) c.in-Ok.is c.requires.sized in
    let most = size_most (size_of s) (omega (arith, c.requires.few, cube.all)) in
    let m = map_length (size_of s) c.args.cells.now (λ i. omega (arith, c.type_inv.cells i)) most in
    let e = c.put_opened-p.ensures in
    record { cube = cube; space = omega (arith, c.requires.space, e.1, e.0.behind, kept (omega (arith, c.requires.space, e.1)) e.0) }

pub returns-in-Err : goal.returns-in-Err
unfolding answer_text
returns-in-Err c =
    as_text
    (ap (λ (n : ℕ). no_text n c.in-Err.refused.line) c.number.ensures
    ∙ sym (ap (λ (a : Result Opened Refused). answer_text (says_reopened a) c.args.cells.now) c.in-Err.is))
    c.put_refused.ensures

pub returns-in-Ok : goal.returns-in-Ok
unfolding answer_text
returns-in-Ok c =
    let e = c.put_opened-p.ensures in
    let k = e.1 in
    let room = c.requires.space in
    as_text (sym (ap (λ (a : Result Opened Refused). answer_text (says_reopened a) c.args.cells.now) c.in-Ok.is))
    (then (omega arith) e.0 c.put_map.ensures)
