-- `openmap_report::report` meets its contract. Too few cells or bytes, or what reopening leaves, as text. Assumes nothing.
use Rattle.openmap_lines.specs.Appended.{as_text}
use Rattle.session_calls.specs.Answers.{says_reopened}
use Rattle.openmap_report.specs.Text.{answer_text}
use mathlib.Core.List.{◌++◌}
use Rattle.openmap_report.proofs.Told.{few_cells, few_bytes, all_told, sized}
use lib.Seq.{length-take-le, take_at}
use lib.ListN.{length, take, drop}
use mathlib.Core.Path.{◌≡◌, sym, ◌∙◌, ap}
use native.Mathlib.Omega.{arith}
use Rattle.openmap_report.proofs.report.Goals.{After-reopen-answer, After-reopen-arg-1}
use Rattle.openmap_report.proofs.report.Goals as goal

pub returns-then-cells-lt-CELLS : goal.returns-then-cells-lt-CELLS
returns-then-cells-lt-CELLS c =
    few_cells c.args.journal.now c.args.held c.args.cells.now c.args.out.now c.if-cells-lt-CELLS.true

pub returns-then-out-lt-TEXT_BYTES : goal.returns-then-out-lt-TEXT_BYTES
returns-then-out-lt-TEXT_BYTES c =
    few_bytes c.args.journal.now c.args.held c.args.cells.now c.args.out.now c.if-cells-lt-CELLS.false c.if-out-lt-TEXT_BYTES.true

pub slice_bounds-reopen-end-2 : goal.slice_bounds-reopen-end-2
slice_bounds-reopen-end-2 c =
    sym (length-take-le c.lent_cells-n.result c.args.cells.now (let h = c.if-cells-lt-CELLS.false in let k = c.lent_cells-n.ensures.1 in omega arith))

-- the lent cells come back in their place
module _ (c : After-reopen-answer) where
  many : length c.reopen-answer.new.cells ≡ c.lent_cells-n.result
  many =
      c.reopen-answer.auto.cells
      ∙ length-take-le c.lent_cells-n.result c.args.cells.now (let h = c.if-cells-lt-CELLS.false in let k = c.lent_cells-n.ensures.1 in omega arith)

  back : take c.lent_cells-n.result (c.reopen-answer.new.cells ++ drop c.lent_cells-n.result c.args.cells.now) ≡ c.reopen-answer.new.cells
  back = take_at c.reopen-answer.new.cells (drop c.lent_cells-n.result c.args.cells.now) c.lent_cells-n.result many

pub slice_bounds-put_answer-end-2 : goal.slice_bounds-put_answer-end-2
slice_bounds-put_answer-end-2 c =
    let w = (goal.at.slice_bounds-put_answer-end-2 c).After-reopen-answer in
    sym (ap length (back w) ∙ many w)

pub put_answer-requires : goal.put_answer-requires
put_answer-requires c =
    let a = c.args in
    let r = c.reopen-answer in
    let n = c.lent_cells-n.result in
    let m = many (goal.at.put_answer-requires c).After-reopen-answer in
    let k = c.lent_cells-n.ensures.1 in
    let o = c.if-out-lt-TEXT_BYTES.false in
    rw (back (goal.at.put_answer-requires c).After-reopen-answer)
    (record {
      sized = sized (take n a.cells.now) a.journal.now a.held (says_reopened r.result) r.new.cells r.ensures r.auto.cells;
      few = omega arith;
      space = omega arith;
    })

pub returns : goal.returns
returns c =
    let c7 = (goal.at.returns c).After-reopen-answer in
    let a = c7.args in
    let r = c7.reopen-answer in
    let l = c7.lent_cells-n in
    all_told a.journal.now a.held a.cells.now a.out.now l.result (says_reopened r.result) r.new.cells c.put_answer.new.out c.put_answer.result
    c7.if-cells-lt-CELLS.false c7.if-out-lt-TEXT_BYTES.false l.ensures.0 r.ensures
    (as_text (ap (answer_text (says_reopened r.result)) (back (c7))) c.put_answer.ensures)
