-- `openmap_report::lent_cells` meets its contract. By the journal's opening. Assumes nothing.
use Rattle.openmap_report.proofs.Told.{lent_most}
use Rattle.openmap_report.specs.Report.{lent_by, lent_cells}
use Rattle.journal_open.proofs.Accepts.{opening_facts}
use mathlib.Core.Path.{sym, ◌∙◌, ap}
use native.Mathlib.Omega.{arith}
use Rattle.openmap_report.proofs.lent_cells.Goals as goal

pub lent_for-requires : goal.lent_for-requires
lent_for-requires c = (opening_facts c.args.journal.now c.args.held _ _ _ (sym c.in-Ok.ensures)).limits

pub returns-in-Err : goal.returns-in-Err
unfolding lent_cells
returns-in-Err c = (ap lent_by c.in-Err.ensures, omega arith)

pub returns-in-Ok : goal.returns-in-Ok
unfolding lent_cells
returns-in-Ok c = (
  c.lent_for.ensures ∙ ap lent_by c.in-Ok.ensures,
  lent_most c.in-Ok.opening.header c.lent_for.result c.lent_for.ensures,
)
