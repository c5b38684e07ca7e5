-- `openmap_main::print_map` is safe and ends. The text lies within its buffer.
use Rattle.std.proofs.Common.{sym, length}
use lib.Seq.{length-take-le}
use Rattle.openmap_report.proofs.Laws.{text_within}
use Rattle.openmap_main.proofs.print_map.Goals as goal

pub slice_bounds-text-end : goal.slice_bounds-text-end
slice_bounds-text-end g c =
    text_within c.args.journal.now (length c.args.journal.now) _ _ _ _ _ c.report-n.ensures c.report-n.auto.out

pub slice_bounds-write_text-end : goal.slice_bounds-write_text-end
slice_bounds-write_text-end g c =
    sym
    (length-take-le c.report-n.result c.report-n.new.out
    (text_within c.args.journal.now (length c.args.journal.now) _ _ _ _ _ c.report-n.ensures c.report-n.auto.out))
