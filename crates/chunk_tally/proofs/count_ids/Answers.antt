use Rattle.std.proofs.Common.{◌≡◌, ◌*◌, sym, ap, ◌∙◌, arith, length}
use Rattle.chunk_tally.specs.Ids.{id_count}
use Rattle.chunk_tally.specs.Spans.{span_none, span_most, window_length, window_most, ids_all}
use Rattle.chunk_tally.proofs.count_ids.Goals as goal

pub loop-w-init : goal.loop-w-init
loop-w-init c = ap length (sym (span_none _ _))

pub overflow_add-n : goal.overflow_add-n
overflow_add-n c =
    let w = c.loop-w.w * 8192 in
    omega (arith, window_most w c.count_window.new.table, span_most 0 w (id_count c.args.cells.now))

pub loop-w-preserved : goal.loop-w-preserved
loop-w-preserved c = omega (arith, window_length c.loop-w.w c.args.cells.now _ c.count_window.ensures)

pub returns : goal.returns
returns c =
    let l = c.loop-w in
    let q : l.w * 8192 ≡ 65536 = omega arith in
    (l.invariant ∙ ap length (ids_all l.w c.args.cells.now q), omega arith)
