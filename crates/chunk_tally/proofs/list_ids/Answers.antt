use Rattle.std.proofs.Common.{◌≡◌, ◌+◌, ◌*◌, sym, ap, arith, map}
use Rattle.chunk_tally.specs.Ids.{id_count}
use Rattle.chunk_tally.specs.Spans.{wrote_none, wrote_as, wrote_window, wrote_by_then, ids_long, counts_long, span_none, window_length, prefix_most, ids_all, counts_all}
use Rattle.chunk_tally.proofs.list_ids.Goals.{then-at-n, else-at-n}
use Rattle.chunk_tally.proofs.list_ids.Goals as goal

pub loop-w-init : goal.loop-w-init
loop-w-init c =
    let f = id_count c.args.cells.now in
    wrote_as (sym (span_none 0 f)) (ap (map f) (sym (span_none 0 f))) wrote_none

pub write_window-at-requires : goal.write_window-at-requires
write_window-at-requires c =
    let a = c.args in
    let l = c.loop-w in
    let e = window_length l.w a.cells.now _ c.count_window.ensures in
    let m = prefix_most (l.w + 1) a.cells.now (omega arith) in
    let li = ids_long l.invariant in
    let lc = counts_long l.invariant in
    (omega arith, omega arith, omega arith, omega arith)

pub loop-w-preserved : goal.loop-w-preserved
loop-w-preserved c =
    let cs = c.args.cells.now in
    let l = c.loop-w in
    elim c.if-at-n.branch [
      | then-at-n w ↦
          rw (w.ids-is, w.counts-is, w.at-is) (wrote_window l.w cs _ w.count_window.ensures l.invariant w.write_window-at.ensures)
      | else-at-n w ↦
          rw (w.ids-is, w.counts-is, w.at-is) (wrote_by_then l.w cs (omega arith) (omega arith) l.invariant)
    ]

pub returns : goal.returns
returns c =
    let a = c.args in
    let l = c.loop-w in
    let q : l.w * 8192 ≡ 65536 = omega arith in
    let all = wrote_as (ids_all l.w a.cells.now q) (counts_all l.w a.cells.now q) l.invariant in
    (all.ids_hold, all.counts_hold)
