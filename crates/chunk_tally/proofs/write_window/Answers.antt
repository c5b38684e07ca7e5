use Rattle.std.proofs.Common.{◌≡◌, ℕ, ◌-◌, ◌<◌, sym, ap, arith, get_or, map}
use Rattle.chunk_tally.specs.Ids.{seen_ids, seen_counts, window_ids, window_counts}
use Rattle.chunk_tally.specs.Spans.{wrote_none, wrote_more, wrote_as, ids_long, counts_long, span_none, ids_step, counts_step, seen_length, seen_room}
use Rattle.chunk_tally.proofs.write_window.Goals as goal

pub loop-k-init : goal.loop-k-init
loop-k-init c =
    let a = c.args in
    let f : ℕ → ℕ = λ (v : ℕ). get_or a.table.now (v - a.base) 0 in
    wrote_as (sym (span_none a.base f)) (ap (map f) (sym (span_none a.base f))) wrote_none

pub note-at-requires : goal.note-at-requires
note-at-requires c =
    let a = c.args in
    let l = c.loop-k in
    let j : l.k < 8192 = omega arith in
    let q = seen_length a.base l.k a.table.now in
    let r = seen_room a.base l.k a.table.now j in
    let li = ids_long l.invariant in
    let lc = counts_long l.invariant in
    (omega arith, omega arith, omega arith)

pub loop-k-preserved : goal.loop-k-preserved
loop-k-preserved c =
    let a = c.args in
    let l = c.loop-k in
    wrote_as (ids_step a.base l.k a.table.now) (counts_step a.base l.k a.table.now) (wrote_more l.invariant c.note-at.ensures)

pub returns : goal.returns
unfolding window_ids window_counts
returns c =
    let a = c.args in
    let l = c.loop-k in
    let q : l.k ≡ 8192 = omega arith in
    wrote_as (ap (λ (j : ℕ). seen_ids a.base j a.table.now) q) (ap (λ (j : ℕ). seen_counts a.base j a.table.now) q) l.invariant
