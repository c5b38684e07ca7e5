-- `chunk_tally::write_window` meets its contract. The loop's invariant: the first k ids of the window are written. Assumes nothing.
use Rattle.chunk_tally.specs.Ids.{seen_ids, seen_counts}
use Rattle.chunk_tally.specs.Spans.{Wrote}
use Rattle.chunk_tally.proofs.write_window.Given as goal

abbrev pub invariant-loop-k : goal.invariant-loop-k
invariant-loop-k l =
    Wrote l.start l.initial.ids l.initial.counts (seen_ids l.base l.k l.table) (seen_counts l.base l.k l.table) l.ids l.counts l.at
