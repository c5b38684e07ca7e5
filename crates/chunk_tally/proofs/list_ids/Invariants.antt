-- `chunk_tally::list_ids` meets its contract. The loop's invariant: the ids of the first w windows are written. Assumes nothing.
use Rattle.std.proofs.Common.{◌*◌}
use Rattle.chunk_tally.specs.Ids.{id_count}
use Rattle.chunk_tally.specs.Spans.{Wrote, ids_to, counts_to}
use Rattle.chunk_tally.proofs.list_ids.Given as goal

abbrev pub invariant-loop-w : goal.invariant-loop-w
invariant-loop-w l =
    Wrote 0 l.initial.ids l.initial.counts (ids_to (l.w * 8192) (id_count l.cells)) (counts_to (l.w * 8192) (id_count l.cells)) l.ids l.counts l.at
