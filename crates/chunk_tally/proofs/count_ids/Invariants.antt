-- `chunk_tally::count_ids` meets its contract. The loop's invariant: n ids of the first w windows are listed. Assumes nothing.
use Rattle.std.proofs.Common.{◌≡◌, ◌*◌, length}
use Rattle.chunk_tally.specs.Ids.{id_count}
use Rattle.chunk_tally.specs.Spans.{ids_to}
use Rattle.chunk_tally.proofs.count_ids.Given as goal

abbrev pub invariant-loop-w : goal.invariant-loop-w
invariant-loop-w l = l.n ≡ length (ids_to (l.w * 8192) (id_count l.cells))
