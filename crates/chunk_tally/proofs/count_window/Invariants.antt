-- `chunk_tally::count_window` meets its contract. The loop's invariant: the cells so far are counted. Assumes nothing.
use Rattle.std.proofs.Common.{◌≡◌, take}
use Rattle.chunk_tally.specs.Ids.{id_table}
use Rattle.chunk_tally.proofs.count_window.Given as goal

abbrev pub invariant-loop-id : goal.invariant-loop-id
invariant-loop-id l = l.table ≡ id_table l.base (take l.id-index l.cells)
