-- `chunk_tally::window_len` meets its contract. The loop's invariant: len of the window's first k ids are listed. Assumes nothing.
use Rattle.std.proofs.Common.{◌≡◌, length}
use Rattle.chunk_tally.specs.Ids.{seen_ids}
use Rattle.chunk_tally.proofs.window_len.Given as goal

abbrev pub invariant-loop-k : goal.invariant-loop-k
invariant-loop-k l = l.len ≡ length (seen_ids l.base l.k l.table)
