-- `noise_fill::fill_row` meets its contract: each item so far is of a call for its place. Assumes nothing.
use Rattle.std.proofs.Common.{ℕ, ◌<◌}
use Rattle.noise_tables.specs.Row.{at}
use Rattle.noise_fill.proofs.fill_row.Given as goal

abbrev pub invariant-loop-i : goal.invariant-loop-i
invariant-loop-i g l = (k : ℕ) → k < l.i → goal.V-post g l.value k (at l.v-items k)
