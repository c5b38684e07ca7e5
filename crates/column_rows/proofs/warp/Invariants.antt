-- `column_rows::warp` meets its contract. Assumes nothing.
use Rattle.std.proofs.Common.{◌≡◌, ℕ, ◌≤◌, ◌<◌}
use Rattle.noise_tables.specs.Row.{at}
use Rattle.column_rows.specs.Rows.{warped}
use Rattle.column_rows.proofs.warp.Given as goal

abbrev pub invariant-loop-i : goal.invariant-loop-i
invariant-loop-i l = record {
  done : (k : ℕ) → k < l.i → at l.v-items k ≡ warped l.at l.fn.vals k;
  rest : (k : ℕ) → l.i ≤ k → k < l.n → at l.v-items k ≡ at l.fn.vals k;
}
