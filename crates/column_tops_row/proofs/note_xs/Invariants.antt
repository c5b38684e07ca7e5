-- `column_tops_row::note_xs` meets its contract. Assumes nothing.
use Rattle.std.proofs.Common.{◌≡◌, ℕ, ◌<◌}
use Rattle.noise_tables.specs.Row.{at}
use Rattle.column_tops_row.specs.Tops.{x_at}
use Rattle.column_tops_row.proofs.note_xs.Given as goal

abbrev pub invariant-loop-i : goal.invariant-loop-i
invariant-loop-i l = (k : ℕ) → k < l.i → at l.x-items k ≡ x_at l.w l.o k
