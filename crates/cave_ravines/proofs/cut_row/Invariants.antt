-- `cave_ravines::cut_row` meets its contract. Assumes nothing.
use Rattle.std.proofs.Common.{◌≡◌, ℕ, ◌<◌, false, get_or}
use Rattle.cave_ravines.specs.Cuts.{cut_at}
use Rattle.cave_ravines.proofs.cut_row.Given as goal

abbrev pub invariant-loop-i : goal.invariant-loop-i
invariant-loop-i l = (k : ℕ) → k < l.i → get_or l.cut-items k false ≡ cut_at l.f l.z l.vals k
