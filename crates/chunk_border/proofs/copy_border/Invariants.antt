-- `chunk_border::copy_border` meets its contract. The loop's invariant: the first k places are filled. Assumes nothing.
use Rattle.std.proofs.Common.{◌≡◌, ℕ, ◌++◌, get_or, drop}
use Rattle.grid.specs.Cube.{tab}
use Rattle.chunk_border.specs.Border.{border_source}
use Rattle.chunk_border.proofs.copy_border.Given as goal

abbrev pub invariant-loop-k : goal.invariant-loop-k
invariant-loop-k l = l.border ≡ tab l.k (λ (j : ℕ). get_or l.cells (border_source l.face l.size j) 0) ++ drop l.k l.initial.border
