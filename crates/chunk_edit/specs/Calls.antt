-- What each call that edits bare cells does (SCOPE 5.4, 5.5, 5.7): its answer and the cells. The contracts cite these definitions. Assumes nothing.
use Rattle.std.specs.Prelude.{◌≡◌, ℕ, ◌*◌, List, [], ◌∷◌, eqb, length}
use Rattle.std.proofs.Common.{eqb-true}
use Rattle.grid.specs.Count.{non_air_count}
use Rattle.config.specs.Refusals.{must, passed, refusal, refusal_zero, passed_zero}
use Rattle.config.specs.Answers.{CellsOutcome, done}
use Rattle.grid_edits.specs.Edits.{set_cells, fill_cells}
use Rattle.chunk.specs.Tests.{Chunk, chunk_refusal, cell_refusal, chunk_passed}
use Rattle.chunk.specs.Calls.{edited}

-- 6 for the slice that replaces the cells too
unfoldable pub replace_refusal : ℕ → ℕ → ℕ → ℕ
replace_refusal size n m = refusal (passed (chunk_refusal size n) ∷ must (eqb m (size * size * size)) 6 ∷ [])

-- `replace_blocks`: the cells are the given ones, and counted
unfoldable pub chunk_replace_does : ℕ → List ℕ → List ℕ → CellsOutcome
chunk_replace_does size c new = done (replace_refusal size (length c) (length new)) (non_air_count new ∷ []) c new

-- SCOPE 5.4 and 5.5, with the count of 5.10
unfoldable pub chunk_set_does : ℕ → ℕ → List ℕ → ℕ → ℕ → ℕ → ℕ → CellsOutcome
chunk_set_does size count c x y z id = edited (cell_refusal size (length c) x y z) size count [] c (set_cells size x y z id c)

unfoldable pub chunk_fill_does : ℕ → ℕ → List ℕ → ℕ → ℕ → ℕ → ℕ → CellsOutcome
chunk_fill_does size count c x z height id = edited (chunk_refusal size (length c)) size count [] c (fill_cells size x z height id c)

-- what holds where `replace_blocks` does not refuse
pub record ReplaceOk (size n m : ℕ) : Type 0 where
  pub chunk : Chunk size n
  pub new : m ≡ size * size * size

pub replace_passed : (size n m : ℕ) → replace_refusal size n m ≡ 0 → ReplaceOk size n m
unfolding replace_refusal
replace_passed size n m e =
    let p = passed_zero (chunk_refusal size n) (must (eqb m (size * size * size)) 6 ∷ []) e in
    let q = refusal_zero (eqb m (size * size * size)) 5 [] p.1 in
    record { chunk = chunk_passed size n p.0; new = eqb-true m (size * size * size) q.0 }
