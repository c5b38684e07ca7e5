-- What a batch on bare cells does (SCOPE 5.6, 5.10): its answer and the cells. The contract cites this definition. Assumes nothing.
use Rattle.std.specs.Prelude.{ℕ, List, [], ◌∷◌, length}
use Rattle.config.specs.Answers.{CellsOutcome}
use Rattle.chunk.specs.Tests.{chunk_refusal}
use Rattle.chunk.specs.Calls.{edited}
use Rattle.grid_edits.specs.Edits.{Group, batch_groups, inside_groups, batch_cells}

-- the values are the number written and the count after the edit; no 7, since no group lies outside
abbrev pub groups_do : ℕ → ℕ → List ℕ → List Group → CellsOutcome
groups_do size count c gs = edited (chunk_refusal size (length c)) size count (length gs ∷ []) c (batch_cells size gs c)

-- of all groups, those in the chunk
unfoldable pub chunk_batch_does : ℕ → ℕ → List ℕ → List ℕ → CellsOutcome
chunk_batch_does size count c ns = groups_do size count c (inside_groups size (batch_groups ns))
