-- What an edit of bare cells does (SCOPE 5.10): its answer and the cells. Assumes nothing.
use Rattle.std.specs.Prelude.{ℕ, ◌+◌, ◌-◌, List, [], ◌∷◌, ◌++◌}
use Rattle.grid.specs.Count.{non_air_count}
use Rattle.config.specs.Refusals.{passed, refusal}
use Rattle.config.specs.Answers.{CellsOutcome, done}
use Rattle.chunk.specs.Tests.{count_refusal}

-- `input` is what the tests before the count answer, `c` the cells before the edit and `d` after it;
-- the count moves by as much as the number of nonzero cells does.
unfoldable pub edited : ℕ → ℕ → ℕ → List ℕ → List ℕ → List ℕ → CellsOutcome
edited input size count values c d =
    done
    (refusal (passed input ∷ passed (count_refusal size count (non_air_count c) (non_air_count d)) ∷ []))
    (values ++ ((count + non_air_count d - non_air_count c) ∷ []))
    c
    d
