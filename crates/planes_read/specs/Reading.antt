-- What the functions that read planes do, position by position. Assumes nothing.
use Rattle.std.specs.Prelude.{ℕ, ◌+◌, ◌*◌, List, get_or, set}
use Rattle.planes_blocks.specs.Blocks.{cell_by}

-- the id whose low byte is at m, and whose high byte n further on
abbrev pub id_at : ℕ → List ℕ → ℕ → ℕ
id_at n b m = get_or b m 0 + 256 * get_or b (n + m) 0

-- the j-th id of a block, into its cell
unfoldable pub put_into : List ℕ → List ℕ → ℕ → ℕ → List ℕ → List ℕ
put_into block t first j c = set c (first + get_or t j 0) (get_or block j 0)

-- the id of position m, into its cell
unfoldable pub put_back : List ℕ → ℕ → List ℕ → ℕ → List ℕ → List ℕ
put_back t n b m c = set c (cell_by t m) (id_at n b m)
