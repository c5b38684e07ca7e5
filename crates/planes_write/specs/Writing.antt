-- What the functions that write planes do, position by position. Assumes nothing.
use Rattle.std.specs.Prelude.{ℕ, ◌+◌, ◌/◌, ◌%◌, List, length, get_or, set}
use Rattle.planes_blocks.specs.Blocks.{cell_by}

-- the id of the j-th cell of a block
abbrev pub taken_from : List ℕ → List ℕ → ℕ → ℕ → ℕ
taken_from c t first j = get_or c (first + get_or t j 0) 0

-- an id's low byte at m, and its high byte n further on
unfoldable pub put_id : ℕ → ℕ → ℕ → List ℕ → List ℕ
put_id n m id b = set (set b m (id % 256)) (n + m) (id / 256)

-- .. of the j-th id of a block that begins at m
abbrev pub put_bytes : List ℕ → ℕ → ℕ → ℕ → List ℕ → List ℕ
put_bytes block n m j = put_id n (m + j) (get_or block j 0)

-- .. of the cell at position m
abbrev pub put_cell : List ℕ → List ℕ → ℕ → List ℕ → List ℕ
put_cell t c m = put_id (length c) m (get_or c (cell_by t m) 0)
