-- The cells of a chunk as a list (SCOPE 5.1). Assumes nothing.
use Rattle.std.specs.Prelude.{◌≡◌, ℕ, zero, suc, ◌+◌, ◌*◌, ◌/◌, ◌%◌, ◌≤◌, Bool, false, cond, List, [], ◌∷◌, ◌++◌, length, set, get_or, ltb}

pub record Cube (size : ℕ) (c : List ℕ) : Type 0 where
  pub most : size ≤ 64
  pub all : length c ≡ size * size * size

abbrev pub cell_index : ℕ → ℕ → ℕ → ℕ → ℕ
cell_index size x y z = x + y * size + z * size * size

unfoldable pub inside : ℕ → ℕ → ℕ → ℕ → Bool
inside size x y z = cond (ltb x size) (cond (ltb y size) (ltb z size) false) false

-- v at a cell, and no change outside
unfoldable pub put_at : ℕ → ℕ → ℕ → ℕ → ℕ → List ℕ → List ℕ
put_at size x y z v c = cond (inside size x y z) (set c (cell_index size x y z) v) c

-- the cell, and 0 outside
unfoldable pub see_at : ℕ → ℕ → ℕ → ℕ → List ℕ → ℕ
see_at size x y z c = cond (inside size x y z) (get_or c (cell_index size x y z) 0) 0

-- f 0, f 1, ..
unfoldable pub tab : ℕ → (ℕ → ℕ) → List ℕ
tab zero f = []
tab (suc n) f = tab n f ++ (f n ∷ [])

-- n cells of one block
unfoldable pub all_of : ℕ → ℕ → List ℕ
all_of n id = tab n (λ (i : ℕ). id)

-- the first n of a list of steps, in order
unfoldable pub steps : ℕ → (ℕ → List ℕ → List ℕ) → List ℕ → List ℕ
steps zero f c = c
steps (suc n) f c = f n (steps n f c)

-- the column of a cell
abbrev pub col_of : ℕ → ℕ → ℕ
col_of s i = i / s / s * s + i % s
