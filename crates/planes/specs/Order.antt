-- The Morton order of a chunk's cells (SCOPE 5.12), for coordinates of k bits. Assumes nothing.
use Rattle.std.specs.Prelude.{ℕ, zero, suc, ◌+◌, ◌*◌, ◌/◌, ◌%◌, ◌^◌}
use Rattle.grid.specs.Cube.{cell_index}

-- the k lowest bits of v, with room for two others behind each
unfoldable pub spread : ℕ → ℕ → ℕ
spread zero v = 0
spread (suc k) v = v % 2 + 8 * spread k (v / 2)

-- the position of the cell (x, y, z): bit 0 of x, of y and of z, then bit 1 of each, and so on
unfoldable pub morton_of : ℕ → ℕ → ℕ → ℕ → ℕ
morton_of k x y z = spread k x + 2 * spread k y + 4 * spread k z

-- every third bit of m, k of them, beginning with the one worth d
unfoldable pub third : ℕ → ℕ → ℕ → ℕ
third d zero m = 0
third d (suc k) m = m / d % 2 + 2 * third d k (m / 8)

-- the cell at position m, by its index
unfoldable pub cell_at : ℕ → ℕ → ℕ
cell_at k m = cell_index (2 ^ k) (third 1 k m) (third 2 k m) (third 4 k m)

-- the position of the cell with index i
unfoldable pub position_of : ℕ → ℕ → ℕ
position_of k i = morton_of k (i % 2 ^ k) (i / 2 ^ k % 2 ^ k) (i / 2 ^ k / 2 ^ k)

-- how many cells there are
abbrev pub volume : ℕ → ℕ
volume k = 2 ^ k * 2 ^ k * 2 ^ k
