-- What the writers of rows ask for (SCOPE 11.2): cells of their size, and space in the buffer. Assumes nothing.
use Rattle.std.specs.Prelude.{List, ℕ, ◌+◌, ◌≤◌, length}
use Rattle.grid.specs.Cube.{Cube}

-- the text of cells of a size
pub record Lays (size : ℕ) (c : List ℕ) (o : List ℕ) (p : ℕ) (t : List ℕ) : Type 0 where
  pub cube : Cube size c
  pub space : p + length t ≤ length o
