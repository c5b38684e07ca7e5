-- What the writer of an answer asks for (SCOPE 11.2): an opened map's cells are of its size, and the buffer holds the longest text. Assumes nothing.
use Rattle.std.specs.Prelude.{List, ℕ, ◌≤◌, length}
use Rattle.grid.specs.Cube.{Cube}
use Rattle.session_calls.specs.Record.{size_of}
use Rattle.session_calls.specs.Reopened.{Reopened, Opened, Refused}

-- an opened map's cells are of its size
abbrev pub Sized : Reopened → List ℕ → Type 0
Sized (Opened s lines trailing) c = Cube (size_of s) c
Sized (Refused number line) c = Unit {0}

-- an answer with its cells, and a buffer that holds the longest text
pub record Printable (a : Reopened) (c o : List ℕ) : Type 0 where
  pub sized : Sized a c
  pub few : length c ≤ 4096
  pub space : 25000 ≤ length o
