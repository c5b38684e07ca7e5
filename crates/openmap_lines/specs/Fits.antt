-- What the writers of the text ask for (SCOPE 11.2): space in the buffer. Assumes nothing.
use Rattle.std.specs.Prelude.{List, ℕ, ◌+◌, ◌≤◌, length}

-- a text at a place
abbrev pub Fits : List ℕ → ℕ → List ℕ → Type 0
Fits o p t = p + length t ≤ length o
