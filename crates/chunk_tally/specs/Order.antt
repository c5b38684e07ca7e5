-- The order of a tally (SCOPE 5.9): its ids come upward. Assumes nothing.
use Rattle.std.specs.Prelude.{ℕ, ◌<◌, List, get_or}

-- the first n places of a list go upward
abbrev pub Upward : List ℕ → ℕ → Type 0
Upward l n = (i j : ℕ) → i < j → j < n → get_or l i 0 < get_or l j 0
