-- A chunk's cells as two planes of bytes, and back (SCOPE 5.12). Assumes nothing.
use Rattle.std.specs.Prelude.{◌≡◌, refl, ℕ, zero, suc, ◌+◌, ◌*◌, ◌/◌, ◌%◌, ◌^◌, ◌<◌, Bool, ◌||◌, cond, List, [], ◌∷◌, ◌++◌, ltb, eqb, length, get_or, Result, ⊤}
use Rattle.grid.specs.Cube.{tab}
use Rattle.config.specs.Refusals.{must, refusal}
use Rattle.config.specs.Answers.{Answer, accepted, refused_with, says, says_same, unless_refused, CellsOutcome, done}
use Rattle.config.specs.declared.refusals.Refusal.{Refusal}
use Rattle.planes.specs.Order.{cell_at, position_of, volume}

-- what is copied lies in the lent slice: no values
abbrev pub says_copied : Result ⊤ Refusal → Answer
says_copied = says (λ (t : ⊤). [])

-- ---- what is copied

-- the low byte of each cell, in Morton order
unfoldable pub low_plane : ℕ → List ℕ → List ℕ
low_plane k c = tab (volume k) (λ (m : ℕ). get_or c (cell_at k m) 0 % 256)

-- .. and the high one
unfoldable pub high_plane : ℕ → List ℕ → List ℕ
high_plane k c = tab (volume k) (λ (m : ℕ). get_or c (cell_at k m) 0 / 256)

-- all low bytes, then all high bytes
unfoldable pub planes_of : ℕ → List ℕ → List ℕ
planes_of k c = low_plane k c ++ high_plane k c

-- each cell from its low and its high byte
unfoldable pub cells_of : ℕ → List ℕ → List ℕ
cells_of k b = tab (volume k) (λ (i : ℕ). get_or b (position_of k i) 0 + 256 * get_or b (volume k + position_of k i) 0)

-- ---- sizes and refusals

-- SCOPE 5.12: the sizes that have planes
unfoldable pub power_size : ℕ → Bool
power_size size = eqb size 1 || eqb size 2 || eqb size 4 || eqb size 8 || eqb size 16 || eqb size 32 || eqb size 64

-- how many of the n numbers 1, 2, 4, .. are below a size
unfoldable pub powers_below : ℕ → ℕ → ℕ
powers_below zero size = 0
powers_below (suc n) size = powers_below n size + cond (ltb (2 ^ n) size) 1 0

-- the bits of a coordinate, as many as there are of 1, 2, 4, 8, 16 and 32 below the size: none for size 1, six for size 64
unfoldable pub bits_of : ℕ → ℕ
bits_of size = powers_below 6 size

-- SCOPE 10.4: 28 for another size, then 6, then 29
unfoldable pub planes_refusal : ℕ → ℕ → ℕ → ℕ
planes_refusal size n m =
    refusal (must (power_size size) 28 ∷ must (eqb n (size * size * size)) 6 ∷ must (eqb m (2 * (size * size * size))) 29 ∷ [])

-- ---- the two calls

-- an answer, and the bytes after it
pub record PlanesOutcome : Type 0 where
  pub answer : Answer
  pub bytes : List ℕ

abbrev pub planes_outcome : Answer → List ℕ → PlanesOutcome
planes_outcome a b = record { answer = a; bytes = b }

-- the bytes become the cells' planes; a refusal leaves them as they were
unfoldable pub to_planes_does : ℕ → List ℕ → List ℕ → PlanesOutcome
to_planes_does size c b =
    unless_refused (planes_refusal size (length c) (length b))
    (planes_outcome (accepted []) (planes_of (bits_of size) c))
    (λ (n : ℕ). planes_outcome (refused_with n) b)

-- the cells become those whose planes the bytes are; a refusal leaves them as they were
unfoldable pub from_planes_does : ℕ → List ℕ → List ℕ → CellsOutcome
from_planes_does size b c = done (planes_refusal size (length c) (length b)) [] c (cells_of (bits_of size) b)

-- a lent byte is below 256
abbrev pub Bytes : List ℕ → Type 0
Bytes b = (i : ℕ) → get_or b i 0 < 256

-- ---- laws

-- SCOPE 1.4: answers that say the same are the same
pub same_copied : (a b : Result ⊤ Refusal) → says_copied a ≡ says_copied b → a ≡ b
same_copied = says_same (λ (t : ⊤). []) (λ a b e. refl)
