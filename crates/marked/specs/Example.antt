-- What an example of SCOPE 12 is: what a definition gives at some arguments, and the value that is expected. Assumes nothing.
use Rattle.std.specs.Prelude.{◌≡◌, List, [], ◌∷◌, ◌++◌, ℕ, ◌≤◌, length, ℤ, Float}
use Rattle.config.specs.declared.TerrainConfig.{TerrainConfig}

-- a case for each kind of value: an f32, an integer, a number (an id, a count, a refusal), numbers in a row (radii), a number
-- that is the same for all settings with this world height and for every column, and a text that is the same for all cells
-- and buffers that the program may lend
pub data Example : Type 0 where
  float : Float → Float → Example
  integer : ℤ → ℤ → Example
  number : ℕ → ℕ → Example
  numbers : List ℕ → List ℕ → Example
  everywhere : ℤ → (TerrainConfig → ℤ → ℤ → ℕ) → ℕ → Example
  printed : (List ℕ → List ℕ → List ℕ) → List ℕ → Example

-- an example holds where the definition gives the value
abbrev pub Holds : Example → Type 0
Holds (float a b) = a ≡ b
Holds (integer a b) = a ≡ b
Holds (number a b) = a ≡ b
Holds (numbers a b) = a ≡ b
Holds (everywhere height f b) = (s : TerrainConfig) → s.world_height_blocks ≡ height → (wx wz : ℤ) → f s wx wz ≡ b
Holds (printed f b) = (cells out : List ℕ) → 4096 ≤ length cells → 25000 ≤ length out → f cells out ≡ b

-- every entry of a table holds
infixr 5 ◌and◌
pub data AllHold : List Example → Type 0 where
  end : AllHold []
  ◌and◌ : {e : Example} {es : List Example} → Holds e → AllHold es → AllHold (e ∷ es)

-- a table may be proved in parts
pub both : {xs ys : List Example} → AllHold xs → AllHold ys → AllHold (xs ++ ys)
both end k = k
both (h and hs) k = h and both hs k
