-- What boulders and trees lay over a cell (SCOPE 4.14): where the base has neither air nor water, the ground has what the base has. Assumes nothing.
use Rattle.std.specs.Prelude.{◌≡◌, ℕ, ◌⊎◌}
use Rattle.ground_cell.specs.Blocks.{AIR, STONE, WATER, LOG, LEAVES}

-- air or water
abbrev pub Open : ℕ → Type 0
Open v = (v ≡ AIR) ⊎ (v ≡ WATER)

-- a block of a boulder or a tree, where the base has v; a tree stands 3 or more above the sea, so that nothing of it is in water
pub data Feature (v id : ℕ) : Type 0 where
  boulder : id ≡ STONE → Open v → Feature v id
  trunk : id ≡ LOG → v ≡ AIR → Feature v id
  leaf : id ≡ LEAVES → v ≡ AIR → Feature v id

-- what a cell of the ground may hold there
abbrev pub Over : ℕ → ℕ → Type 0
Over v id = (id ≡ v) ⊎ Feature v id
