-- What the caves of a chunk share, noted in lent tables. Assumes nothing.
use Rattle.std.specs.Prelude.{◌≡◌, ℕ, List, Float, length}
use Rattle.noise_tables.specs.Places as places
use Rattle.cave_tables.specs.Coords.{cave_coord}
use Rattle.ground_cell.specs.declared.world.Frame.{Frame}

-- the places of the chunk's coordinates in the caves' 27 octaves
pub record CavesNoted (o : Frame) (floors : List ℕ) (eases : List Float) : Type 0 where
  pub noted : places.Noted o.size 27 (cave_coord o) floors eases
  pub wholes : length floors ≡ 1728
  pub parts : length eases ≡ 1728
