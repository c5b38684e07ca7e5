-- The chunk line by line: line z * size + y has the cells at y and z (SCOPE 5.1). Assumes nothing.
use Rattle.std.specs.Prelude.{◌≡◌, List, Bool, true, false, ◌&&◌, cond, ℕ, ◌+◌, ◌*◌, ◌≤◌, ◌<◌, ltb, ℤ, pos, ◌+ℤ◌, ◌-ℤ◌, length, get_or}
use Rattle.std.specs.Int.Signed.{lt_z}
use Rattle.grid_slabs.specs.Filled.{Filled}
use Rattle.ground_cell.specs.Caves.{carved}
use Rattle.ground_cell.specs.World.{local_y}
use Rattle.ground_cell.specs.Base.{base_numbered}
use Rattle.ground_cell.specs.declared.world.World.{World}
use Rattle.ground_cell.specs.declared.world.Frame.{Frame}

-- how many of size cells from o on lie below a level
unfoldable pub below_level : ℕ → ℤ → ℕ → ℕ
below_level size o level = cond (ltb (local_y 0 o (pos level)) size) (local_y 0 o (pos level)) size

-- no height of the row at z is above r
pub record Highest (z size r : ℕ) (heights : List ℕ) : Type 0 where
  pub least : 1 ≤ r
  pub most : r < 65536
  pub each : (x : ℕ) → x < size → get_or heights (z * size + x) 0 ≤ r

-- where a level admits caves, the flags say which cells at y and z are hollow
pub record Flagged (o : Frame) (y z : ℕ) (heights : List ℕ) (flags : List Bool) : Type 0 where
  pub long : o.size ≤ length flags
  pub each : (x : ℕ) → x < o.size
      → (lt_z (pos 0) (o.oy +ℤ pos y) && lt_z (o.oy +ℤ pos y) (pos (get_or heights (z * o.size + x) 0) -ℤ pos 1)) ≡ true
      → get_or flags x false ≡ carved (o.ox +ℤ pos x) (o.oy +ℤ pos y) (o.oz +ℤ pos z) (pos (get_or heights (z * o.size + x) 0))

-- the lines from a on below r are laid, and all else is as in q
abbrev pub LaidLines : World → Frame → ℕ → ℕ → List ℕ → List ℕ → Type 0
LaidLines w o a r q c = Filled (base_numbered w o) (o.size * o.size * o.size) (a * o.size) (r * o.size) q c
