-- What a row of columns is laid with (SCOPE 4.7 to 4.10). Assumes nothing.
use Rattle.std.specs.Prelude.{◌≡◌, List, Bool, ℕ, ◌+◌, ◌-◌, ◌*◌, ◌≤◌, ◌<◌, Float, length, get_or}
use Rattle.noise_tables.specs.Places.{Noted}
use Rattle.cave_tables.specs.Coords.{cave_coord}
use Rattle.cave_ravines.specs.Cuts.{Cuts}
use Rattle.cave_rows.specs.Layers.{AllLayers}
use Rattle.ground_lines.specs.Lines.{below_level, Highest}
use Rattle.ground_cell.specs.declared.world.Frame.{Frame}

-- the lengths of what a row is worked out in
pub record RowLent (o : Frame) (floors : List ℕ) (eases edges : List Float) (flags : List Bool) : Type 0 where
  pub wholes : length floors ≡ 1728
  pub parts : length eases ≡ 1728
  pub rows : length edges ≡ 2048
  pub marks : o.size ≤ length flags

-- the row at z is ready to be laid: caves lie from lo on below hi, and for these the ravines and the layers of a level are there
pub record Ready (o : Frame) (z lo hi from : ℕ) (heights : List ℕ) (cuts : List Bool) (floors : List ℕ) (eases edges : List Float) : Type 0 where
  pub low : lo ≡ below_level o.size o.oy 1
  pub top : ℕ
  pub high : hi ≡ below_level o.size o.oy (top - 1)
  pub highest : Highest z o.size top heights
  pub least : (x : ℕ) → x < o.size → 1 ≤ get_or heights (z * o.size + x) 0
  pub columns : o.size * o.size ≤ length heights
  pub noted : Noted o.size 27 (cave_coord o) floors eases
  pub cut : lo < hi → Cuts o z cuts
  pub layers : lo < hi → (from < o.size) × AllLayers from z o.size floors eases edges

-- where the row at z can have caves, its ravines and the layers of lo are there
pub record RowBegun (o : Frame) (z lo hi : ℕ) (cuts : List Bool) (floors : List ℕ) (eases edges : List Float) : Type 0 where
  pub cut : lo < hi → Cuts o z cuts
  pub layers : lo < hi → AllLayers lo z o.size floors eases edges
