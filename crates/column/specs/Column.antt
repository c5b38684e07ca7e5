-- The height and the biome of a column (SCOPE 4.1 to 4.6), every f32 operation rounded once, in the order of `terrain.rs`. Assumes nothing.
use Rattle.std.specs.Prelude.{Bool, ◌&&◌, cond, ℤ, pos, Float}
use Rattle.std.specs.Float.Ieee.{neg, le}
use Rattle.num_core.specs.Num.{nearest, max₃₂, to_i32}
unfoldable pub use Rattle.column_shapes.specs.Shapes.{offset_fbm₃₂, scaled_fbm₃₂, smooth_ramp₃₂, ridge₃₂, ridges_of, ridges₃₂, plateau₃₂, continent₃₂}
unfoldable pub use Rattle.column_shapes.specs.Shapes.{hill_boost₃₂, cold_boost₃₂, clamp_of}
use Rattle.column.specs.Floats.{◌+f◌, ◌-f◌, ◌*f◌, ◌/f◌, nat, real}
use Rattle.column.specs.declared.Column.{Column}
use Rattle.column.specs.declared.Relief.{Relief}
use Rattle.column.specs.declared.Surface.{Surface}
use Rattle.column.specs.declared.Biome.{Biome}
use Rattle.column.specs.declared.Biome.TheVariants.{Desert, Mountain, Forest, Plains}

-- SCOPE 4.4: the noise that shapes the heights
unfoldable pub relief_of : Float → Float → Relief
relief_of x z = record {
  continent = continent₃₂ x z;
  detail = scaled_fbm₃₂ x z (nearest 25 1000) 4;
  micro = scaled_fbm₃₂ x z (nearest 8 100) 2;
  ridges = ridges₃₂ x z;
  plateau = plateau₃₂ (offset_fbm₃₂ x z (nearest 6 1000) (neg (nat 400)) (nat 600) 3);
  dune = offset_fbm₃₂ x z (nearest 2 100) (nat 50) (nat 50) 3;
  hill_factor = offset_fbm₃₂ x z (nearest 1 100) (nat 150) (nat 250) 3;
}

-- SCOPE 4.6: all that is known of a column, two values of climate, four weights, four heights
abbrev pub column_with : Float → Float → Float → Float → Float → Float → Float → Float → Float → Float → Column
column_with temp moisture dw mw fw pw dh mh fh ph = record {
  temp = temp;
  moisture = moisture;
  dw = dw;
  mw = mw;
  fw = fw;
  pw = pw;
  desert_h = dh;
  mountain_h = mh;
  forest_h = fh;
  plains_h = ph;
}

-- no weights and heights yet
abbrev pub with_climate : Float → Float → Column
with_climate temp moisture = column_with temp moisture (nat 0) (nat 0) (nat 0) (nat 0) (nat 0) (nat 0) (nat 0) (nat 0)

-- SCOPE 4.2: the climate
unfoldable pub climate_of : Float → Float → Column
climate_of x z =
    with_climate (offset_fbm₃₂ x z (nearest 3 1000) (nat 100) (nat 100) 4) (offset_fbm₃₂ x z (nearest 4 1000) (neg (nat 200)) (nat 300) 4)

-- SCOPE 4.3: hot and dry; cold; wet, where the other two leave room; the rest, and at least 0.01
unfoldable pub desert_weight₃₂ : Column → Float
desert_weight₃₂ c = smooth_ramp₃₂ c.temp (nearest 6 10) (nearest 1 10) *f smooth_ramp₃₂ (neg c.moisture) (neg (nearest 35 100)) (nearest 1 10)

unfoldable pub mountain_weight₃₂ : Column → Float
mountain_weight₃₂ c = smooth_ramp₃₂ (neg c.temp) (neg (nearest 3 10)) (nearest 1 10)

unfoldable pub forest_weight₃₂ : Column → Float
forest_weight₃₂ c = smooth_ramp₃₂ c.moisture (nearest 55 100) (nearest 1 10) *f (nat 1 -f desert_weight₃₂ c) *f (nat 1 -f mountain_weight₃₂ c)

unfoldable pub plains_weight₃₂ : Column → Float
plains_weight₃₂ c = max₃₂ (nat 1 -f desert_weight₃₂ c -f mountain_weight₃₂ c -f forest_weight₃₂ c) (nearest 1 100)

-- the weights d, m, f, p as shares of their sum
abbrev pub with_shares : Column → Float → Float → Float → Float → Column
with_shares c d m f p =
    let total = d +f m +f f +f p in
    column_with c.temp c.moisture (d /f total) (m /f total) (f /f total) (p /f total) c.desert_h c.mountain_h c.forest_h c.plains_h

unfoldable pub weights_of : Column → Column
weights_of c = with_shares c (desert_weight₃₂ c) (mountain_weight₃₂ c) (forest_weight₃₂ c) (plains_weight₃₂ c)

-- SCOPE 4.5, with the sea level sl added
unfoldable pub heights_of : Column → Relief → Float → Column
heights_of c n sl =
    column_with c.temp c.moisture c.dw c.mw c.fw c.pw
    (sl +f nat 1 +f n.continent *f nat 6 +f n.dune *f nat 6 +f n.micro *f nat 2)
    (sl +f nat 6 +f (n.continent *f nat 20 +f n.ridges *f nat 55 +f n.detail *f nat 12 +f n.micro *f nat 3)
    *f (nat 1 +f cold_boost₃₂ c.temp *f nearest 1 2))
    (sl +f nat 3 +f n.continent *f nat 14 +f n.plateau *f nat 8 +f n.detail *f nat 10 +f n.micro *f nat 3)
    (sl +f nat 2 +f n.continent *f nat 10 +f n.detail *f nat 6 +f n.micro *f nat 2 +f hill_boost₃₂ n.hill_factor)

-- from the climate over the weights to the heights
unfoldable pub column_from : Float → Float → Float → Column
column_from x z sl = heights_of (weights_of (climate_of x z)) (relief_of x z) sl

-- SCOPE 4.6: the heights, blended by their weights
unfoldable pub blend₃₂ : Column → Float
blend₃₂ c = c.dw *f c.desert_h +f c.mw *f c.mountain_h +f c.fw *f c.forest_h +f c.pw *f c.plains_h

abbrev pub at_least : Float → Float → Bool
at_least a b = le b a

-- the greatest weight's biome; where weights are equal, the one that is asked for first
unfoldable pub dominant_of : Column → Biome
dominant_of c =
    cond (at_least c.dw c.mw && at_least c.dw c.fw && at_least c.dw c.pw) Desert
    (cond (at_least c.mw c.fw && at_least c.mw c.pw) Mountain (cond (at_least c.fw c.pw) Forest Plains))

unfoldable pub height_of : Column → ℤ → ℤ
height_of c max_height = clamp_of (to_i32 (blend₃₂ c)) (pos 1) max_height

-- SCOPE 4.1: the column at world coordinates; the seed only moves the coordinates
unfoldable pub column_at : ℤ → ℤ → ℤ → Float → Column
column_at wx wz sea seed_offset = column_from (real wx +f seed_offset) (real wz +f seed_offset) (real sea)

abbrev pub surface : Biome → ℤ → Surface
surface b h = record { biome = b; height = h }

-- the biome and the height that climate and relief give, through weights and heights
unfoldable pub surface_of : Column → Relief → Float → ℤ → Surface
surface_of c n sl max_height = surface (dominant_of (heights_of (weights_of c) n sl)) (height_of (heights_of (weights_of c) n sl) max_height)

-- `get_biome`
unfoldable pub biome_and_height : ℤ → ℤ → ℤ → ℤ → Float → Surface
biome_and_height wx wz sea max_height seed_offset =
    surface (dominant_of (column_at wx wz sea seed_offset)) (height_of (column_at wx wz sea seed_offset) max_height)
