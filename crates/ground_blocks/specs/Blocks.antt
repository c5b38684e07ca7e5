-- Block ids, and which block a cell below the surface is (SCOPE 4.9). Assumes nothing.
use Rattle.std.specs.Prelude.{ℕ, Bool, cond, ℤ, pos, ◌-ℤ◌}
use Rattle.std.specs.Int.Signed.{lt_z}
use Rattle.std.specs.Float.Ieee.{lt}
use Rattle.num_core.specs.Wrap.{mul_w}
use Rattle.num_core.specs.Num.{nearest}
use Rattle.noise.specs.Hash.{hash2₃₂}
use Rattle.column.specs.declared.Biome.{Biome}
use Rattle.column.specs.declared.Biome.TheVariants.{Desert, Mountain, Forest, Plains}

abbrev pub AIR : ℕ
AIR = 0

abbrev pub STONE : ℕ
STONE = 1

abbrev pub DIRT : ℕ
DIRT = 2

abbrev pub GRASS : ℕ
GRASS = 3

abbrev pub SAND : ℕ
SAND = 4

abbrev pub WATER : ℕ
WATER = 5

abbrev pub SNOW : ℕ
SNOW = 6

abbrev pub GRAVEL : ℕ
GRAVEL = 7

abbrev pub LOG : ℕ
LOG = 8

abbrev pub LEAVES : ℕ
LEAVES = 9

-- sand up to a depth of 4, gravel up to 8
unfoldable pub desert_block : ℤ → ℕ
desert_block depth = cond (lt_z depth (pos 5)) SAND (cond (lt_z depth (pos 9)) GRAVEL STONE)

-- whether snow lies on a high top: a hash of the level and the height
unfoldable pub snow_patch : ℤ → ℤ → Bool
snow_patch wy height = lt (nearest 1 2) (hash2₃₂ (mul_w wy (pos 3)) (mul_w height (pos 7)))

-- heights up to 40, 55, 70, and above
unfoldable pub mountain_top : ℤ → ℤ → ℕ
mountain_top wy height =
    cond (lt_z height (pos 41)) STONE (cond (lt_z height (pos 56)) GRAVEL (cond (lt_z height (pos 71)) (cond (snow_patch wy height) SNOW STONE) SNOW))

unfoldable pub mountain_block : ℤ → ℤ → ℤ → ℕ
mountain_block depth wy height = cond (lt_z depth (pos 3)) (mountain_top wy height) STONE

-- the top of forest and plains: sand up to 2 above the sea, else grass
unfoldable pub shore_block : ℤ → ℤ → ℕ
shore_block height sea = cond (lt_z (height -ℤ sea) (pos 3)) SAND GRASS

unfoldable pub forest_block : ℤ → ℤ → ℤ → ℕ
forest_block depth height sea = cond (lt_z depth (pos 2)) (shore_block height sea) (cond (lt_z depth (pos 6)) DIRT STONE)

unfoldable pub plains_block : ℤ → ℤ → ℤ → ℕ
plains_block depth height sea = cond (lt_z depth (pos 2)) (shore_block height sea) (cond (lt_z depth (pos 5)) DIRT STONE)

-- by biome; the depth is height − wy
unfoldable pub select_block : Biome → ℤ → ℤ → ℤ → ℕ
select_block Desert wy height sea = desert_block (height -ℤ wy)
select_block Mountain wy height sea = mountain_block (height -ℤ wy) wy height
select_block Forest wy height sea = forest_block (height -ℤ wy) height sea
select_block Plains wy height sea = plains_block (height -ℤ wy) height sea
