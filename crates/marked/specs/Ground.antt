-- SCOPE 12 d to j: what the ground's definitions give at the marked arguments. Assumes nothing.
use Rattle.std.specs.Prelude.{true, false, List, [], ◌∷◌, ℕ, ℤ, pos, negsuc}
use Rattle.num_core.specs.Num.{nearest}
use Rattle.column.specs.Floats.{nat}
use Rattle.column.specs.declared.Biome.{Biome}
use Rattle.column.specs.declared.Biome.TheVariants.{Desert, Mountain, Plains}
use Rattle.config.specs.Limits.{header, limit_refusal}
use Rattle.ground_cell.specs.Blocks.{STONE, GRASS, SAND, SNOW, GRAVEL, select_block}
use Rattle.ground_cell.specs.World.{height_at}
use Rattle.ground_trees.specs.Features.{radii, crown_of, boulder_blocks}
use Rattle.ground.specs.Ground.{world_of}
use Rattle.marked.specs.Example.{Example, number, numbers, everywhere}

-- a desert's block at a depth; the topmost block of a column of a height, with the sea at 24
abbrev desert_at : ℕ → ℕ
desert_at depth = select_block Desert (pos 0) (pos depth) (pos 24)

abbrev top_block : Biome → ℕ → ℕ → ℕ
top_block b wy height = select_block b (pos wy) (pos height) (pos 24)

-- the refusal of a place at size 64 in a world of a height
abbrev limits_at : ℤ → ℕ → ℕ
limits_at c height = limit_refusal (header (pos 0) (pos 24) (pos height) (pos 64) c (pos 0) (pos 0))

-- d: the last of the sand, the first and the last of the gravel, the first of the stone
abbrev pub rows_d : List Example
rows_d = number (desert_at 4) SAND ∷ number (desert_at 5) GRAVEL ∷ number (desert_at 8) GRAVEL ∷ number (desert_at 9) STONE ∷ []

-- e: the last of the stone, the first and the last of the gravel, the first that is always snow
abbrev pub rows_e : List Example
rows_e =
    number (top_block Mountain 39 40) STONE
    ∷ number (top_block Mountain 40 41) GRAVEL
    ∷ number (top_block Mountain 54 55) GRAVEL
    ∷ number (top_block Mountain 70 71) SNOW
    ∷ []

-- f: the last of the sand, the first of the grass
abbrev pub rows_f : List Example
rows_f = number (top_block Plains 25 26) SAND ∷ number (top_block Plains 26 27) GRASS ∷ []

-- g: both crowns
abbrev pub rows_g : List Example
rows_g =
    numbers (radii (crown_of false)) (1 ∷ 1 ∷ 2 ∷ 2 ∷ [])
    ∷ numbers (radii (crown_of true)) (3 ∷ 3 ∷ 4 ∷ 4 ∷ 4 ∷ [])
    ∷ []

-- h: as many blocks as are laid, at the least hash and at the limit
abbrev pub rows_h : List Example
rows_h = number (boulder_blocks (nat 0)) 2 ∷ number (boulder_blocks (nearest 6 1000)) 5 ∷ []

-- i: every column of the world that settings with this world height give
abbrev pub low_world : Example
low_world = everywhere (pos 2) (λ s wx wz. height_at (world_of s) wx wz) 1

abbrev pub rows_i : List Example
rows_i = low_world ∷ number (limits_at (pos 0) 2) 0 ∷ number (limits_at (pos 0) 1) 4 ∷ []

-- j: the last place and one more, either way
abbrev pub rows_j : List Example
rows_j =
    number (limits_at (pos 15624) 256) 0
    ∷ number (limits_at (negsuc 15624) 256) 0
    ∷ number (limits_at (pos 15625) 256) 5
    ∷ number (limits_at (negsuc 15625) 256) 5
    ∷ []
