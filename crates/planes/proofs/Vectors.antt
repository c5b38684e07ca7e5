-- Hand-written planes (SCOPE 5.12): of a chunk of size 2, whose order is that of the indices, and positions at size 4, where it is not.
-- Assumes nothing.
use Rattle.std.specs.Prelude.{◌≡◌, refl, ℕ, List, [], ◌∷◌}
use Rattle.grid.specs.Cube.{tab}
use Rattle.planes.specs.Order.{spread, morton_of, third, cell_at, position_of}
use Rattle.planes.specs.Planes.{low_plane, high_plane, planes_of, cells_of}

-- eight ids, with low bytes 1 to 8 and high bytes 9 to 16
abbrev eight : List ℕ
eight = 2305 ∷ 2562 ∷ 2819 ∷ 3076 ∷ 3333 ∷ 3590 ∷ 3847 ∷ 4104 ∷ []

abbrev eight_planes : List ℕ
eight_planes = 1 ∷ 2 ∷ 3 ∷ 4 ∷ 5 ∷ 6 ∷ 7 ∷ 8 ∷ 9 ∷ 10 ∷ 11 ∷ 12 ∷ 13 ∷ 14 ∷ 15 ∷ 16 ∷ []

pub eight_out : planes_of 1 eight ≡ eight_planes
unfolding planes_of low_plane high_plane cell_at third tab
eight_out = refl

pub eight_back : cells_of 1 eight_planes ≡ eight
unfolding cells_of position_of morton_of spread tab
eight_back = refl

-- one cell: its two bytes
pub one_out : planes_of 0 (515 ∷ []) ≡ 3 ∷ 2 ∷ []
unfolding planes_of low_plane high_plane cell_at third tab
one_out = refl

-- size 4: the positions of (1, 0, 0), (0, 1, 0), (0, 0, 1), (2, 0, 0), (0, 2, 0), (0, 0, 2), (1, 2, 3) and (3, 3, 3)
pub four_positions :
    morton_of 2 1 0 0 ∷ morton_of 2 0 1 0 ∷ morton_of 2 0 0 1 ∷ morton_of 2 2 0 0 ∷ morton_of 2 0 2 0
    ∷ morton_of 2 0 0 2 ∷ morton_of 2 1 2 3 ∷ morton_of 2 3 3 3 ∷ []
    ≡ 1 ∷ 2 ∷ 4 ∷ 8 ∷ 16 ∷ 32 ∷ 53 ∷ 63 ∷ []
unfolding morton_of spread
four_positions = refl

-- .. and the cells at the first nine positions
pub four_cells : tab 9 (cell_at 2) ≡ 0 ∷ 1 ∷ 4 ∷ 5 ∷ 16 ∷ 17 ∷ 20 ∷ 21 ∷ 2 ∷ []
unfolding tab cell_at third
four_cells = refl
