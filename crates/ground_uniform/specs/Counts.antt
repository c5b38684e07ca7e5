-- How many cells of a chunk of one block are not air (SCOPE 5.2). Assumes nothing.
use Rattle.std.specs.Prelude.{◌≡◌, [], ◌∷◌, ℕ, zero, suc}
use Rattle.std.proofs.Common.{arith}
use Rattle.grid.specs.Cube.{tab}
use Rattle.grid.specs.Count.{non_air_count, count_append, count_none, count_one}
use Rattle.ground_uniform.specs.Place.{all_of}

-- all of them, where the block is stone
pub stone_count : (n : ℕ) → non_air_count (all_of n 1) ≡ n
unfolding all_of tab
stone_count zero = count_none
stone_count (suc n) =
    let a = count_append (tab n (λ (i : ℕ). 1)) (1 ∷ []) in
    let b = stone_count n in
    let c = count_one 1 in
    omega arith

-- none, where it is air
pub air_count : (n : ℕ) → non_air_count (all_of n 0) ≡ 0
unfolding all_of tab
air_count zero = count_none
air_count (suc n) =
    let a = count_append (tab n (λ (i : ℕ). 0)) (0 ∷ []) in
    let b = air_count n in
    let c = count_one 0 in
    omega arith
