-- The ground of a chunk (SCOPE 4.7 to 4.14), by world and frame. Assumes nothing.
use Rattle.std.specs.Prelude.{◌≡◌, ℕ, ◌*◌, ◌/◌, ◌%◌, ◌≤◌, List, ◌++◌, ℤ, length, get_or, drop}
use Rattle.std.proofs.Common.{ap, ◌∙◌}
use Rattle.grid.specs.Cube.{tab}
use Rattle.grid.specs.Grid.{fill_at}
use Rattle.ground_cell.specs.Base.{column_height, column_biome, TopsNoted, base_cells}
use Rattle.ground_cell.proofs.Laws.{base_length}
use Rattle.ground_cell.specs.declared.world.World.{World}
use Rattle.ground_cell.specs.declared.world.Frame.{Frame}
use Rattle.ground_cell.specs.declared.world.Top.{Top}
use Rattle.ground_trees.specs.Features.{boulder_column, boulder_step, boulders_of, trees_of, top_of}
use Rattle.ground_trees.specs.Kept.{grown_boulders, grown_trees}
use Rattle.ground_trees.specs.Slabs.{tree_column_in, tree_step_in}

-- the base, then boulders, then trees
unfoldable pub ground_in : World → Frame → List ℕ
ground_in w o = trees_of o w.sea_level (top_of w o) (boulders_of o (top_of w o) (base_cells w o))

-- size³ cells
pub ground_long : (w : World) (o : Frame) → length (ground_in w o) ≡ o.size * o.size * o.size
unfolding ground_in
ground_long w o =
    (grown_trees o w.sea_level (top_of w o) (boulders_of o (top_of w o) (base_cells w o))).long
    ∙ (grown_boulders o (top_of w o) (base_cells w o)).long
    ∙ base_length w o

-- ---- the tops

-- caches whose front is filled hold the tops
pub tops_noted : (w : World) (o : Frame) (hs bs hs₀ bs₀ : List ℕ) → o.size * o.size ≤ length hs → o.size * o.size ≤ length bs
    → hs ≡ tab (o.size * o.size) (column_height w o) ++ drop (o.size * o.size) hs₀
    → bs ≡ tab (o.size * o.size) (column_biome w o) ++ drop (o.size * o.size) bs₀
    → TopsNoted w o hs bs
tops_noted w o hs bs hs₀ bs₀ long longer eh eb = record {
  heights = λ i h. ap (λ (d : List ℕ). get_or d i 0) eh ∙ fill_at hs₀ (o.size * o.size) i (column_height w o) h;
  biomes = λ i h. ap (λ (d : List ℕ). get_or d i 0) eb ∙ fill_at bs₀ (o.size * o.size) i (column_biome w o) h;
  long = long;
  longer = longer;
}

-- columns of equal tops do the same
pub boulder_steps : (o : Frame) (t u : ℕ → Top) (k : ℕ) (d : List ℕ) → t k ≡ u k → boulder_step o t k d ≡ boulder_step o u k d
unfolding boulder_step
boulder_steps o t u k d e = ap (λ (v : Top). boulder_column o v (k % o.size) (k / o.size) d) e

pub tree_steps : (lo hi : ℕ) (o : Frame) (sea : ℤ) (t u : ℕ → Top) (k : ℕ) (d : List ℕ) → t k ≡ u k
    → tree_step_in lo hi o sea t k d ≡ tree_step_in lo hi o sea u k d
unfolding tree_step_in
tree_steps lo hi o sea t u k d e = ap (λ (v : Top). tree_column_in lo hi o sea v (k % o.size) (k / o.size) d) e
