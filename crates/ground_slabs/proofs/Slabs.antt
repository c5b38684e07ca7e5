-- Some slabs of the ground, from what lies near them: their base, their own boulders, and the trees near them. Assumes nothing.
use Rattle.std.specs.Prelude.{◌≡◌, refl, ℕ, ◌+◌, ◌-◌, ◌*◌, ◌/◌, ◌≤◌, ◌<◌, ℤ, ltb}
use Rattle.std.proofs.Common.{sym, ◌∙◌, arith}
use Rattle.std.proofs.Math.Path.{subst}
use mathlib.Core.List.{List}
use borrow.Author.Tests.{ltb-true}
use Rattle.basics.specs.Bools.{by_bool}
use Rattle.grid.specs.Cube.{steps}
use Rattle.grid.specs.Grid.{below_2, steps_same}
use Rattle.ground_cell.specs.World.{Tall, Near}
use Rattle.ground_cell.specs.Base.{base_numbered, base_cells}
use Rattle.ground_lines.specs.Lines.{LaidLines}
use Rattle.ground_cell.specs.declared.world.World.{World}
use Rattle.ground_cell.specs.declared.world.Frame.{Frame}
use Rattle.ground_cell.specs.declared.world.Top.{Top}
use Rattle.ground_trees.specs.Features.{boulder_step, boulders_of, trees_of, top_of}
use Rattle.ground_slabs.specs.Grown.{boulder_step_in}
use Rattle.ground_slabs.proofs.Grown.{trees_clip, boulders_clip}
use Rattle.ground_slabs.proofs.Stands.{trees_stand}
use Rattle.ground_slabs.specs.Far.{reach, Away, before, behind}
use Rattle.ground_slabs.proofs.Far.{tree_far}
use Rattle.grid_slabs.specs.Filled.{filled_clip}
use Rattle.grid_slabs.specs.Clip.{Clip}
use Rattle.grid_slabs.specs.Rows.{over_rows, rows_only, row_in, rows_off}
use Rattle.ground_trees.specs.Slabs.{tree_step_in}
use Rattle.ground_slabs.specs.Slabs.{near_from, near_to, slab_laid}

-- ---- the base

-- rows of the base laid are slabs of the base
pub rows_clip : (w : World) (o : Frame) (lo hi : ℕ) (q p : List ℕ) → Near o → LaidLines w o (lo * o.size) (hi * o.size) q p
    → Clip o.size lo hi q p (base_cells w o)
unfolding base_cells
rows_clip w o lo hi q p near l = filled_clip (base_numbered w o) o.size lo hi q p near.some l

-- ---- the ground

module _ (lo hi : ℕ) (w : World) (o : Frame) (tall : Tall w) (near : Near o) (hlo : lo ≤ hi) (hhi : hi ≤ o.size) where
  boulders_rows : (t : ℕ → Top) (c : List ℕ) → steps (o.size * o.size) (boulder_step_in lo hi o t) c ≡ over_rows o.size lo hi (boulder_step o t) c
  unfolding boulder_step_in over_rows
  boulders_rows t c =
      rows_only o.size lo hi near.some hlo hhi (boulder_step_in lo hi o t) c
      (λ k d h. rw (rows_off lo hi (k / o.size) (λ a b. omega arith)))
      (λ k d h l. rw (rows_off lo hi (k / o.size) (λ a b. omega arith)))
      ∙ steps_same ((hi - lo) * o.size) (λ (j : ℕ). boulder_step_in lo hi o t (lo * o.size + j)) (λ (j : ℕ). boulder_step o t (lo * o.size + j)) c
      (λ k d h. rw (row_in o.size lo hi near.some hlo hhi k h))

  pub near_most : near_to o.size hi ≤ o.size
  unfolding near_to
  near_most = by_bool (ltb (hi + reach) o.size) (λ e. let h = ltb-true (hi + reach) o.size e in rw e (omega arith)) (λ e. rw e (omega arith))

  pub near_least : near_from lo ≤ near_to o.size hi
  unfolding near_to
  near_least = by_bool (ltb (hi + reach) o.size) (λ e. rw e (omega arith)) (λ e. rw e (omega arith))

  past : (n k : ℕ) → n ≡ near_to o.size hi → n ≤ k / o.size → k < o.size * o.size → Away lo hi (k / o.size)
  unfolding near_to
  past n k e h l = by_bool (ltb (hi + reach) o.size)
      (λ f. behind (let q : n ≡ hi + reach = rw f at e in omega arith))
      (λ f. let q : n ≡ o.size = rw f at e in let b = below_2 o.size k l in absurd (omega arith))

  trees_rows : (sea : ℤ) (t : ℕ → Top) (c : List ℕ)
      → steps (o.size * o.size) (tree_step_in lo hi o sea t) c ≡ over_rows o.size (near_from lo) (near_to o.size hi) (tree_step_in lo hi o sea t) c
  trees_rows sea t c =
      rows_only o.size (near_from lo) (near_to o.size hi) near.some near_least near_most (tree_step_in lo hi o sea t) c
      (λ k d h. tree_far lo hi o sea t k d hhi (before (omega arith)))
      (λ k d h l. tree_far lo hi o sea t k d hhi (past (near_to o.size hi) k refl h l))

  -- slabs that have the base become the ground's, whatever stands elsewhere, and all else stays
  pub slab_ground : (q p : List ℕ) → Clip o.size lo hi q p (base_cells w o)
      → Clip o.size lo hi q (slab_laid lo hi o w.sea_level (top_of w o) p)
      (trees_of o w.sea_level (top_of w o) (boulders_of o (top_of w o) (base_cells w o)))
  unfolding slab_laid boulders_of
  slab_ground q p k =
      let s = o.size in
      let sea = w.sea_level in
      let t = top_of w o in
      let whole = boulders_of o t (base_cells w o) in
      let part = over_rows s lo hi (boulder_step o t) p in
      let b = subst (λ (x : List ℕ). Clip s lo hi q x whole) (boulders_rows t p) (boulders_clip lo hi o q t (s * s) p (base_cells w o) k) in
      let c = trees_clip lo hi o q sea t (s * s) part whole b in
      subst (λ (x : List ℕ). Clip s lo hi q x (trees_of o sea t whole)) (trees_rows sea t part)
      (subst (λ (x : List ℕ). Clip s lo hi q (steps (s * s) (tree_step_in lo hi o sea t) part) x) (sym (trees_stand w o tall near)) c)
