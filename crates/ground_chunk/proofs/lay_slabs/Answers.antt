-- The base of the slabs is laid, then what stands in them; `slab_ground` says that these are the ground's slabs. Assumes nothing.
use mathlib.Core.Path.{◌≡◌, sym, ap, ap₂, ◌∙◌, subst}
use Prim.Native.Nat.{ℕ, ◌*◌, ◌≤◌, ◌<◌}
use native.Mathlib.Omega.{arith}
use mathlib.Core.List.{List}
use lib.IntN.{ℤ}
use Rattle.basics.specs.Words.{back}
use Rattle.grid_slabs.specs.Rows.{over_rows, rows_same}
use Rattle.grid_slabs.specs.Clip.{Clip}
use Rattle.ground_cell.specs.World.{top_with}
use Rattle.ground_cell.proofs.Laws.{column_least}
use Rattle.ground_trees.specs.Features.{boulder_step, top_in, top_of}
use Rattle.ground_trees.specs.Slabs.{tree_step_in}
use Rattle.ground_slabs.specs.Slabs.{near_from, near_to, slab_laid}
use Rattle.ground_slabs.proofs.Slabs.{slab_ground, rows_clip, near_most, near_least}
use Rattle.ground_chunk.specs.Laid.{ground_in, boulder_steps, tree_steps}
use Rattle.ground_chunk.proofs.lay_slabs.Goals as goal

pub place_trees-requires : goal.place_trees-requires
place_trees-requires c =
    let a = c.args in
    let n = c.requires.4 in
    let q = c.requires.6 in
    let f = c.near_from-first.ensures in
    let t = c.near_to-last.ensures in
    let least = near_least a.lo a.hi a.w a.o c.requires.0 c.requires.1 c.requires.2 c.requires.3 in
    let most = near_most a.lo a.hi a.w a.o c.requires.0 c.requires.1 c.requires.2 c.requires.3 in (
      c.requires.1,
      n.long,
      n.longer,
      record { most = q.most; all = c.place_boulders.auto.cells ∙ c.lay_base.auto.cells ∙ q.all },
      (λ k g. subst (λ (u : ℕ). 1 ≤ u) (sym (n.heights k g)) (column_least a.w a.o c.requires.0 k)),
      omega arith,
      omega arith,
    )

pub returns : goal.returns
unfolding ground_in slab_laid
returns c =
    let a = c.args in
    let o = a.o in
    let w = a.w in
    let lo = a.lo in
    let hi = a.hi in
    let tall = c.requires.0 in
    let near = c.requires.1 in
    let up : a.lo ≤ a.hi = c.requires.2 in
    let in_chunk_lem : a.hi ≤ a.o.size = c.requires.3 in
    let n = c.requires.4 in
    let sea = w.sea_level in
    let held = top_in a.heights.now a.biomes.now in
    let same : (k : ℕ) → k < o.size * o.size → held k ≡ top_of w o k = λ k g. ap₂ top_with (n.heights k g) (n.biomes k g) in
    let based = c.lay_base in
    let p = based.new.cells in
    let stones : List ℕ = over_rows o.size lo hi (boulder_step o held) p in
    let from = c.near_from-first in
    let to = c.near_to-last in
    let least = near_least lo hi w o tall near up in_chunk_lem in
    let most = near_most lo hi w o tall near up in_chunk_lem in
    let e =
    c.place_trees.ensures
    ∙ ap₂ (λ (u : ℤ) (d : List ℕ). over_rows o.size from.result to.result (tree_step_in lo hi o u held) d) (back sea tall.sea) c.place_boulders.ensures
    ∙ ap₂ (λ (f t : ℕ). over_rows o.size f t (tree_step_in lo hi o sea held) stones) from.ensures to.ensures
    ∙ rows_same o.size (near_from lo) (near_to o.size hi) (tree_step_in lo hi o sea held) (tree_step_in lo hi o sea (top_of w o)) stones least most
    (λ k d x. tree_steps lo hi o sea held (top_of w o) k d (same k x))
    ∙ ap (over_rows o.size (near_from lo) (near_to o.size hi) (tree_step_in lo hi o sea (top_of w o)))
    (rows_same o.size lo hi (boulder_step o held) (boulder_step o (top_of w o)) p up in_chunk_lem
    (λ k d x. boulder_steps o held (top_of w o) k d (same k x))) in
    subst (λ (x : List ℕ). Clip o.size lo hi a.cells.now x (ground_in w o)) (sym e)
    (slab_ground lo hi w o tall near up in_chunk_lem a.cells.now p (rows_clip w o lo hi a.cells.now p near based.ensures))
