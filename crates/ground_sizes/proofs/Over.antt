-- What boulders and trees lay over a cell (SCOPE 4.14): where the base has neither air nor water, the ground has what the base has. Assumes nothing.
use Rattle.std.specs.Prelude.{◌≡◌, ℕ, zero, suc, ◌+◌, ◌/◌, ◌%◌, ◌≤◌, false, List, ◌⊎◌, ltb, eqb, ℤ, pos, negsuc, ◌+ℤ◌, ◌-ℤ◌, set}
use Rattle.std.proofs.Math.Path.{refl, ap}
use Rattle.std.proofs.Common.{sym, ◌∙◌, subst, arith, true≢false, inr, eqb-true, ltb-true, lt-ltb, le-ltb}
use Rattle.std.proofs.Math.Logic.{inl}
use Rattle.std.proofs.Math.ListN.{get_or}
use Rattle.std.specs.Int.Signed.{lt_z}
use Rattle.basics.specs.Bools.{by_bool}
use Rattle.basics.specs.Lists.{set_either}
use Rattle.grid.specs.Cube.{cell_index, inside, put_at}
use Rattle.grid.specs.Grid.{inside_true}
use Rattle.ground_cell.specs.Blocks.{AIR, STONE, LOG}
use Rattle.ground_cell.specs.World.{height_at, base_cell, local_y}
use Rattle.ground_cell.specs.Base.{base_cells, column_height}
use Rattle.ground_cell.proofs.Laws.{base_at, base_above, level_back}
use Rattle.ground_cell.specs.declared.world.World.{World}
use Rattle.ground_cell.specs.declared.world.Frame.{Frame}
use Rattle.ground_trees.specs.Features.{boulders_of, leaf_at, top_of}
use Rattle.ground_trees.specs.Kept.{OnTop, Keeps, keeps_same, keeps_more, Dry, boulders_kept, trees_kept}
use Rattle.ground.specs.Ground.{ground_in}
use Rattle.ground_sizes.specs.Over.{Open, Feature, boulder, trunk, leaf, Over}

-- where the ground has air, so has the base
air_same : {v id : ℕ} → Over v id → id ≡ AIR → v ≡ AIR
air_same (inl e) h = sym e ∙ h
air_same (inr (boulder e o)) h = absurd (omega arith)
air_same (inr (trunk e o)) h = absurd (omega arith)
air_same (inr (leaf e o)) h = absurd (omega arith)

-- at a column's height and above the base is open, and air where the column is dry
above_open : (w : World) (wx wz : ℤ) (n : ℕ) → height_at w wx wz ≤ n → Open (base_cell w wx (pos n) wz)
above_open w wx wz n h =
    let e = base_above w wx wz n h in by_bool (lt_z (pos n) w.sea_level) (λ b. inr (e ∙ rw b)) (λ b. inl (e ∙ rw b))

dry_above : (sea : ℤ) (h j : ℕ) → lt_z (pos h -ℤ sea) (pos 3) ≡ false → lt_z (pos (h + j)) sea ≡ false
dry_above (pos zero) h j e = le-ltb (h + j) 0 (omega arith)
dry_above (pos (suc b)) h j e = by_bool (ltb (h + j) (suc b))
    (λ l. let k = ltb-true (h + j) (suc b) l in absurd (true≢false (rw (lt-ltb h (suc b) (omega arith)) at e)))
    (λ l. l)
dry_above (negsuc b) h j e = refl

module _ (w : World) (o : Frame) where
  -- every cell is over the base's: boulders and trees keep that
  abbrev AllOver : List ℕ → Type 0
  AllOver c = (i : ℕ) → Over (get_or (base_cells w o) i 0) (get_or c i 0)

  set_over : (c : List ℕ) (j v : ℕ) → Over (get_or (base_cells w o) j 0) v → Keeps AllOver c (set c j v)
  set_over c j v h g i = go (set_either 0 c j v i)
    where
      go : ((i ≡ j) × (get_or (set c j v) i 0 ≡ v)) ⊎ (get_or (set c j v) i 0 ≡ get_or c i 0) → Over (get_or (base_cells w o) i 0) (get_or (set c j v) i 0)
      go (inl e) = rw e.1 (subst (λ (k : ℕ). Over (get_or (base_cells w o) k 0) v) (sym e.0) h)
      go (inr e) = rw e (g i)

  leaf_over : (x y z : ℕ) (c : List ℕ) → Keeps AllOver c (leaf_at o.size x y z c)
  unfolding leaf_at
  leaf_over x y z c g =
      let i = cell_index o.size x y z in
      by_bool (inside o.size x y z)
      (λ e. by_bool (eqb (get_or c i 0) 0)
      (λ f. rw (e, f) (set_over c i 9 (inr (leaf refl (air_same (g i) (eqb-true _ _ f)))) g))
      (λ f. rw (e, f) g))
      (λ e. rw e g)

  -- a block on column k, j above its top, where the base may have it
  module _ (k j v : ℕ) where
    abbrev wx : ℤ
    wx = o.ox +ℤ pos (k % o.size)

    abbrev wz : ℤ
    wz = o.oz +ℤ pos (k / o.size)

    put_over : Feature (base_cell w wx (pos (height_at w wx wz + j)) wz) v → (c : List ℕ)
        → Keeps AllOver c (put_at o.size (k % o.size) (local_y o.size o.oy (pos ((top_of w o k).height + j))) (k / o.size) v c)
    unfolding put_at column_height
    put_over f c g =
        let x = k % o.size in
        let z = k / o.size in
        let n = height_at w wx wz + j in
        let y = local_y o.size o.oy (pos n) in
        let i = cell_index o.size x y z in
        by_bool (inside o.size x y z)
        (λ e. let m = inside_true o.size x y z e in
        let is : get_or (base_cells w o) i 0 ≡ base_cell w wx (pos n) wz =
        base_at w o x y z m.x_in m.y_in m.z_in ∙ ap (λ (u : ℤ). base_cell w wx u wz) (level_back o.size o.oy n m.y_in) in
        rw e (set_over c i v (inr (rw is f)) g))
        (λ e. rw e g)

  stone_over : (k : ℕ) → OnTop (Keeps AllOver) o (top_of w o k) (k % o.size) (k / o.size) STONE
  stone_over k j = put_over k j STONE (boulder refl (above_open w _ _ _ (omega arith)))

  log_over : (k : ℕ) → Dry w.sea_level (top_of w o k) → OnTop (Keeps AllOver) o (top_of w o k) (k % o.size) (k / o.size) LOG
  unfolding column_height
  log_over k h j = put_over k j LOG (trunk refl (base_above w _ _ _ (omega arith) ∙ rw (dry_above w.sea_level _ j h)))

  pub ground_over : AllOver (ground_in w o)
  unfolding ground_in
  ground_over =
      let t = top_of w o in
      trees_kept (Keeps AllOver) (keeps_same AllOver) (keeps_more AllOver) o t leaf_over w.sea_level log_over (boulders_of o t (base_cells w o))
      (boulders_kept (Keeps AllOver) (keeps_same AllOver) (keeps_more AllOver) o t stone_over (base_cells w o) (λ i. inl refl))

-- where the base has neither air nor water, the ground has what the base has
pub solid_same : {v id : ℕ} → Over v id → (Open v → ⊥) → id ≡ v
solid_same (inl e) h = e
solid_same (inr (boulder e o)) h = absurd (h o)
solid_same (inr (trunk e o)) h = absurd (h (inl o))
solid_same (inr (leaf e o)) h = absurd (h (inl o))
