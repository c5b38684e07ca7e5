-- A part of a chunk, some of its slabs (a slab has the cells of one z), goes as the chunk does. Assumes nothing.
use Rattle.std.specs.Prelude.{◌≡◌, refl, Bool, cond, List, length, set, get_or, eqb, ltb}
use Rattle.std.proofs.Common.{sym, ap, ◌∙◌, arith, true≢false, length-set, ext_get_or, get_or-set_same, get_or-set_other, eqb-true, lt-ltb, le-leb}
use Rattle.std.proofs.Common.{ltb-true, ltb-false}
use Prim.Native.Nat.{ℕ, zero, suc, ◌*◌, ◌/◌, ◌≤◌, ◌<◌}
use Rattle.std.proofs.Math.Bool.{true, false}
use Rattle.std.proofs.lemmas.Bool.{eqb-false}
use Rattle.basics.specs.Bools.{by_bool}
use Rattle.grid.specs.Cube.{cell_index, inside, put_at, steps}
use Rattle.grid.specs.Grid.{below, index_lt, index_z, inside_true}
use Rattle.grid_slabs.specs.Rows.{in_rows, rows_in, rows_is, rows_off}

-- p is as c in the slabs lo ≤ z < hi, and as o in the others
pub record Clip (s lo hi : ℕ) (o p c : List ℕ) : Type 0 where
  pub all : length c ≡ s * s * s
  pub long : length p ≡ s * s * s
  pub same : (i : ℕ) → in_rows lo hi (i / s / s) ≡ true → get_or p i 0 ≡ get_or c i 0
  pub kept : (i : ℕ) → in_rows lo hi (i / s / s) ≡ false → get_or p i 0 ≡ get_or o i 0

module _ (s lo hi : ℕ) (o : List ℕ) where
  -- a write in one of the slabs, on both
  pub set_in : (p c : List ℕ) (j v : ℕ) → j < s * s * s → in_rows lo hi (j / s / s) ≡ true → Clip s lo hi o p c → Clip s lo hi o (set p j v) (set c j v)
  set_in p c j v h r k = record {
    all = length-set c j v ∙ k.all;
    long = length-set p j v ∙ k.long;
    same = λ i q. here i q (eqb i j) refl;
    kept = λ i q. get_or-set_other p j i v 0 (λ e. true≢false (sym r ∙ ap (λ (u : ℕ). in_rows lo hi (u / s / s)) (sym e) ∙ q)) ∙ k.kept i q;
  }
    where
      here : (i : ℕ) → in_rows lo hi (i / s / s) ≡ true → (b : Bool) → eqb i j ≡ b → get_or (set p j v) i 0 ≡ get_or (set c j v) i 0
      here i q true e =
          let f : i ≡ j = eqb-true i j e in
          let a = k.all in
          let b = k.long in
          ap (λ (u : ℕ). get_or (set p j v) u 0) f
          ∙ get_or-set_same p j v 0 (omega arith)
          ∙ sym (get_or-set_same c j v 0 (omega arith))
          ∙ sym (ap (λ (u : ℕ). get_or (set c j v) u 0) f)
      here i q false e =
          let n = eqb-false i j e in
          get_or-set_other p j i v 0 n ∙ k.same i q ∙ sym (get_or-set_other c j i v 0 n)

  -- a write elsewhere, on the whole alone
  pub set_off : (p c : List ℕ) (j v : ℕ) → in_rows lo hi (j / s / s) ≡ false → Clip s lo hi o p c → Clip s lo hi o p (set c j v)
  set_off p c j v r k = record {
    all = length-set c j v ∙ k.all;
    long = k.long;
    same = λ i q. k.same i q ∙ sym (get_or-set_other c j i v 0 (λ e. true≢false (sym q ∙ ap (λ (u : ℕ). in_rows lo hi (u / s / s)) e ∙ r)));
    kept = k.kept;
  }

  -- one cell
  pub put_clip : (x y z v : ℕ) (p c : List ℕ) → Clip s lo hi o p c → Clip s lo hi o (cond (in_rows lo hi z) (put_at s x y z v p) p) (put_at s x y z v c)
  unfolding put_at
  put_clip x y z v p c k = by_bool (inside s x y z)
      (λ e. let w = inside_true s x y z e in
      let g : cell_index s x y z / s / s ≡ z = index_z s x y z w.x_in w.y_in in
      by_bool (in_rows lo hi z)
      (λ f. rw (e, f) (set_in p c (cell_index s x y z) v (index_lt s x y z w.x_in w.y_in w.z_in) (ap (in_rows lo hi) g ∙ f) k))
      (λ f. rw (e, f) (set_off p c (cell_index s x y z) v (ap (in_rows lo hi) g ∙ f) k)))
      (λ e. rw e (either (in_rows lo hi z)))
    where
      either : (b : Bool) → Clip s lo hi o (cond b p p) c
      either true = k
      either false = k

  -- step by step
  pub steps_clip : (n : ℕ) (f g : ℕ → List ℕ → List ℕ) (p c : List ℕ) → ((j : ℕ) (q d : List ℕ) → Clip s lo hi o q d → Clip s lo hi o (f j q) (g j d))
      → Clip s lo hi o p c → Clip s lo hi o (steps n f p) (steps n g c)
  unfolding steps
  steps_clip zero f g p c h k = k
  steps_clip (suc n) f g p c h k = h n (steps n f p) (steps n g c) (steps_clip n f g p c h k)

  -- steps of which none is in the slabs
  pub steps_off : (n : ℕ) (g : ℕ → List ℕ → List ℕ) (p c : List ℕ) → ((j : ℕ) (d : List ℕ) → Clip s lo hi o p d → Clip s lo hi o p (g j d))
      → Clip s lo hi o p c → Clip s lo hi o p (steps n g c)
  unfolding steps
  steps_off zero g p c h k = k
  steps_off (suc n) g p c h k = h n (steps n g c) (steps_off n g p c h k)

-- all slabs are the chunk
pub clip_all : (s : ℕ) (q p c : List ℕ) → Clip s 0 s q p c → p ≡ c
unfolding in_rows
clip_all s q p c k =
    ext_get_or 0 p c (k.long ∙ sym k.all)
    (λ i h. k.same i (rw (le-leb 0 (i / s / s) (omega arith)) (lt-ltb (i / s / s) s (below s i (let l = k.long in omega arith)))))

pub clip_same : (s lo hi : ℕ) (c : List ℕ) → length c ≡ s * s * s → Clip s lo hi c c c
clip_same s lo hi c l = record { all = l; long = l; same = λ i e. refl; kept = λ i e. refl }

-- some slabs, and then those behind them
pub clip_then : (s lo mid hi : ℕ) (o q p c : List ℕ) → lo ≤ mid → mid ≤ hi → Clip s lo mid o q c → Clip s mid hi q p c → Clip s lo hi o p c
clip_then s lo mid hi o q p c h k a b = record {
  all = b.all;
  long = b.long;
  same = λ i e. let r = rows_is lo hi (i / s / s) e in
      by_bool (ltb (i / s / s) mid)
      (λ t. let u = ltb-true (i / s / s) mid t in
      b.kept i (rows_off mid hi (i / s / s) (λ x y. omega arith)) ∙ a.same i (rows_in lo mid (i / s / s) r.0 u))
      (λ t. b.same i (rows_in mid hi (i / s / s) (ltb-false (i / s / s) mid t) r.1));
  kept = λ i e. let n = out i e in
      b.kept i (rows_off mid hi (i / s / s) (λ x y. n (omega arith) y)) ∙ a.kept i (rows_off lo mid (i / s / s) (λ x y. n x (omega arith)));
}
  where
    out : (i : ℕ) → in_rows lo hi (i / s / s) ≡ false → lo ≤ i / s / s → i / s / s < hi → ⊥
    out i e x y = true≢false (sym (rows_in lo hi (i / s / s) x y) ∙ e)
