-- Bytes that were written position by position are the planes. Assumes nothing.
use Rattle.std.specs.Prelude.{◌≡◌, get_or, take}
use Rattle.std.proofs.Math.Path.{refl, ap, ap₂}
use Rattle.std.proofs.Common.{sym, ◌∙◌, arith, add-one, suc-add, length-drop, take-append-drop, length-take-le}
use Prim.Native.Nat.{ℕ, zero, suc, ◌+◌, ◌/◌, ◌%◌, ◌≤◌}
use mathlib.Core.List.{List, [], ◌∷◌, ◌++◌}
use Rattle.std.proofs.Math.ListN.{length, set, drop, length-set}
use Rattle.std.proofs.lemmas.List.{set-append_left}
use Rattle.grid.specs.Cube.{tab, steps}
use Rattle.grid.specs.Grid.{tab_same, fill_more, fill_all, fill_length, fill_at, steps_same}
use Rattle.planes.specs.Order.{cell_at}
use Rattle.planes.specs.Planes.{bits_of, low_plane, high_plane, planes_of}
use Rattle.planes.specs.Sizes.{Fit}
use Rattle.planes.proofs.Sizes.{cells_all, bytes_all}
use Rattle.planes_blocks.specs.Blocks.{block_cell, first_by, cell_by, Within, cell_by_lem, cell_is}
use Rattle.planes_write.specs.Writing.{taken_from, put_id, put_bytes, put_cell}

-- the ids of a block, put where its positions are
pub block_put : (t c z block b : List ℕ) (first m w : ℕ) → Within (length c) m w → first ≡ first_by t m → block ≡ tab w (taken_from c t first) ++ drop w z
    → steps w (put_bytes block (length c) m) b ≡ steps w (λ (j : ℕ). put_cell t c (m + j)) b
block_put t c z block b first m w h e f =
    steps_same w (put_bytes block (length c) m) (λ (j : ℕ). put_cell t c (m + j)) b
    (λ j d l.
    let there = ap (λ (k : ℕ). k + get_or t j 0) e ∙ sym (cell_by_lem t m j h.begins (let u = h.wide in omega arith)) in
    ap (λ (id : ℕ). put_id (length c) (m + j) id d)
    (ap (λ (g : List ℕ). get_or g j 0) f ∙ fill_at z w j (taken_from c t first) l ∙ ap (λ (i : ℕ). get_or c i 0) there))

-- a store behind the first list
set_behind : (p q : List ℕ) (i v : ℕ) → set (p ++ q) (length p + i) v ≡ p ++ set q i v
set_behind [] q i v = ap (λ (k : ℕ). set q k v) (let e : 0 + i ≡ i = omega arith in e)
set_behind (x ∷ p) q i v =
    ap (λ (k : ℕ). set (x ∷ p ++ q) k v) (suc-add (length p) i) ∙ ap (λ (r : List ℕ). x ∷ r) (set_behind p q i v)

-- two lists of n places, filled from the front at the same time
module _ (n : ℕ) (f : ℕ → ℕ) (p q : List ℕ) (lp : length p ≡ n) (lq : length q ≡ n) where
  filled : (m : ℕ) → m ≤ n
      → steps m (λ (j : ℕ). put_id n j (f j)) (p ++ q)
      ≡ (tab m (λ (j : ℕ). f j % 256) ++ drop m p) ++ (tab m (λ (j : ℕ). f j / 256) ++ drop m q)
  unfolding steps put_id tab
  filled zero h = refl
  filled (suc m) h =
      let lo : ℕ → ℕ = λ (j : ℕ). f j % 256 in
      let hi : ℕ → ℕ = λ (j : ℕ). f j / 256 in
      let a : List ℕ = tab m lo ++ drop m p in
      let b : List ℕ = tab m hi ++ drop m q in
      let la : length a ≡ n = fill_length p m lo (omega arith) ∙ lp in
      let l2 : length (set a m (lo m)) ≡ n = length-set a m (lo m) ∙ la in
      ap (put_id n m (f m)) (filled m (omega arith))
      ∙ ap (λ (d : List ℕ). set d (n + m) (hi m)) (set-append_left a b m (lo m) (omega arith))
      ∙ ap (λ (k : ℕ). set (set a m (lo m) ++ b) (k + m) (hi m)) (sym l2)
      ∙ set_behind (set a m (lo m)) b m (hi m)
      ∙ ap₂ (λ (u v : List ℕ). u ++ v) (fill_more p m lo (omega arith)) (fill_more q m hi (omega arith))
      ∙ ap (λ (k : ℕ). (tab k lo ++ drop k p) ++ (tab k hi ++ drop k q)) (add-one m)

  both : steps n (λ (j : ℕ). put_id n j (f j)) (p ++ q) ≡ tab n (λ (j : ℕ). f j % 256) ++ tab n (λ (j : ℕ). f j / 256)
  both =
      filled n (omega arith)
      ∙ ap₂ (λ (u v : List ℕ). u ++ v)
      (fill_all p (λ (j : ℕ). f j % 256) n (sym lp) ∙ ap (λ (k : ℕ). tab k (λ (j : ℕ). f j % 256)) lp)
      (fill_all q (λ (j : ℕ). f j / 256) n (sym lq) ∙ ap (λ (k : ℕ). tab k (λ (j : ℕ). f j / 256)) lq)

pub planes_are : (size : ℕ) (c b : List ℕ) → Fit size (length c) (length b)
    → steps (length c) (put_cell (tab 64 (block_cell size)) c) b ≡ planes_of (bits_of size) c
unfolding planes_of low_plane high_plane
planes_are size c b fit =
    let n : ℕ = length c in
    let k : ℕ = bits_of size in
    let is = cell_is size n (length b) fit in
    let e = cells_all size n (length b) fit in
    let lb = bytes_all size n (length b) fit in
    let id : ℕ → ℕ = λ (j : ℕ). get_or c (cell_by (tab 64 (block_cell size)) j) 0 in
    let there : ℕ → ℕ = λ (j : ℕ). get_or c (cell_at k j) 0 in
    ap (λ (d : List ℕ). steps n (λ (j : ℕ). put_id n j (id j)) d) (sym (take-append-drop n b))
    ∙ both n id (take n b) (drop n b) (length-take-le n b (omega arith)) (length-drop n b ∙ (let u = lb in omega arith))
    ∙ ap₂ (λ (u v : List ℕ). u ++ v)
    (tab_same n (λ (j : ℕ). id j % 256) (λ (j : ℕ). there j % 256) (λ j h. ap (λ (i : ℕ). get_or c i 0 % 256) (is j h)))
    (tab_same n (λ (j : ℕ). id j / 256) (λ (j : ℕ). there j / 256) (λ j h. ap (λ (i : ℕ). get_or c i 0 / 256) (is j h)))
    ∙ ap (λ (m : ℕ). tab m (λ (j : ℕ). there j % 256) ++ tab m (λ (j : ℕ). there j / 256)) e
