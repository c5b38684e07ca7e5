-- Cells that were put back position by position are those of the planes: no two positions have one cell. Assumes nothing.
use Rattle.std.specs.Prelude.{◌≡◌, drop}
use Rattle.std.proofs.Common.{sym, ap, ap₂, ◌∙◌, ext_get_or, get_or-set_same}
use Rattle.std.proofs.Math.Path.{subst}
use Prim.Native.Nat.{ℕ, zero, suc, ◌+◌, ◌≤◌, ◌<◌}
use native.Mathlib.Omega.{arith}
use mathlib.Core.List.{List, ◌++◌}
use Rattle.std.proofs.Math.ListN.{length, get_or, set, length-set}
use Rattle.std.proofs.Math.Seq.{get_or-set_other}
use Rattle.basics.specs.Naturals.{split}
use Rattle.grid.specs.Cube.{tab, steps}
use Rattle.grid.specs.Grid.{steps_same, steps_length, fill_at}
use Rattle.planes.specs.Order.{position_of, volume}
use Rattle.planes.proofs.Bijection.{position_lt, position_cell, cell_position}
use Rattle.planes.specs.Planes.{bits_of, cells_of}
use Rattle.planes.proofs.Undo.{cells_length, cell_at_lem}
use Rattle.planes.specs.Sizes.{Fit}
use Rattle.planes.proofs.Sizes.{cells_all}
use Rattle.planes_blocks.specs.Blocks.{block_cell, first_by, cell_by, Within, cell_by_lem, cell_is, blocks_of}
use Rattle.planes_read.specs.Reading.{id_at, put_into, put_back}

-- the ids of a block, put where its positions are
pub block_put : (t b z block c : List ℕ) (n first m w : ℕ) → Within n m w → first ≡ first_by t m
    → block ≡ tab w (λ (j : ℕ). id_at n b (m + j)) ++ drop w z
    → steps w (put_into block t first) c ≡ steps w (λ (j : ℕ). put_back t n b (m + j)) c
unfolding put_into put_back
block_put t b z block c n first m w h e f =
    steps_same w (put_into block t first) (λ (j : ℕ). put_back t n b (m + j)) c
    (λ j d l.
    let there = ap (λ (k : ℕ). k + get_or t j 0) e ∙ sym (cell_by_lem t m j h.begins (let u = h.wide in omega arith)) in
    ap₂ (λ (i id : ℕ). set d i id) there (ap (λ (g : List ℕ). get_or g j 0) f ∙ fill_at z w j (λ (k : ℕ). id_at n b (m + k)) l))

-- ---- stores at different places stay

module _ (f v : ℕ → ℕ) (n : ℕ) (apart : (i j : ℕ) → i < n → j < n → f i ≡ f j → i ≡ j) (c : List ℕ) (inside : (i : ℕ) → i < n → f i < length c) where
  puts : ℕ → List ℕ
  puts k = steps k (λ (i : ℕ). λ (d : List ℕ). set d (f i) (v i)) c

  puts_length : (k : ℕ) → length (puts k) ≡ length c
  unfolding puts
  puts_length k = steps_length k (λ (i : ℕ). λ (d : List ℕ). set d (f i) (v i)) c (λ i d. length-set d (f i) (v i))

  put_at_lem : (k : ℕ) → k ≤ n → (j : ℕ) → j < k → get_or (puts k) (f j) 0 ≡ v j
  unfolding puts steps
  put_at_lem zero h j l = absurd (omega arith)
  put_at_lem (suc k) h j l =
      split k j
      (λ g.
      let e : j ≡ k = omega arith in
      let r : f k < length (puts k) = (let a = puts_length k in let b = inside k (omega arith) in omega arith) in
      subst (λ (i : ℕ). get_or (set (puts k) (f k) (v k)) (f i) 0 ≡ v i) (sym e) (get_or-set_same (puts k) (f k) (v k) 0 r))
      (λ g.
      let other : f j ≡ f k → ⊥ = λ e. (let i = apart j k (omega arith) (omega arith) e in omega arith) in
      get_or-set_other (puts k) (f k) (f j) (v k) 0 other ∙ put_at_lem k (omega arith) j g)

pub cells_are : (size : ℕ) (b c : List ℕ) → Fit size (length c) (length b)
    → steps (length c) (put_back (tab 64 (block_cell size)) (length c) b) c ≡ cells_of (bits_of size) b
unfolding put_back puts
cells_are size b c fit =
    let k : ℕ = bits_of size in
    let n : ℕ = length c in
    let f : ℕ → ℕ = cell_by (tab 64 (block_cell size)) in
    let a = cells_all size n (length b) fit in
    let is = cell_is size n (length b) fit in
    let inside = (blocks_of size n (length b) fit).inside in
    let apart : (i j : ℕ) → i < n → j < n → f i ≡ f j → i ≡ j = λ i j hi hj e.
    sym (position_cell k i (omega arith)) ∙ ap (position_of k) (sym (is i hi) ∙ e ∙ is j hj) ∙ position_cell k j (omega arith) in
    let d : List ℕ = puts f (id_at n b) n apart c inside n in
    ext_get_or 0 d (cells_of k b) (puts_length f (id_at n b) n apart c inside n ∙ a ∙ sym (cells_length k b))
    (λ i h.
    let hi : i < n = (let u = puts_length f (id_at n b) n apart c inside n in omega arith) in
    let hv : i < volume k = omega arith in
    let p : position_of k i < n = (let q = position_lt k i in omega arith) in
    let there : f (position_of k i) ≡ i = is (position_of k i) p ∙ cell_position k i hv in
    subst (λ (j : ℕ). get_or d j 0 ≡ get_or (cells_of k b) i 0) there
    (put_at_lem f (id_at n b) n apart c inside n (omega arith) (position_of k i) p
    ∙ ap (λ (w : ℕ). id_at w b (position_of k i)) a
    ∙ sym (cell_at_lem k b i hv)))
