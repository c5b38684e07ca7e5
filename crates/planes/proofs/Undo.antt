-- Planes and cells give each other back, for every number of bits (SCOPE 5.12). Assumes nothing.
use Rattle.std.specs.Prelude.{◌≡◌, ℕ, ◌+◌, ◌-◌, ◌*◌, ◌/◌, ◌%◌, ◌<◌, List, ◌++◌, length, get_or}
use Rattle.std.proofs.Common.{sym, ap, ◌∙◌, arith, length-append, ext_get_or, get_or-append-add}
use Rattle.std.proofs.Math.ListN.{get_or-append}
use Rattle.basics.specs.Naturals.{split}
use Rattle.grid.specs.Grid.{tab_length, tab_at}
use Rattle.planes.specs.Order.{cell_at, position_of, volume}
use Rattle.planes.proofs.Bijection.{position_cell, cell_position, cell_lt, position_lt}
use Rattle.planes.specs.Planes.{low_plane, high_plane, planes_of, cells_of, Bytes}

-- ---- what stands at a place

low_length : (k : ℕ) (c : List ℕ) → length (low_plane k c) ≡ volume k
unfolding low_plane
low_length k c = simp tab_length

high_length : (k : ℕ) (c : List ℕ) → length (high_plane k c) ≡ volume k
unfolding high_plane
high_length k c = simp tab_length

pub planes_length : (k : ℕ) (c : List ℕ) → length (planes_of k c) ≡ volume k + volume k
unfolding planes_of
planes_length k c = simp (length-append, low_length, high_length)

pub cells_length : (k : ℕ) (b : List ℕ) → length (cells_of k b) ≡ volume k
unfolding cells_of
cells_length k b = simp tab_length

low_at : (k : ℕ) (c : List ℕ) (m : ℕ) → m < volume k → get_or (planes_of k c) m 0 ≡ get_or c (cell_at k m) 0 % 256
unfolding planes_of low_plane
low_at k c m h =
    get_or-append (low_plane k c) (high_plane k c) 0 m (rw (low_length k c) h)
    ∙ tab_at (volume k) (λ (j : ℕ). get_or c (cell_at k j) 0 % 256) m h

high_at : (k : ℕ) (c : List ℕ) (m : ℕ) → m < volume k → get_or (planes_of k c) (volume k + m) 0 ≡ get_or c (cell_at k m) 0 / 256
unfolding planes_of high_plane
high_at k c m h =
    ap (λ (n : ℕ). get_or (low_plane k c ++ high_plane k c) (n + m) 0) (sym (low_length k c))
    ∙ get_or-append-add (low_plane k c) (high_plane k c) m 0
    ∙ tab_at (volume k) (λ (j : ℕ). get_or c (cell_at k j) 0 / 256) m h

pub cell_at_lem : (k : ℕ) (b : List ℕ) (i : ℕ) → i < volume k
    → get_or (cells_of k b) i 0 ≡ get_or b (position_of k i) 0 + 256 * get_or b (volume k + position_of k i) 0
unfolding cells_of
cell_at_lem k b i h = tab_at (volume k) (λ (j : ℕ). get_or b (position_of k j) 0 + 256 * get_or b (volume k + position_of k j) 0) i h

-- ---- the theorems

pub cells_planes : (k : ℕ) (c : List ℕ) → length c ≡ volume k → cells_of k (planes_of k c) ≡ c
cells_planes k c e =
    ext_get_or 0 (cells_of k (planes_of k c)) c (cells_length k (planes_of k c) ∙ sym e)
    (λ i h.
    let j : i < volume k = (let l = cells_length k (planes_of k c) in omega arith) in
    let p = position_lt k i in
    let b = cell_at_lem k (planes_of k c) i j in
    let lo = low_at k c (position_of k i) p in
    let hi = high_at k c (position_of k i) p in
    let q = ap (λ (n : ℕ). get_or c n 0) (cell_position k i j) in
    omega arith)

pub planes_cells : (k : ℕ) (b : List ℕ) → length b ≡ volume k + volume k → Bytes b → planes_of k (cells_of k b) ≡ b
planes_cells k b e s =
    ext_get_or 0 (planes_of k (cells_of k b)) b (planes_length k (cells_of k b) ∙ sym e)
    (λ i h.
    let l = planes_length k (cells_of k b) in
    split (volume k) i
    (λ g.
    let m : ℕ = i - volume k in
    let j : m < volume k = omega arith in
    let t : i ≡ volume k + m = omega arith in
    let a = ap (λ (n : ℕ). get_or (planes_of k (cells_of k b)) n 0) t ∙ high_at k (cells_of k b) m j in
    let c = cell_at_lem k b (cell_at k m) (cell_lt k m) in
    let q = ap (λ (n : ℕ). get_or b n 0) (position_cell k m j) in
    let r = ap (λ (n : ℕ). get_or b (volume k + n) 0) (position_cell k m j) in
    let u = ap (λ (n : ℕ). get_or b n 0) t in
    let v = s m in
    omega arith)
    (λ g.
    let a = low_at k (cells_of k b) i g in
    let c = cell_at_lem k b (cell_at k i) (cell_lt k i) in
    let q = ap (λ (n : ℕ). get_or b n 0) (position_cell k i g) in
    let v = s i in
    omega arith))
