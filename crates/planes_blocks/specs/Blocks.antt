-- The cell at a position, six bits of it at a time (SCOPE 5.12): the table of the first 64 positions serves all 262,144. Assumes nothing.
use Rattle.std.specs.Prelude.{◌≡◌, refl, ℕ, zero, suc, ◌+◌, ◌*◌, ◌/◌, ◌%◌, ◌^◌, ◌≤◌, ◌<◌, List, length, get_or}
use Rattle.std.proofs.Common.{sym, ◌∙◌, subst, div-one, add-mul, mul_assoc, mul-le-mul}
use Rattle.std.proofs.Math.Path.{ap}
use native.Mathlib.Omega.{arith}
use Rattle.std.proofs.Math.Nat.{div-div-eq-div-mul, zero-div}
use Rattle.std.proofs.Math.ListN.{get_or-eq_default}
use Rattle.basics.specs.Naturals.{split}
use Rattle.grid.specs.Cube.{cell_index, tab}
use Rattle.grid.specs.Grid.{tab_at, tab_length, cube_most}
use Rattle.planes.specs.Order.{third, cell_at, volume}
use Rattle.planes.proofs.Bijection.{volume_more, third_lt, cell_lt}
use Rattle.planes.specs.Planes.{bits_of}
use Rattle.planes.specs.Sizes.{Fit}
use Rattle.planes.proofs.Sizes.{cells_all}

-- the cell that six bits give, two of each coordinate
unfoldable pub block_cell : ℕ → ℕ → ℕ
block_cell size j = cell_index size (third 1 2 j) (third 2 2 j) (third 4 2 j)

-- the first cell of the block that a position is in, by a table of the first block
unfoldable pub first_by : List ℕ → ℕ → ℕ
first_by t m = 4 * get_or t (m / 64 % 64) 0 + 16 * get_or t (m / 4096) 0

-- the cell at a position
unfoldable pub cell_by : List ℕ → ℕ → ℕ
cell_by t m = first_by t m + get_or t (m % 64) 0

-- a table of a block: cells that differ in bit 0 of x lie side by side
pub record Table (t : List ℕ) : Type 0 where
  pub long : length t ≡ 64
  pub small : (j : ℕ) → get_or t j 0 < 65536
  pub paired : (j : ℕ) → j % 2 ≡ 0 → j + 1 < 64 → get_or t (j + 1) 0 ≡ get_or t j 0 + 1

-- n cells in whole blocks, or in one that is shorter, and a table that gives each of them
pub record Blocks (t : List ℕ) (n : ℕ) : Type 0 where
  pub table : Table t
  pub some : 1 ≤ n
  pub most : n ≤ 262144
  pub whole : 64 ≤ n → n % 64 ≡ 0
  pub inside : (m : ℕ) → m < n → cell_by t m < n

-- w positions from m on, all in one block
pub record Within (n m w : ℕ) : Type 0 where
  pub begins : m % 64 ≡ 0
  pub some : 1 ≤ w
  pub wide : w ≤ 64
  pub ends : m + w ≤ n

-- .. and their cells, each so far behind the first as the table says
pub record Span (t : List ℕ) (n first w : ℕ) : Type 0 where
  pub table : Table t
  pub wide : w ≤ 64
  pub most : n ≤ 262144
  pub inside : (j : ℕ) → j < w → first + get_or t j 0 < n

-- .. and a block of `long` places, whose first w ids go to, or come from, position m on in the bytes of n cells
pub record BlockBytes (long w n m bytes : ℕ) : Type 0 where
  pub block : w ≤ long
  pub wide : w ≤ 64
  pub most : n ≤ 262144
  pub ends : m + w ≤ n
  pub room : bytes ≡ 2 * n

-- ---- where a block begins

pub cell_by_lem : (t : List ℕ) (m j : ℕ) → m % 64 ≡ 0 → j < 64 → cell_by t (m + j) ≡ first_by t m + get_or t j 0
unfolding cell_by first_by
cell_by_lem t m j h l =
    let a : (m + j) / 64 ≡ m / 64 = omega arith in
    let b : (m + j) % 64 ≡ j = omega arith in
    let d : (m + j) / 4096 ≡ m / 4096 =
    sym (div-div-eq-div-mul (m + j) 64 64) ∙ ap (λ (q : ℕ). q / 64) a ∙ div-div-eq-div-mul m 64 64 in
    rw (a, b, d)

pub span_of : (t : List ℕ) (n m w : ℕ) → Blocks t n → Within n m w → Span t n (first_by t m) w
span_of t n m w b h = record {
  table = b.table;
  wide = h.wide;
  most = b.most;
  inside = λ j l.
      (let u = h.wide in
      let v = h.ends in
      let i = b.inside (m + j) (omega arith) in
      subst (λ (k : ℕ). k < n) (cell_by_lem t m j h.begins (omega arith)) i);
}

-- two cells side by side
pub span_pair : (t : List ℕ) (n first w j : ℕ) → Span t n first w → j % 2 ≡ 0 → j + 1 < w → first + get_or t j 0 + 1 ≡ first + get_or t (j + 1) 0
span_pair t n first w j s e l = let u = s.wide in let p = s.table.paired j e (omega arith) in omega arith

-- ---- the bits of six as the code takes them

two_bits : (a b : ℕ) → a + 2 * b ≡ a + 2 * (b + 2 * 0)
two_bits a b = omega arith

pub block_bits : (size j : ℕ)
    → cell_index size (j % 2 + 2 * (j / 8 % 2)) (j / 2 % 2 + 2 * (j / 16 % 2)) (j / 4 % 2 + 2 * (j / 32 % 2)) ≡ block_cell size j
unfolding block_cell third
block_bits size j =
    let x : j % 2 + 2 * (j / 8 % 2) ≡ j / 1 % 2 + 2 * (j / 8 / 1 % 2 + 2 * 0) =
    rw (div-one j, div-one (j / 8)) (two_bits (j % 2) (j / 8 % 2)) in
    let y : j / 2 % 2 + 2 * (j / 16 % 2) ≡ j / 2 % 2 + 2 * (j / 8 / 2 % 2 + 2 * 0) =
    rw (div-div-eq-div-mul j 8 2) (two_bits (j / 2 % 2) (j / 16 % 2)) in
    let z : j / 4 % 2 + 2 * (j / 32 % 2) ≡ j / 4 % 2 + 2 * (j / 8 / 4 % 2 + 2 * 0) =
    rw (div-div-eq-div-mul j 8 4) (two_bits (j / 4 % 2) (j / 32 % 2)) in
    λ i. cell_index size (x i) (y i) (z i)

-- ---- six bits, and the others

-- the digit that counts d of eight goes by what is left over of eight
abbrev Digit : ℕ → Type 0
Digit d = (q r : ℕ) → (8 * q + r) / d % 2 ≡ r / d % 2

digit_1 : Digit 1
digit_1 q r = omega arith

digit_2 : Digit 2
digit_2 q r = omega arith

digit_4 : Digit 4
digit_4 q r = omega arith

module _ (d : ℕ) (digit : Digit d) where
  third_two : (k q r : ℕ) → r < 64 → third d (suc (suc k)) (64 * q + r) ≡ third d 2 r + 4 * third d k q
  unfolding third
  third_two k q r h =
      let a : 64 * q + r ≡ 8 * (8 * q) + r = omega arith in
      let b : (64 * q + r) / 8 ≡ 8 * q + r / 8 = omega arith in
      let c : (8 * q + r / 8) / 8 ≡ q = omega arith in
      let u = ap (λ (n : ℕ). n / d % 2) a ∙ digit (8 * q) r in
      let v = ap (λ (n : ℕ). n / d % 2) b ∙ digit q (r / 8) in
      let w = ap (λ (n : ℕ). third d k (n / 8)) b ∙ ap (third d k) c in
      omega arith

  third_six : (m : ℕ) → m < 262144 → third d 6 m ≡ third d 2 (m % 64) + 4 * third d 2 (m / 64 % 64) + 16 * third d 2 (m / 4096)
  third_six m h =
      let a : m ≡ 64 * (m / 64) + m % 64 = omega arith in
      let b : m / 64 ≡ 64 * (m / 64 / 64) + m / 64 % 64 = omega arith in
      let c : m / 64 / 64 ≡ m / 4096 = div-div-eq-div-mul m 64 64 in
      let u = ap (third d 6) a ∙ third_two 4 (m / 64) (m % 64) (omega arith) in
      let v = ap (third d 4) b ∙ third_two 2 (m / 64 / 64) (m / 64 % 64) (omega arith) in
      let w = ap (third d 2) c in
      omega arith

-- bits that are not there are 0
third_none : (d k : ℕ) → third d k 0 ≡ 0
unfolding third
third_none d zero = refl
third_none d (suc k) = let a = zero-div d in let b : third d k (0 / 8) ≡ 0 = third_none d k in rw (a, b)

third_wide : (d j k m : ℕ) → k ≤ j → m < volume k → third d j m ≡ third d k m
unfolding third
third_wide d j zero m h l = ap (third d j) (let e : m ≡ 0 = omega arith in e) ∙ third_none d j
third_wide d zero (suc k) m h l = absurd (omega arith)
third_wide d (suc j) (suc k) m h l =
    let e = volume_more k in
    ap (λ (n : ℕ). m / d % 2 + 2 * n) (third_wide d j k (m / 8) (omega arith) (omega arith))

-- ---- the table gives the cell at every position

times : (a b c s : ℕ) → (a + 4 * b + 16 * c) * s ≡ a * s + 4 * (b * s) + 16 * (c * s)
times a b c s = rw (add-mul (a + 4 * b) (16 * c) s, add-mul a (4 * b) s, mul_assoc 4 b s, mul_assoc 16 c s)

sums : (s ax bx cx ay by cy az bz cz : ℕ)
    → cell_index s (ax + 4 * bx + 16 * cx) (ay + 4 * by + 16 * cy) (az + 4 * bz + 16 * cz)
    ≡ 4 * cell_index s bx by bz + 16 * cell_index s cx cy cz + cell_index s ax ay az
sums s ax bx cx ay by cy az bz cz =
    let y = times ay by cy s in
    let z = ap (λ (n : ℕ). n * s) (times az bz cz s) ∙ times (az * s) (bz * s) (cz * s) s in
    omega arith

pub block_cells : (k m : ℕ) → k ≤ 6 → m < volume k → m < 262144 → cell_by (tab 64 (block_cell (2 ^ k))) m ≡ cell_at k m
unfolding cell_by first_by block_cell cell_at
block_cells k m h l g =
    let s : ℕ = 2 ^ k in
    let f : ℕ → ℕ = λ (j : ℕ). cell_index s (third 1 2 j) (third 2 2 j) (third 4 2 j) in
    let a : ℕ = m % 64 in
    let b : ℕ = m / 64 % 64 in
    let c : ℕ = m / 4096 in
    let x = sym (third_wide 1 6 k m h l) ∙ third_six 1 digit_1 m g in
    let y = sym (third_wide 2 6 k m h l) ∙ third_six 2 digit_2 m g in
    let z = sym (third_wide 4 6 k m h l) ∙ third_six 4 digit_4 m g in
    rw (tab_at 64 f a (omega arith), tab_at 64 f b (omega arith), tab_at 64 f c (omega arith), x, y, z)
    (sym (sums s (third 1 2 a) (third 1 2 b) (third 1 2 c) (third 2 2 a) (third 2 2 b) (third 2 2 c) (third 4 2 a) (third 4 2 b) (third 4 2 c)))

-- ---- a table of a chunk

block_small : (size j : ℕ) → size ≤ 64 → block_cell size j < 65536
unfolding block_cell
block_small size j h =
    let x : third 1 2 j < 4 = third_lt 1 2 j in
    let y : third 2 2 j < 4 = third_lt 2 2 j in
    let z : third 4 2 j < 4 = third_lt 4 2 j in
    let y3 : third 2 2 j ≤ 3 = omega arith in
    let z3 : third 4 2 j ≤ 3 = omega arith in
    let a : third 2 2 j * size ≤ 3 * 64 = mul-le-mul y3 h in
    let b : third 4 2 j * size ≤ 3 * 64 = mul-le-mul z3 h in
    let c : third 4 2 j * size * size ≤ 3 * 64 * 64 = mul-le-mul b h in
    omega arith

-- the lowest of six bits is that of x
block_pair : (size j : ℕ) → j % 2 ≡ 0 → block_cell size (j + 1) ≡ block_cell size j + 1
unfolding block_cell third
block_pair size j h =
    let one : (j + 1) / 1 % 2 ≡ j / 1 % 2 + 1 = omega arith in
    let two : (j + 1) / 2 ≡ j / 2 = omega arith in
    let four : (j + 1) / 4 ≡ j / 4 = omega arith in
    let eight : (j + 1) / 8 ≡ j / 8 = omega arith in
    rw (one, two, four, eight) (omega arith)

table_of : (size : ℕ) → size ≤ 64 → Table (tab 64 (block_cell size))
table_of size h =
    let t : List ℕ = tab 64 (block_cell size) in
    let at : (j : ℕ) → j < 64 → get_or t j 0 ≡ block_cell size j = λ j l. tab_at 64 (block_cell size) j l in
    record {
      long = tab_length 64 (block_cell size);
      small = λ j. split 64 j
          (λ g. subst (λ (v : ℕ). v < 65536) (sym (get_or-eq_default t 0 {n = j} (rw (tab_length 64 (block_cell size)) g))) (omega arith))
          (λ g. subst (λ (v : ℕ). v < 65536) (sym (at j g)) (block_small size j h));
      paired = λ j e l. at (j + 1) l ∙ block_pair size j e ∙ ap (λ (v : ℕ). v + 1) (sym (at j (omega arith)));
    }

whole_blocks : (k : ℕ) → 64 ≤ volume k → volume k % 64 ≡ 0
whole_blocks zero h = absurd (omega arith)
whole_blocks (suc zero) h = absurd (omega arith)
whole_blocks (suc (suc k)) h = let a = volume_more (suc k) in let b = volume_more k in omega arith

volume_some : (k : ℕ) → 1 ≤ volume k
volume_some zero = omega arith
volume_some (suc k) = let h = volume_some k in let e = volume_more k in omega arith

module _ (size n m : ℕ) (fit : Fit size n m) where
  all : n ≡ volume (bits_of size)
  all = cells_all size n m fit

  cells_most : n ≤ 262144
  cells_most = let h = cube_most size fit.power.most in let e = fit.cells in omega arith

  pub cell_is : (j : ℕ) → j < n → cell_by (tab 64 (block_cell size)) j ≡ cell_at (bits_of size) j
  cell_is j h =
      let e = all in
      let l = cells_most in
      ap (λ (s : ℕ). cell_by (tab 64 (block_cell s)) j) fit.power.is
      ∙ block_cells (bits_of size) j fit.power.few (omega arith) (omega arith)

  pub blocks_of : Blocks (tab 64 (block_cell size)) n
  blocks_of = record {
    table = table_of size fit.power.most;
    some = (let e = all in let h = volume_some (bits_of size) in omega arith);
    most = cells_most;
    whole = λ h. subst (λ (v : ℕ). v % 64 ≡ 0) (sym all) (whole_blocks (bits_of size) (subst (λ (v : ℕ). 64 ≤ v) all h));
    inside = λ j h. (let e = cell_is j h in let l = cell_lt (bits_of size) j in let a = all in omega arith);
  }
