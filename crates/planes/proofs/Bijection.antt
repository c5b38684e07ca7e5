-- Positions and cells say each other, for every number of bits (SCOPE 5.12). By induction on the bits: `morton_step` takes one of each
-- coordinate off. Assumes nothing.
use Rattle.std.specs.Prelude.{◌≡◌, refl}
use Rattle.std.proofs.Math.Path.{ap}
use Rattle.std.proofs.Common.{◌∙◌, mod-lt, div-add-mod', pow_pos}
use Prim.Native.Nat.{ℕ, zero, suc, ◌+◌, ◌*◌, ◌/◌, ◌%◌, ◌^◌, ◌<◌}
use native.Mathlib.Omega.{arith}
use Rattle.std.proofs.Math.Nat.{mul-mul-mul_comm, div-div-eq-div-mul}
use Rattle.grid.specs.Cube.{cell_index}
use Rattle.grid.specs.Grid.{digits, index_lt, index_x, index_y, index_z, below}
use Rattle.planes.specs.Order.{spread, morton_of, third, cell_at, position_of, volume}
use Rattle.planes.proofs.Rule.{double, morton_step, morton_left}

-- ---- powers

cube_double : (p : ℕ) → 2 * p * (2 * p) * (2 * p) ≡ 8 * (p * p * p)
cube_double p =
    let a : 2 * p * (2 * p) ≡ 4 * (p * p) = mul-mul-mul_comm 2 p 2 p in
    ap (λ (q : ℕ). q * (2 * p)) a ∙ mul-mul-mul_comm 4 (p * p) 2 p

pub volume_more : (k : ℕ) → volume (suc k) ≡ 8 * volume k
volume_more k = ap (λ (p : ℕ). p * p * p) (double k) ∙ cube_double (2 ^ k)

-- ---- a cell's coordinates and its position are within the chunk

pub third_lt : (d k m : ℕ) → third d k m < 2 ^ k
unfolding third
third_lt d zero m = omega arith
third_lt d (suc k) m = let h = third_lt d k (m / 8) in let e = double k in omega arith

morton_lt : (k x y z : ℕ) → morton_of k x y z < volume k
unfolding morton_of spread
morton_lt zero x y z = omega arith
morton_lt (suc k) x y z =
    let h = morton_lt k (x / 2) (y / 2) (z / 2) in
    let e = volume_more k in
    let s = morton_step k x y z in
    omega arith

pub cell_lt : (k m : ℕ) → cell_at k m < volume k
unfolding cell_at
cell_lt k m = index_lt (2 ^ k) (third 1 k m) (third 2 k m) (third 4 k m) (third_lt 1 k m) (third_lt 2 k m) (third_lt 4 k m)

pub position_lt : (k i : ℕ) → position_of k i < volume k
unfolding position_of
position_lt k i = morton_lt k (i % 2 ^ k) (i / 2 ^ k % 2 ^ k) (i / 2 ^ k / 2 ^ k)

-- ---- a position has the bits of its cell's coordinates

-- one coordinate, c: its bit is the one worth d of each three
module _ (d : ℕ) (c : ℕ → ℕ → ℕ → ℕ)
    (lowest : (k x y z : ℕ) → morton_of (suc k) x y z / d % 2 ≡ c x y z % 2)
    (half : (x y z : ℕ) → c (x / 2) (y / 2) (z / 2) ≡ c x y z / 2) where
  of_position : (k x y z : ℕ) → c x y z < 2 ^ k → third d k (morton_of k x y z) ≡ c x y z
  unfolding third
  of_position zero x y z h = omega arith
  of_position (suc k) x y z h =
      let e = double k in
      let l = lowest k x y z in
      let f = half x y z in
      let q = ap (third d k) (morton_left k x y z) ∙ of_position k (x / 2) (y / 2) (z / 2) (omega arith) in
      omega arith

x_of_lem : (k x y z : ℕ) → x < 2 ^ k → third 1 k (morton_of k x y z) ≡ x
x_of_lem = of_position 1 (λ x y z. x) (λ k x y z. let s = morton_step k x y z in omega arith) (λ x y z. refl)

y_of : (k x y z : ℕ) → y < 2 ^ k → third 2 k (morton_of k x y z) ≡ y
y_of = of_position 2 (λ x y z. y) (λ k x y z. let s = morton_step k x y z in omega arith) (λ x y z. refl)

z_of_lem : (k x y z : ℕ) → z < 2 ^ k → third 4 k (morton_of k x y z) ≡ z
z_of_lem = of_position 4 (λ x y z. z) (λ k x y z. let s = morton_step k x y z in omega arith) (λ x y z. refl)

-- ---- and a cell's coordinates have the bits of its position

halved : (d k m : ℕ) → third d (suc k) m / 2 ≡ third d k (m / 8)
unfolding third
halved d k m = omega arith

odd : (d k m : ℕ) → third d (suc k) m % 2 ≡ m / d % 2
unfolding third
odd d k m = omega arith

three : (m : ℕ) → m / 1 % 2 + 2 * (m / 2 % 2) + 4 * (m / 4 % 2) + 8 * (m / 8) ≡ m
three m =
    let a : m / 2 / 2 ≡ m / 4 = div-div-eq-div-mul m 2 2 in
    let b : m / 4 / 2 ≡ m / 8 = div-div-eq-div-mul m 4 2 in
    omega arith

morton_of_lem : (k m : ℕ) → m < volume k → morton_of k (third 1 k m) (third 2 k m) (third 4 k m) ≡ m
unfolding morton_of spread
morton_of_lem zero m h = omega arith
morton_of_lem (suc k) m h =
    let e = volume_more k in
    let i = morton_of_lem k (m / 8) (omega arith) in
    morton_step k (third 1 (suc k) m) (third 2 (suc k) m) (third 4 (suc k) m)
    ∙ rw (halved 1 k m, halved 2 k m, halved 4 k m, odd 1 k m, odd 2 k m, odd 4 k m, i) (three m)

-- ---- so that each gives the other

pub position_cell : (k m : ℕ) → m < volume k → position_of k (cell_at k m) ≡ m
unfolding position_of cell_at
position_cell k m h =
    let x = third_lt 1 k m in
    let y = third_lt 2 k m in
    rw (
      index_x (2 ^ k) (third 1 k m) (third 2 k m) (third 4 k m) x,
      index_y (2 ^ k) (third 1 k m) (third 2 k m) (third 4 k m) x y,
      index_z (2 ^ k) (third 1 k m) (third 2 k m) (third 4 k m) x y,
    )
    (morton_of_lem k m h)

again : (s i : ℕ) → cell_index s (i % s) (i / s % s) (i / s / s) ≡ i
again s i =
    digits s (i % s) (i / s % s) (i / s / s)
    ∙ ap (λ (q : ℕ). q * s + i % s) (div-add-mod' (i / s) s)
    ∙ div-add-mod' i s

pub cell_position : (k i : ℕ) → i < volume k → cell_at k (position_of k i) ≡ i
unfolding position_of cell_at
cell_position k i h =
    let p = pow_pos k in
    rw (
      x_of_lem k (i % 2 ^ k) (i / 2 ^ k % 2 ^ k) (i / 2 ^ k / 2 ^ k) (mod-lt i p),
      y_of k (i % 2 ^ k) (i / 2 ^ k % 2 ^ k) (i / 2 ^ k / 2 ^ k) (mod-lt (i / 2 ^ k) p),
      z_of_lem k (i % 2 ^ k) (i / 2 ^ k % 2 ^ k) (i / 2 ^ k / 2 ^ k) (below (2 ^ k) i h),
    )
    (again (2 ^ k) i)
