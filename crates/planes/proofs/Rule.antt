-- The rule of the Morton order, bit by bit (SCOPE 5.12), for every number of bits: by induction on them. Assumes nothing.
use Rattle.std.specs.Prelude.{◌≡◌, ℕ, zero, suc, ◌+◌, ◌*◌, ◌/◌, ◌%◌, ◌^◌, ◌<◌}
use Rattle.std.proofs.Common.{sym, ap, ◌∙◌, arith, pow-suc, mul_comm}
use Rattle.std.proofs.Math.Nat.{div-div-eq-div-mul}
use Rattle.planes.specs.Order.{spread, morton_of}
use Rattle.planes.specs.Rule.{bit, Bits}

-- ---- one bit of each coordinate, and the position of what is left

pub morton_step : (k x y z : ℕ) → morton_of (suc k) x y z ≡ x % 2 + 2 * (y % 2) + 4 * (z % 2) + 8 * morton_of k (x / 2) (y / 2) (z / 2)
unfolding morton_of spread
morton_step k x y z = omega arith

pub morton_left : (k x y z : ℕ) → morton_of (suc k) x y z / 8 ≡ morton_of k (x / 2) (y / 2) (z / 2)
morton_left k x y z = let s = morton_step k x y z in omega arith

pub double : (k : ℕ) → 2 ^ suc k ≡ 2 * 2 ^ k
double k = pow-suc 2 k ∙ mul_comm (2 ^ k) 2

one_up : (j v : ℕ) → bit (suc j) v ≡ bit j (v / 2)
one_up j v =
    ap (λ (p : ℕ). v / p % 2) (double j)
    ∙ ap (λ (q : ℕ). q % 2) (sym (div-div-eq-div-mul v 2 (2 ^ j)))

three_up : (i j v : ℕ) → i ≡ suc (suc (suc j)) → bit i v ≡ bit j (v / 8)
three_up i j v e =
    let two : v / 2 / 2 ≡ v / 4 = div-div-eq-div-mul v 2 2 in
    let three : v / 4 / 2 ≡ v / 8 = div-div-eq-div-mul v 4 2 in
    ap (λ (n : ℕ). bit n v) e
    ∙ one_up (suc (suc j)) v
    ∙ one_up (suc j) (v / 2)
    ∙ one_up j (v / 2 / 2)
    ∙ ap (bit j) (ap (λ (q : ℕ). q / 2) two ∙ three)

pub order_rule : (k j x y z : ℕ) → j < k → Bits k j x y z
order_rule zero j x y z h = absurd (omega arith)
order_rule (suc k) zero x y z h =
    let s = morton_step k x y z in
    record { x_bit = omega arith; y_bit = omega arith; z_bit = omega arith }
order_rule (suc k) (suc j) x y z h =
    let m : ℕ = morton_of (suc k) x y z in
    let r = order_rule k j (x / 2) (y / 2) (z / 2) (omega arith) in
    let left = morton_left k x y z in
    record {
      x_bit = three_up (3 * suc j) (3 * j) m (omega arith) ∙ ap (bit (3 * j)) left ∙ r.x_bit ∙ sym (one_up j x);
      y_bit = three_up (3 * suc j + 1) (3 * j + 1) m (omega arith) ∙ ap (bit (3 * j + 1)) left ∙ r.y_bit ∙ sym (one_up j y);
      z_bit = three_up (3 * suc j + 2) (3 * j + 2) m (omega arith) ∙ ap (bit (3 * j + 2)) left ∙ r.z_bit ∙ sym (one_up j z);
    }
