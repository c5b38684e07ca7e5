-- What wrapping and the right shift (SCOPE 3.3) mean over the integers: laws of Wrap. Assumes nothing.
use Rattle.std.specs.Prelude.{◌≡◌, ℕ, zero, suc, ◌+◌, ◌-◌, ◌*◌, ◌/◌, ◌%◌, ◌^◌, ◌<◌, ◌≤◌, Bool, true, false, ℤ, pos, negsuc, ◌+ℤ◌, ◌*ℤ◌, neg_ℤ}
use Rattle.std.specs.Prelude.{FitsSigned, nat_lt, refl}
use Rattle.std.proofs.Common.{sym, ap, ap₂, ◌∙◌, subst, add_comm, div-add-mod', mod-eq_of_lt, mod-lt, mul-add, mul_comm, suc-mul, zero-mul, arith}
use Rattle.std.proofs.Common.{pow_pos, le-ltb, ltb-true, ltb-false}
use Rattle.std.proofs.Math.Nat.{add-mul-mod_self_right}
use Rattle.std.proofs.Math.IntN.{sub_ℕ}
use Rattle.std.specs.Int.Signed.{shr_z}
use Rattle.std.specs.Int.{w32}
use mir.Val.{of_z, to_z, sel}
use Rattle.std.proofs.lemmas.Int.{to_z_pos, to_z-of_z}
use Rattle.basics.specs.Integers.{sub_at_least, sub_below}
use Rattle.num_wrap.specs.Wrap.{mod_z, wrap_w, mul_w, add_w, shift_w}

-- sums with -n
more : (a n c : ℕ) → n ≡ a + suc c → pos a +ℤ neg_ℤ (pos n) ≡ negsuc c
more a zero c e = absurd (omega arith)
more a (suc n) c e = sub_below a (suc n) c e

minus_times : (q m : ℕ) → neg_ℤ (pos q) *ℤ pos m ≡ neg_ℤ (pos (q * m))
minus_times zero m = simp zero-mul
minus_times (suc q) m = refl

deeper : (a n c : ℕ) → c ≡ a + n → negsuc a +ℤ neg_ℤ (pos n) ≡ negsuc c
deeper a zero c e = sub_below 0 (suc a) c (omega arith)
deeper a (suc n) c e = ap negsuc (omega arith)

-- ---- h >> k is h / 2 ^ k, rounded down: what it leaves lies from 0 to 2 ^ k - 1
pub record Floor (z : ℤ) (m : ℕ) (q : ℤ) : Type 0 where
  pub rest : ℕ
  pub small : rest < m
  pub same : z ≡ q *ℤ pos m +ℤ pos rest

pub shift_floor : (h : ℤ) (k : ℕ) → Floor h (2 ^ k) (shift_w h k)
shift_floor h k = down h (2 ^ k) (pow_pos k)
  where
    above : (a r n : ℕ) → a ≡ r + suc n → neg_ℤ (pos a) +ℤ pos r ≡ negsuc n
    above zero r n e = absurd (omega arith)
    above (suc a) r n e = sub_below r (suc a) n e

    down : (z : ℤ) (m : ℕ) → 0 < m → Floor z m (shr_z z m)
    down (pos n) m p = record { rest = n % m; small = mod-lt n p; same = ap pos (sym (div-add-mod' n m)) }
    down (negsuc n) m p =
        let s = mod-lt n p in
        let d = div-add-mod' n m in
        let f = suc-mul (n / m) m in
        record {
          rest = m - suc (n % m);
          small = omega arith;
          same = sym (above (suc (n / m) * m) (m - suc (n % m)) n (omega arith));
        }

-- ---- modulo 2 ^ 32
-- r is an i32 and differs from z by a multiple of 2 ^ 32
pub record Wrapped (z r : ℤ) : Type 0 where
  pub small : FitsSigned w32 r
  pub turns : ℤ
  pub same : z ≡ r +ℤ turns *ℤ pos (2 ^ 32)

-- t, below 2 ^ 32, read as an i32, and a number that is t after whole turns
module _ (t : ℕ) (h : t < 2 ^ 32) where
  read_low : t < 2 ^ 31 → to_z w32 t ≡ pos t
  read_low l = to_z_pos w32 t l

  read_high : 2 ^ 31 ≤ t → to_z w32 t ≡ negsuc (2 ^ 32 - suc t)
  read_high l = ap (λ (b : Bool). sel b (pos t) (negsuc (2 ^ 32 - suc t))) (le-ltb t (2 ^ 31) l)

  turned_up : (n q : ℕ) → n ≡ q * 2 ^ 32 + t → Wrapped (pos n) (to_z w32 t)
  turned_up n q e = go (nat_lt t (2 ^ 31)) refl
    where
      go : (b : Bool) → nat_lt t (2 ^ 31) ≡ b → Wrapped (pos n) (to_z w32 t)
      go true b =
          let l = ltb-true t (2 ^ 31) b in
          subst (Wrapped (pos n)) (sym (read_low l))
          (record { small = record { sfits = l }; turns = pos q; same = ap pos (omega arith) })
      go false b =
          let l = ltb-false t (2 ^ 31) b in
          subst (Wrapped (pos n)) (sym (read_high l))
          (record {
            small = record { sfits = omega arith };
            turns = pos (suc q);
            same = sym (sub_at_least (suc q * 2 ^ 32) (suc (2 ^ 32 - suc t)) n (omega arith));
          })

  turned_down : (n q : ℕ) → n + suc t ≡ suc q * 2 ^ 32 → Wrapped (negsuc n) (to_z w32 t)
  turned_down n q e = go (nat_lt t (2 ^ 31)) refl
    where
      go : (b : Bool) → nat_lt t (2 ^ 31) ≡ b → Wrapped (negsuc n) (to_z w32 t)
      go true b =
          let l = ltb-true t (2 ^ 31) b in
          subst (Wrapped (negsuc n)) (sym (read_low l))
          (record {
            small = record { sfits = l };
            turns = negsuc q;
            same = sym (more t (suc q * 2 ^ 32) n (omega arith));
          })
      go false b =
          let l = ltb-false t (2 ^ 31) b in
          subst (Wrapped (negsuc n)) (sym (read_high l))
          (record {
            small = record { sfits = omega arith };
            turns = neg_ℤ (pos q);
            same =
                sym (ap (λ (u : ℤ). negsuc (2 ^ 32 - suc t) +ℤ u) (minus_times q (2 ^ 32)) ∙ deeper (2 ^ 32 - suc t) (q * 2 ^ 32) n (omega arith));
          })

turned : (z : ℤ) → Wrapped z (to_z w32 (mod_z z (2 ^ 32)))
unfolding mod_z
turned (pos n) = turned_up (n % 2 ^ 32) (mod-lt n (pow_pos 32)) n (n / 2 ^ 32) (sym (div-add-mod' n (2 ^ 32)))
turned (negsuc n) =
    let s = mod-lt n (pow_pos 32) in
    let d = div-add-mod' n (2 ^ 32) in
    turned_down (2 ^ 32 - suc (n % 2 ^ 32)) (omega arith) n (n / 2 ^ 32) (omega arith)

pub wrap_mod : (z : ℤ) → Wrapped z (wrap_w z)
unfolding wrap_w
wrap_mod z = turned z

-- the wrapping product and sum are the i32 that is a * b, or a + b, modulo 2 ^ 32
pub mul_w_mod : (a b : ℤ) → Wrapped (a *ℤ b) (mul_w a b)
unfolding mul_w wrap_w
mul_w_mod a b = turned (a *ℤ b)

pub add_w_mod : (a b : ℤ) → Wrapped (a +ℤ b) (add_w a b)
unfolding add_w wrap_w
add_w_mod a b = turned (a +ℤ b)

-- ---- the same from the bits: only the lowest 32 bits of the operands' bits count
same_rest : (a b j k : ℕ) → a + j * 2 ^ 32 ≡ b + k * 2 ^ 32 → a % 2 ^ 32 ≡ b % 2 ^ 32
same_rest a b j k e =
    sym (add-mul-mod_self_right a j (2 ^ 32)) ∙ ap (λ (u : ℕ). u % 2 ^ 32) e ∙ add-mul-mod_self_right b k (2 ^ 32)

minus_rest : (n r k : ℕ) → r + n ≡ k * 2 ^ 32 → mod_z (neg_ℤ (pos n)) (2 ^ 32) ≡ r % 2 ^ 32
unfolding mod_z
minus_rest zero r k e = same_rest 0 r k 0 (omega arith)
minus_rest (suc n) r k e =
    let s = mod-lt n (pow_pos 32) in
    let d = div-add-mod' n (2 ^ 32) in
    let f : r + suc (n / 2 ^ 32) * 2 ^ 32 ≡ 2 ^ 32 - suc (n % 2 ^ 32) + k * 2 ^ 32 = omega arith in
    sym (same_rest r (2 ^ 32 - suc (n % 2 ^ 32)) (suc (n / 2 ^ 32)) k f ∙ mod-eq_of_lt (omega arith))

-- x - y - 1
mixed_sum : (x y : ℕ) → y < 2 ^ 31 → (x + (2 ^ 32 - suc y)) % 2 ^ 32 ≡ mod_z (sub_ℕ x (suc y)) (2 ^ 32)
unfolding mod_z
mixed_sum x y h = go (nat_lt x (suc y)) refl
  where
    go : (b : Bool) → nat_lt x (suc y) ≡ b → (x + (2 ^ 32 - suc y)) % 2 ^ 32 ≡ mod_z (sub_ℕ x (suc y)) (2 ^ 32)
    go true b =
        let l = ltb-true x (suc y) b in
        sym (ap (λ (u : ℤ). mod_z u (2 ^ 32)) (sub_below x (suc y) (y - x) (omega arith)) ∙ minus_rest (suc (y - x)) (x + (2 ^ 32 - suc y)) 1 (omega arith))
    go false b =
        let l = ltb-false x (suc y) b in
        same_rest (x + (2 ^ 32 - suc y)) (x - suc y) 0 1 (omega arith)
        ∙ sym (ap (λ (u : ℤ). mod_z u (2 ^ 32)) (sub_at_least x (suc y) (x - suc y) (omega arith)))

-- x * (2 ^ 32 - y) + x * y
fill : (x y : ℕ) → y ≤ 2 ^ 32 → x * (2 ^ 32 - y) + x * y ≡ x * 2 ^ 32
fill x y h = sym (mul-add x (2 ^ 32 - y) y) ∙ ap (λ (u : ℕ). x * u) (omega arith)

pub sum_of_bits : (a b : ℤ) → FitsSigned w32 a → FitsSigned w32 b → (of_z w32 a + of_z w32 b) % 2 ^ 32 ≡ mod_z (a +ℤ b) (2 ^ 32)
unfolding mod_z
sum_of_bits (pos x) (pos y) f g = refl
sum_of_bits (pos x) (negsuc y) f g = mixed_sum x y g.sfits
sum_of_bits (negsuc x) (pos y) f g =
    ap (λ (u : ℕ). u % 2 ^ 32) (add_comm (2 ^ 32 - suc x) y) ∙ mixed_sum y x f.sfits
sum_of_bits (negsuc x) (negsuc y) f g =
    let p = f.sfits in
    let q = g.sfits in
    sym (minus_rest (suc (suc (x + y))) (2 ^ 32 - suc x + (2 ^ 32 - suc y)) 2 (omega arith))

pub product_of_bits : (a b : ℤ) → FitsSigned w32 a → FitsSigned w32 b → of_z w32 a * of_z w32 b % 2 ^ 32 ≡ mod_z (a *ℤ b) (2 ^ 32)
unfolding mod_z
product_of_bits (pos x) (pos y) f g = refl
product_of_bits (pos x) (negsuc y) f g =
    sym (minus_rest (x * suc y) (x * (2 ^ 32 - suc y)) x (fill x (suc y) (let q = g.sfits in omega arith)))
product_of_bits (negsuc x) (pos y) f g =
    let e : (2 ^ 32 - suc x) * y + suc x * y ≡ y * 2 ^ 32 =
    ap₂ ◌+◌ (mul_comm (2 ^ 32 - suc x) y) (mul_comm (suc x) y) ∙ fill y (suc x) (let p = f.sfits in omega arith) in
    sym (minus_rest (suc x * y) ((2 ^ 32 - suc x) * y) y e)
product_of_bits (negsuc x) (negsuc y) f g =
    let p = 2 ^ 32 - suc x in
    let q = 2 ^ 32 - suc y in
    let a : p * q + suc x * q ≡ q * 2 ^ 32 = ap₂ ◌+◌ (mul_comm p q) (mul_comm (suc x) q) ∙ fill q (suc x) (let h = f.sfits in omega arith) in
    let b : suc x * q + suc x * suc y ≡ suc x * 2 ^ 32 = fill (suc x) (suc y) (let h = g.sfits in omega arith) in
    same_rest (p * q) (suc x * suc y) (suc x) q (omega arith)

pub add_w_bits : (a b : ℤ) → FitsSigned w32 a → FitsSigned w32 b → to_z w32 ((of_z w32 a + of_z w32 b) % 2 ^ 32) ≡ add_w a b
unfolding add_w wrap_w
add_w_bits a b f g = ap (to_z w32) (sum_of_bits a b f g)

pub mul_w_bits : (a b : ℤ) → FitsSigned w32 a → FitsSigned w32 b → to_z w32 (of_z w32 a * of_z w32 b % 2 ^ 32) ≡ mul_w a b
unfolding mul_w wrap_w
mul_w_bits a b f g = ap (to_z w32) (product_of_bits a b f g)

-- ---- and it is the only such i32
rest_of : (z r k : ℤ) → FitsSigned w32 r → z ≡ r +ℤ k *ℤ pos (2 ^ 32) → mod_z z (2 ^ 32) ≡ of_z w32 r
unfolding mod_z
rest_of z (pos a) (pos k) f e =
    let s = f.sfits in
    ap (λ (u : ℤ). mod_z u (2 ^ 32)) e ∙ add-mul-mod_self_right a k (2 ^ 32) ∙ mod-eq_of_lt (omega arith)
rest_of z (pos a) (negsuc k) f e =
    let s = f.sfits in
    let c = suc k * 2 ^ 32 - suc a in
    let g : suc k * 2 ^ 32 ≡ a + suc c = omega arith in
    ap (λ (u : ℤ). mod_z u (2 ^ 32)) (e ∙ more a (suc k * 2 ^ 32) c g)
    ∙ minus_rest (suc c) a (suc k) (omega arith)
    ∙ mod-eq_of_lt (omega arith)
rest_of z (negsuc a) (pos zero) f e =
    let s = f.sfits in
    ap (λ (u : ℤ). mod_z u (2 ^ 32)) (e ∙ sub_below (zero * 2 ^ 32) (suc a) a (omega arith))
    ∙ ap (λ (u : ℕ). 2 ^ 32 - suc u) (mod-eq_of_lt (omega arith))
rest_of z (negsuc a) (pos (suc k)) f e =
    let s = f.sfits in
    let g : suc k * 2 ^ 32 ≡ suc a + (2 ^ 32 - suc a + k * 2 ^ 32) = omega arith in
    ap (λ (u : ℤ). mod_z u (2 ^ 32)) (e ∙ sub_at_least (suc k * 2 ^ 32) (suc a) (2 ^ 32 - suc a + k * 2 ^ 32) g)
    ∙ add-mul-mod_self_right (2 ^ 32 - suc a) k (2 ^ 32)
    ∙ mod-eq_of_lt (omega arith)
rest_of z (negsuc a) (negsuc k) f e =
    let s = f.sfits in
    ap (λ (u : ℤ). mod_z u (2 ^ 32)) (e ∙ deeper a (suc k * 2 ^ 32) (a + suc k * 2 ^ 32) refl)
    ∙ ap (λ (u : ℕ). 2 ^ 32 - suc u) (add-mul-mod_self_right a (suc k) (2 ^ 32) ∙ mod-eq_of_lt (omega arith))

pub wrap_only : {z r : ℤ} → Wrapped z r → r ≡ wrap_w z
unfolding wrap_w
wrap_only {z} {r} w = sym (ap (to_z w32) (rest_of z r w.turns w.small w.same) ∙ to_z-of_z w32 r w.small)
