-- x + 2 ^ 23, for x from 0 to 2 ^ 23, is rounded to a whole number, the floor of the sum or the next. So (x + 2 ^ 23) - 2 ^ 23
-- is the floor of x or the next, and x - 2 ^ 23 + 2 ^ 23 serves for the negative ones. Assumes nothing.
use mathlib.Core.Path.{◌≡◌, refl, sym, ap, ap₂, ◌∙◌, subst}
use mathlib.Core.Logic.{◌⊎◌, inl, inr}
use Prim.Native.Nat.compare
use Prim.Native.Nat.{ℕ, zero, suc, ◌+◌, ◌-◌, ◌*◌, ◌/◌, ◌%◌, ◌^◌, ◌≤◌, ◌<◌, compare, Ordering, min}
use native.Mathlib.Nat.{mul-pos, mul-one, zero-mul, mul_comm, mul_assoc, mul_right_comm, suc-mul, mul-sub, add-mul-div_right, add-mul-mod_self_right, div-lt_iff_lt-mul, le-div_iff_mul-le, div-add-mod', mod-lt, mod-eq_of_lt, div-one, mod-one, eq_of_mul-eq-mul_right, lt_of_not-le, lt_of_lt_of_le, lt_of_le_of_lt, lt_irrefl, le_trans, le_of_eq, zero-lt-suc, mul-mod_left, mul-le-mul_right, mul-lt-mul_of_pos_right, pow-suc, div-mul-le_self, pos_of_ne-zero}
use native.Mathlib.Omega.{arith}
use mathlib.Core.Bool.{Bool, true, false, cond, ◌&&◌}
use lib.Dec.{T, ltb→lt, lit<, lit≤, ltb, eqb, leb, le→leb, lt→ltb, eqb→eq}
use lib.IntN.{ℤ, pos, negsuc, neg_ℤ}
use lib.Pow.{pow_pos, pow_mono}
use lib.Signed.{mag}
use lib.Ieee.{Float, nan, inf, fin, binary32, up, down, size, nearest, units, round, sum, add, sub, neg, lt, fits, of_int, to_signed, in_signed, whole, in_float}
use lib.Ieee.Fits.{core, round_is, down_pos, up_pos, and_l, and_r}
use lib.Ieee.Digits.{size-lt, size-le}
use lib.Ieee.Nearest.{closest, closest_same}
use lib.Ieee.Exact.{HasValue, units_val}
use lib.Ieee.Scale.{round_same}
use lib.Ieee.Back.{round_whole, positive_back, negative_back}
use borrow.Author.Tests.{ltb-true, ltb-false, lt-ltb, le-ltb, eq-eqb, ne_eqb}
use lib.Ieee.Casts.{to_signed_in}
use mir.Syntax.{w32}
use mir.ValLaws.{to_z-of_z}
use Rattle.basics.specs.Naturals.{minus_mul}
use Rattle.basics.specs.Words.{again}
use Rattle.num_core.specs.Num.{floor_q, floor₃₂, floor_i, to_i32}
use Rattle.num_float.proofs.Floats.{one_zero}
use Rattle.basics.specs.Bools.{clash}

-- ---- a float that is a whole number
pub record Is (y : Float) (s : Bool) (n : ℕ) : Type 0 where
  pub m' : ℕ
  pub e' : ℤ
  pub is : y ≡ fin s m' e'
  pub val : m' * up e' ≡ n * down e'

value : (y : Float) (s : Bool) (n c : ℕ) → 0 < c → HasValue y s (n * c) c → Is y s n
value nan s n c p v = absurd v
value (inf t) s n c p v = absurd v
value (fin t m e) s n c p v =
    record { m' = m; e' = e; is = ap (λ (b : Bool). fin b m e) v.0; val = eq_of_mul-eq-mul_right c p (m * up e) (n * down e) (v.1 ∙ mul_right_comm n c (down e)) }

pub whole_is : (s : Bool) (n : ℕ) → n ≤ 16777216 → Is (round binary32 s n 1) s n
whole_is s n h =
    value (round binary32 s n 1) s n 1 (zero-lt-suc 0) (subst (λ (k : ℕ). HasValue (round binary32 s n 1) s k 1) (sym (mul-one n)) (round_whole binary32 s n h))

-- ---- from 2 ^ 23 to 2 ^ 24 the format holds the whole numbers only
abbrev pub Near : ℕ → ℕ → ℕ → Type 0
Near n num den = (n ≡ num / den) ⊎ ((n ≡ suc (num / den)) × (num % den ≡ 0 → ⊥))

plus_bit : (q b : ℕ) → b < 2 → (q + b ≡ q) ⊎ (q + b ≡ suc q)
plus_bit q zero h = inl (omega arith)
plus_bit q (suc zero) h = inr (omega arith)
plus_bit q (suc (suc b)) h = absurd (omega arith)

closest_near : (num den : ℕ) → 0 < den → Near (closest num den) num den
closest_near num den p = go (num % den) refl
  where
    either : (o : Ordering) → (nearest (num / den) o ≡ num / den) ⊎ (nearest (num / den) o ≡ suc (num / den))
    either Ordering.lt = inl refl
    either Ordering.eq = plus_bit (num / den) (num / den % 2) (mod-lt (num / den) (zero-lt-suc 1))
    either Ordering.gt = inr refl

    above : (d : ℕ) → 0 < d → compare 0 d ≡ Ordering.lt
    above zero h = absurd (lt_irrefl 0 h)
    above (suc d) h = compare.zero-suc d

    go : (r : ℕ) → num % den ≡ r
        → (closest num den ≡ num / den) ⊎ ((closest num den ≡ suc (num / den)) × (num % den ≡ 0 → ⊥))
    go zero e =
        inl (ap (λ (r : ℕ). nearest (num / den) (compare (r * 2) den)) e ∙ ap (nearest (num / den)) (above den p))
    go (suc r) e = elim (either (compare (num % den * 2) den)) [
      | inl a ↦ inl a
      | inr b ↦ inr (b, (λ z. (let k : suc r ≡ 0 = sym e ∙ z in omega arith)))
    ]

size_is : (n : ℕ) → 2 ^ 172 ≤ n → n < 2 ^ 173 → size n - 24 ≡ 149
size_is n l h =
    let a = size-le n 173 h in
    let b : 172 < size n = lt_of_not-le (λ (g : size n ≤ 172). lt_irrefl n (lt_of_lt_of_le (size-lt n) (le_trans (pow_mono g) l))) in
    omega arith

pub rounded : (s : Bool) (num den : ℕ) → 0 < den → 8388608 * den ≤ num → num < 16777216 * den
    → (n : ℕ) × (Is (round binary32 s num den) s n × Near n num den)
rounded s num den p l h =
    let lo : 2 ^ 172 ≤ num * 2 ^ 149 / den =
    (le-div_iff_mul-le p).1 (le_trans (le_of_eq (sym (mul_right_comm 8388608 den (2 ^ 149)))) (mul-le-mul_right (2 ^ 149) l)) in
    let hi : num * 2 ^ 149 / den < 2 ^ 173 =
    (div-lt_iff_lt-mul p).1 (lt_of_lt_of_le (mul-lt-mul_of_pos_right h (pow_pos 149)) (le_of_eq (mul_right_comm 16777216 den (2 ^ 149)))) in
    let k : size (num * 2 ^ 149 / den) - 24 ≡ 149 = size_is (num * 2 ^ 149 / den) lo hi in
    let y = closest num den in
    let e : round binary32 s num den ≡ units binary32 s y 149 =
    round_is binary32 s num den ∙ ap (core binary32 s (num * 2 ^ 149) den) k
    ∙ ap (λ (q : ℕ). units binary32 s q 149) (closest_same (num * 2 ^ 149) (den * 2 ^ 149) num den (mul-pos p (pow_pos 149)) p (mul_right_comm num (2 ^ 149) den ∙ mul_assoc num den (2 ^ 149))) in
    let q : num / den < 16777216 = (div-lt_iff_lt-mul p).1 h in
    (y, (subst (λ (u : Float). Is u s y) (sym e) (value (units binary32 s y 149) s y (2 ^ 149) (pow_pos 149) (units_val binary32 s y 149 (small y q (closest_near num den p)))), closest_near num den p))
  where
    small : (y : ℕ) → num / den < 16777216 → Near y num den → y * 2 ^ 149 < 2 ^ 277
    small y q (inl e) =
        lt_of_le_of_lt (mul-le-mul_right (2 ^ 149) (let g : y ≤ 16777216 = omega arith in g)) (lit< tt)
    small y q (inr e) =
        lt_of_le_of_lt (mul-le-mul_right (2 ^ 149) (let f = e.0 in let g : y ≤ 16777216 = omega arith in g)) (lit< tt)

-- ---- what is taken off and put on again
-- n - b, of n * d / d and b * d / d
pub taken : (A d n b : ℕ) → 0 < d → A ≡ n * d → b ≤ n
    → sum binary32 false (A * 1) true (b * d) (d * 1) ≡ round binary32 false (n - b) 1
unfolding sum
taken A d n b p e h =
    let g : b * d ≤ n * d = mul-le-mul_right d h in
    let l : ltb (A * 1) (b * d) ≡ false = le-ltb (A * 1) (b * d) (omega arith) in
    let w : (A * 1 - b * d) * 1 ≡ (n - b) * (d * 1) =
    (let z = mul_comm (n - b) d in let v = mul-sub d n b in let x = mul_comm d n in let y = mul_comm d b in omega arith) in
    ap (λ (t : Bool). cond t (round binary32 true (b * d - A * 1) (d * 1)) (round binary32 false (A * 1 - b * d) (d * 1))) l
    ∙ round_same binary32 false (A * 1 - b * d) (d * 1) (n - b) 1 (omega arith) (zero-lt-suc 0) w

-- -n + b
pub given : (A d n b : ℕ) → 0 < d → A ≡ n * d → b ≤ n
    → sum binary32 true (A * 1) false (b * d) (d * 1) ≡ of_int binary32 (neg_ℤ (pos (n - b)))
unfolding sum of_int
given A d n b p e h = go (n - b) refl
  where
    g : b * d ≤ n * d
    g = mul-le-mul_right d h

    w : (A * 1 - b * d) * 1 ≡ (n - b) * (d * 1)
    w =
        let z = mul_comm (n - b) d in
        let v = mul-sub d n b in
        let x = mul_comm d n in
        let y = mul_comm d b in
        let k = g in
        omega arith

    way : (s t : Bool) → ltb (A * 1) (b * d) ≡ s → ltb (b * d) (A * 1) ≡ t
        → sum binary32 true (A * 1) false (b * d) (d * 1) ≡ cond s (round binary32 false (b * d - A * 1) (d * 1)) (round binary32 t (A * 1 - b * d) (d * 1))
    way s t i j =
        ap₂ (λ (u v : Bool). cond u (round binary32 false (b * d - A * 1) (d * 1)) (round binary32 v (A * 1 - b * d) (d * 1))) i j

    same : (t : Bool) → round binary32 t (A * 1 - b * d) (d * 1) ≡ round binary32 t (n - b) 1
    same t = round_same binary32 t (A * 1 - b * d) (d * 1) (n - b) 1 (omega arith) (zero-lt-suc 0) w

    no : ltb (A * 1) (b * d) ≡ false
    no = le-ltb (A * 1) (b * d) (let k = g in omega arith)

    go : (j : ℕ) → n - b ≡ j → sum binary32 true (A * 1) false (b * d) (d * 1) ≡ of_int binary32 (neg_ℤ (pos j))
    go zero z =
        way false false no (le-ltb (b * d) (A * 1) (let y : n ≡ b = omega arith in let x : n * d ≡ b * d = ap (λ (u : ℕ). u * d) y in omega arith))
        ∙ same false
        ∙ ap (λ (u : ℕ). round binary32 false u 1) z
    go (suc j) z =
        way false true no (lt-ltb (b * d) (A * 1) (let y : b * d < n * d = mul-lt-mul_of_pos_right (let v : b < n = omega arith in v) p in omega arith))
        ∙ same true
        ∙ ap (λ (u : ℕ). round binary32 true u 1) z

-- -n - 1
pub deeper : (A d n : ℕ) → 0 < d → A ≡ n * d
    → sum binary32 true (A * 1) true (1 * d) (d * 1) ≡ round binary32 true (suc n) 1
unfolding sum
deeper A d n p e =
    round_same binary32 true (A * 1 + 1 * d) (d * 1) (suc n) 1 (omega arith) (zero-lt-suc 0) (let v = suc-mul n d in let u : suc n * (d * 1) ≡ suc n * d = ap (λ (k : ℕ). suc n * k) (mul-one d) in omega arith)

-- ---- x = ±a / d against the whole number ±j
scaled : (a d j d'' A : ℕ) → A ≡ j * d'' → A * d ≡ j * d * d''
scaled a d j d'' A h = ap (λ (u : ℕ). u * d) h ∙ mul_right_comm j d'' d

pub pos_le : (m : ℕ) (e : ℤ) (j : ℕ) (t : Float) → Is t false j → j * down e ≤ m * up e → lt (fin false m e) t ≡ false
unfolding lt
pos_le m e j t w h =
    ap (lt (fin false m e)) w.is
    ∙ le-ltb (m * up e * down w.e') (w.m' * up w.e' * down e) (le_trans (le_of_eq (scaled 0 (down e) j (down w.e') (w.m' * up w.e') w.val)) (mul-le-mul_right (down w.e') h))

pub pos_lt : (m : ℕ) (e : ℤ) (j : ℕ) (t : Float) → Is t false j → m * up e < j * down e → lt (fin false m e) t ≡ true
unfolding lt
pos_lt m e j t w h =
    ap (lt (fin false m e)) w.is
    ∙ lt-ltb (m * up e * down w.e') (w.m' * up w.e' * down e) (lt_of_lt_of_le (mul-lt-mul_of_pos_right h (down_pos w.e')) (le_of_eq (sym (scaled 0 (down e) j (down w.e') (w.m' * up w.e') w.val))))

pub neg_lt : (m : ℕ) (e : ℤ) (j : ℕ) (t : Float) → Is t true j → j * down e < m * up e → lt (fin true m e) t ≡ true
unfolding lt
neg_lt m e j t w h =
    ap (lt (fin true m e)) w.is
    ∙ lt-ltb (w.m' * up w.e' * down e) (m * up e * down w.e') (lt_of_le_of_lt (le_of_eq (scaled 0 (down e) j (down w.e') (w.m' * up w.e') w.val)) (mul-lt-mul_of_pos_right h (down_pos w.e')))

pub neg_le : (m : ℕ) (e : ℤ) (j : ℕ) (t : Float) → Is t true j → m * up e ≤ j * down e → lt (fin true m e) t ≡ false
unfolding lt
neg_le m e j t w h =
    ap (lt (fin true m e)) w.is
    ∙ le-ltb (w.m' * up w.e' * down e) (m * up e * down w.e') (le_trans (mul-le-mul_right (down w.e') h) (le_of_eq (sym (scaled 0 (down e) j (down w.e') (w.m' * up w.e') w.val))))

-- x plus b, both of the sign s, from 2 ^ 23 to 2 ^ 24: the whole number n, which is b more than x cut to a whole number,
-- or the next where x has a fraction
abbrev Lifted : ℕ → Bool → ℕ → ℕ → Type 0
Lifted b s a d =
    (n : ℕ) × (Is (round binary32 s (a * 1 + b * d) (d * 1)) s n
    × ((n ≡ a / d + b) ⊎ ((n ≡ suc (a / d + b)) × (a % d ≡ 0 → ⊥))))

lifted : (b : ℕ) (s : Bool) (a d : ℕ) → 0 < d → 8388608 ≤ b → a + b * d < 16777216 * d → Lifted b s a d
lifted b s a d p l h =
    let g : 8388608 * d ≤ b * d = mul-le-mul_right d l in
    let r = rounded s (a * 1 + b * d) (d * 1) (omega arith) (omega arith) (omega arith) in
    let z : Near r.0 (a + b * d) d =
    subst (λ (D : ℕ). Near r.0 (a + b * d) D) (mul-one d)
    (subst (λ (N : ℕ). Near r.0 (N + b * d) (d * 1)) (mul-one a) r.1.1) in (
      r.0,
      (
        r.1.0,
        subst (λ (R : ℕ). (r.0 ≡ a / d + b) ⊎ ((r.0 ≡ suc (a / d + b)) × (R ≡ 0 → ⊥))) (add-mul-mod_self_right a b d)
            (subst (λ (Q : ℕ). (r.0 ≡ Q) ⊎ ((r.0 ≡ suc Q) × ((a + b * d) % d ≡ 0 → ⊥))) (add-mul-div_right a b p) z),
      ),
    )

cut_gt : (a d : ℕ) → 0 < d → a < suc (a / d) * d
cut_gt a d p = let h = div-add-mod' a d in let k = mod-lt a p in let v = suc-mul (a / d) d in omega arith

-- ---- x not negative: t is (x + b) - b, b = k * 2 ^ i
pub up_and_down : (k i m : ℕ) (e : ℤ) → Float
up_and_down k i m e = sub binary32 (add binary32 (fin false m e) (fin false k (pos i))) (fin false k (pos i))

pub above : (k i m : ℕ) (e : ℤ) → 8388608 ≤ k * 2 ^ i → m * up e + k * 2 ^ i * down e < 16777216 * down e
    → (lt (fin false m e) (up_and_down k i m e) ≡ true → sub binary32 (up_and_down k i m e) (fin false 1 (pos 0)) ≡ of_int binary32 (pos (m * up e / down e)))
    × (lt (fin false m e) (up_and_down k i m e) ≡ false → up_and_down k i m e ≡ of_int binary32 (pos (m * up e / down e)))
unfolding up_and_down add sub neg of_int sum
above k i m e l h = go (lifted b false a d (down_pos e) l h)
  where
    a : ℕ
    a = m * up e

    d : ℕ
    d = down e

    b : ℕ
    b = k * 2 ^ i

    q : ℕ
    q = a / d

    t : Float
    t = up_and_down k i m e

    qs : q < 8388608
    qs = (div-lt_iff_lt-mul (down_pos e)).1 (let g : 8388608 * d ≤ b * d = mul-le-mul_right d l in omega arith)

    t_is : (n j : ℕ) → Is (round binary32 false (a * 1 + b * d) (d * 1)) false n → n ≡ j + b
        → t ≡ round binary32 false j 1
    t_is n j w z =
        ap (λ (y : Float). sub binary32 y (fin false k (pos i))) w.is
        ∙ taken (w.m' * up w.e') (down w.e') n b (down_pos w.e') w.val (omega arith)
        ∙ ap (λ (u : ℕ). round binary32 false u 1) (let g : n - b ≡ j = omega arith in g)

    one_less : (j : ℕ) → Is t false (suc j) → sub binary32 t (fin false 1 (pos 0)) ≡ round binary32 false j 1
    one_less j w =
        ap (λ (y : Float). sub binary32 y (fin false 1 (pos 0))) w.is
        ∙ taken (w.m' * up w.e') (down w.e') (suc j) 1 (down_pos w.e') w.val (omega arith)
        ∙ ap (λ (u : ℕ). round binary32 false u 1) (let g : suc j - 1 ≡ j = omega arith in g)

    go : Lifted b false a d
        → (lt (fin false m e) t ≡ true → sub binary32 t (fin false 1 (pos 0)) ≡ of_int binary32 (pos q))
        × (lt (fin false m e) t ≡ false → t ≡ of_int binary32 (pos q))
    go (n, (w, inl z)) =
        let f = t_is n q w z in
        let g : Is t false q = subst (λ (y : Float). Is y false q) (sym f) (whole_is false q (let u = qs in omega arith)) in
        ((λ y. clash y (pos_le m e q t g (div-mul-le_self a d))), (λ y. f))
    go (n, (w, inr z)) =
        let f = t_is n (suc q) w (let u = z.0 in omega arith) in
        let g : Is t false (suc q) = subst (λ (y : Float). Is y false (suc q)) (sym f) (whole_is false (suc q) (let u = qs in omega arith)) in
        ((λ y. one_less q g), (λ y. clash (pos_lt m e (suc q) t g (cut_gt a d (down_pos e))) y))

-- ---- x negative, q its size cut to a whole number: t is -q, or -(q + 1) where x has a fraction
settle : (m : ℕ) (e : ℤ) (t : Float) → 0 < m * up e → m * up e / down e < 8388608
    → (t ≡ of_int binary32 (neg_ℤ (pos (m * up e / down e)))) ⊎ ((t ≡ of_int binary32 (negsuc (m * up e / down e))) × (m * up e % down e ≡ 0 → ⊥))
    → (lt (fin true m e) t ≡ true → sub binary32 t (fin false 1 (pos 0)) ≡ of_int binary32 (floor_q true (m * up e) (down e)))
    × (lt (fin true m e) t ≡ false → t ≡ of_int binary32 (floor_q true (m * up e) (down e)))
unfolding add sub neg of_int sum lt
settle m e t o qs way = go way (a % d) refl
  where
    a : ℕ
    a = m * up e

    d : ℕ
    d = down e

    q : ℕ
    q = a / d

    F : ℤ
    F = floor_q true a d

    Goal : Type 0
    Goal =
        (lt (fin true m e) t ≡ true → sub binary32 t (fin false 1 (pos 0)) ≡ of_int binary32 F)
        × (lt (fin true m e) t ≡ false → t ≡ of_int binary32 F)

    F-whole : a % d ≡ 0 → F ≡ neg_ℤ (pos q)
    F-whole r = ap (λ (b : Bool). neg_ℤ (pos (cond b q (suc q)))) (eq-eqb (a % d) 0 r)

    F-part : (a % d ≡ 0 → ⊥) → F ≡ negsuc q
    F-part r = ap (λ (b : Bool). neg_ℤ (pos (cond b q (suc q)))) (ne_eqb (a % d) 0 r)

    is_q : (j : ℕ) → q ≡ suc j → t ≡ of_int binary32 (neg_ℤ (pos q)) → Is t true (suc j)
    is_q j z i =
        subst (λ (y : Float). Is y true (suc j)) (sym (i ∙ ap (λ (k : ℕ). of_int binary32 (neg_ℤ (pos k))) z)) (whole_is true (suc j) (let g = qs in omega arith))

    -- a whole x: t is x
    even : (k : ℕ) → q ≡ k → a % d ≡ 0 → t ≡ of_int binary32 (neg_ℤ (pos q)) → Goal
    even zero z r i =
        absurd (let g = div-add-mod' a d in let y : q * d ≡ 0 * d = ap (λ (u : ℕ). u * d) z in let x = zero-mul d in let p = o in omega arith)
    even (suc j) z r i =
        let w = is_q j z i in
        let g : a ≤ suc j * d = (let y = div-add-mod' a d in let x : q * d ≡ suc j * d = ap (λ (u : ℕ). u * d) z in omega arith) in
        ((λ y. clash y (neg_le m e (suc j) t w g)), (λ y. i ∙ ap (of_int binary32) (sym (F-whole r))))

    -- one less than t
    odd : (k : ℕ) → q ≡ k → (a % d ≡ 0 → ⊥) → t ≡ of_int binary32 (neg_ℤ (pos q)) → Goal
    odd zero z r i =
        let t0 : t ≡ fin false 0 (pos 0) = i ∙ ap (λ (k : ℕ). of_int binary32 (neg_ℤ (pos k))) z in (
          (λ y. ap (λ (u : Float). sub binary32 u (fin false 1 (pos 0))) t0 ∙ ap (λ (k : ℕ). of_int binary32 (negsuc k)) (sym z) ∙ ap (of_int binary32) (sym (F-part r))),
          (λ y. clash (lt-ltb 0 (m * up e * 1 + 0 * down e) (let g = zero-mul d in let p = o in omega arith)) (subst (λ (u : Float). lt (fin true m e) u ≡ false) t0 y)),
        )
    odd (suc j) z r i =
        let w = is_q j z i in
        let g : suc j * d < a = (let y = div-add-mod' a d in let x : q * d ≡ suc j * d = ap (λ (u : ℕ). u * d) z in let k = pos_of_ne-zero r in omega arith) in (
          (λ y. ap (λ (u : Float). sub binary32 u (fin false 1 (pos 0))) w.is ∙ deeper (w.m' * up w.e') (down w.e') (suc j) (down_pos w.e') w.val ∙ ap (λ (k : ℕ). of_int binary32 (negsuc k)) (sym z) ∙ ap (of_int binary32) (sym (F-part r))),
          (λ y. clash (neg_lt m e (suc j) t w g) y),
        )

    go : (t ≡ of_int binary32 (neg_ℤ (pos q))) ⊎ ((t ≡ of_int binary32 (negsuc q)) × (a % d ≡ 0 → ⊥)) → (k : ℕ)
        → a % d ≡ k → Goal
    go (inl i) zero r = even q refl r i
    go (inl i) (suc k) r = odd q refl (λ y. (let g : suc k ≡ 0 = sym r ∙ y in omega arith)) i
    go (inr i) k r =
        let v : Is t true (suc q) = subst (λ (y : Float). Is y true (suc q)) (sym i.0) (whole_is true (suc q) (let g = qs in omega arith)) in
        let g = cut_gt a d (down_pos e) in
        ((λ y. clash y (neg_le m e (suc q) t v (omega arith))), (λ y. i.0 ∙ ap (of_int binary32) (sym (F-part i.1))))

-- ---- from -2 ^ 23 to 0: t is (x - 2 ^ 23) + 2 ^ 23
pub down_and_up : (m : ℕ) (e : ℤ) → Float
down_and_up m e = add binary32 (sub binary32 (fin true m e) (fin false 1 (pos 23))) (fin false 1 (pos 23))

pub below : (m : ℕ) (e : ℤ) → 0 < m * up e → m * up e < 8388608 * down e
    → (lt (fin true m e) (down_and_up m e) ≡ true → sub binary32 (down_and_up m e) (fin false 1 (pos 0)) ≡ of_int binary32 (floor_q true (m * up e) (down e)))
    × (lt (fin true m e) (down_and_up m e) ≡ false → down_and_up m e ≡ of_int binary32 (floor_q true (m * up e) (down e)))
unfolding down_and_up add sub neg sum
below m e o h =
    settle m e (down_and_up m e) o ((div-lt_iff_lt-mul (down_pos e)).1 h) (go (lifted 8388608 true a d (down_pos e) (lit≤ tt) (omega arith)))
  where
    a : ℕ
    a = m * up e

    d : ℕ
    d = down e

    q : ℕ
    q = a / d

    t : Float
    t = down_and_up m e

    t_is : (n j : ℕ) → Is (round binary32 true (a * 1 + 8388608 * d) (d * 1)) true n → n ≡ j + 8388608
        → t ≡ of_int binary32 (neg_ℤ (pos j))
    t_is n j w z =
        ap (λ (y : Float). add binary32 y (fin false 1 (pos 23))) w.is
        ∙ given (w.m' * up w.e') (down w.e') n 8388608 (down_pos w.e') w.val (omega arith)
        ∙ ap (λ (k : ℕ). of_int binary32 (neg_ℤ (pos k))) (let g : n - 8388608 ≡ j = omega arith in g)

    go : Lifted 8388608 true a d
        → (t ≡ of_int binary32 (neg_ℤ (pos q))) ⊎ ((t ≡ of_int binary32 (negsuc q)) × (a % d ≡ 0 → ⊥))
    go (n, (w, inl z)) = inl (t_is n q w z)
    go (n, (w, inr z)) = inr (t_is n (suc q) w (let g = z.0 in omega arith), z.1)

-- ---- the floor's integer
back : (F : ℤ) → mag F ≤ 8388608 → T (in_signed binary32 31 (of_int binary32 F)) × (to_signed 31 (of_int binary32 F) ≡ F)
unfolding in_float
back (pos n) h = positive_back binary32 31 n (le→leb n 16777216 (omega arith)) (omega arith)
back (negsuc n) h = negative_back binary32 31 n (lt→ltb n 16777216 (omega arith)) (omega arith)

floor_q_small : (s : Bool) (a d : ℕ) → 0 < d → a < 8388608 * d → mag (floor_q s a d) ≤ 8388608
floor_q_small false a d p h = let g : a / d < 8388608 = (div-lt_iff_lt-mul p).1 h in omega arith
floor_q_small true a d p h = go (eqb (a % d) 0)
  where
    g : a / d < 8388608
    g = (div-lt_iff_lt-mul p).1 h

    neg_small : (k : ℕ) → k ≤ 8388608 → mag (neg_ℤ (pos k)) ≤ 8388608
    neg_small zero h = omega arith
    neg_small (suc k) h = omega arith

    go : (b : Bool) → mag (neg_ℤ (pos (cond b (a / d) (suc (a / d))))) ≤ 8388608
    go true = neg_small (a / d) (let k = g in omega arith)
    go false = neg_small (suc (a / d)) g

pub floor_is : (s : Bool) (m : ℕ) (e : ℤ) → m * up e < 8388608 * down e
    → floor_i (fin s m e) ≡ floor_q s (m * up e) (down e)
unfolding floor_i to_i32 floor₃₂ to_signed
floor_is false m (pos k) h =
    let g : m * 2 ^ k / 1 < 8388608 = (div-lt_iff_lt-mul (zero-lt-suc 0)).1 h in
    ap pos (let z : min (m * 2 ^ k / 1) 2147483647 ≡ m * 2 ^ k / 1 = omega arith in z)
floor_is true m (pos k) h =
    let g : m * 2 ^ k / 1 < 8388608 = (div-lt_iff_lt-mul (zero-lt-suc 0)).1 h in
    ap (λ (c : ℕ). neg_ℤ (pos c)) (let z : min (m * 2 ^ k / 1) 2147483648 ≡ m * 2 ^ k / 1 = omega arith in z)
    ∙ ap (λ (b : Bool). neg_ℤ (pos (cond b (m * 2 ^ k / 1) (suc (m * 2 ^ k / 1))))) (sym (eq-eqb (m * 2 ^ k % 1) 0 (mod-one (m * 2 ^ k))))
floor_is s m (negsuc k) h =
    let g : m < 8388608 * 2 ^ suc k = omega arith in
    (back (floor_q s m (2 ^ suc k)) (floor_q_small s m (2 ^ suc k) (pow_pos (suc k)) g)).1
    ∙ ap (λ (a : ℕ). floor_q s a (2 ^ suc k)) (sym (mul-one m))

-- what a fast way answers: the float of the floor's integer, which casts back to it
pub record Fast (x g : Float) : Type 0 where
  pub float : g ≡ of_int binary32 (floor_i x)
  pub casts : T (in_signed binary32 31 g)
  pub int : to_signed 31 g ≡ floor_i x

fast : (s : Bool) (m : ℕ) (e : ℤ) (g : Float) → m * up e < 8388608 * down e
    → g ≡ of_int binary32 (floor_q s (m * up e) (down e)) → Fast (fin s m e) g
fast s m e g h i =
    let f = floor_is s m e h in
    let b = back (floor_q s (m * up e) (down e)) (floor_q_small s (m * up e) (down e) (down_pos e) h) in
    record { float = i ∙ ap (of_int binary32) (sym f); casts = subst (λ (u : Float). T (in_signed binary32 31 u)) (sym i) b.0; int = ap (to_signed 31) i ∙ b.1 ∙ sym f }

abbrev pub lift : Float → Float
lift x = sub binary32 (add binary32 x (fin false 1 (pos 23))) (fin false 1 (pos 23))

abbrev pub sink : Float → Float
sink x = add binary32 (sub binary32 x (fin false 1 (pos 23))) (fin false 1 (pos 23))

abbrev Both : Float → Float → Type 0
Both x t = (lt x t ≡ true → Fast x (sub binary32 t (fin false 1 (pos 0)))) × (lt x t ≡ false → Fast x t)

-- -0
fast_zero : Both (fin true 0 (pos 0)) (lift (fin true 0 (pos 0)))
unfolding lt add sub neg of_int floor_i to_i32 floor₃₂ to_signed in_signed whole
fast_zero = ((λ y. clash y refl), (λ y. record { float = refl; casts = tt; int = refl }))

pub fast_above : (x : Float) → T (fits binary32 x) → lt x (fin false 0 (pos 0)) ≡ false
    → lt x (fin false 1 (pos 23)) ≡ true → Both x (lift x)
unfolding lt up_and_down
fast_above nan f h k = clash k refl
fast_above (inf true) f h k = clash refl h
fast_above (inf false) f h k = clash k refl
fast_above (fin false m e) f h k =
    let g : m * up e < 8388608 * down e = (let z = ltb-true (m * up e * 1) (8388608 * down e) k in omega arith) in
    let b = above 1 23 m e (lit≤ tt) (omega arith) in
    ((λ y. fast false m e (sub binary32 (lift (fin false m e)) (fin false 1 (pos 0))) g (b.0 y)), (λ y. fast false m e (lift (fin false m e)) g (b.1 y)))
fast_above (fin true zero e) f h k =
    subst (λ (i : ℤ). Both (fin true zero i) (lift (fin true zero i))) (sym (one_zero true e f)) fast_zero
fast_above (fin true (suc m) e) f h k =
    let g = ltb-false 0 (suc m * up e * 1 + 0 * down e) h in
    let p = mul-pos (zero-lt-suc m) (up_pos e) in
    absurd (omega arith)

pub fast_below : (x : Float) → lt x (fin false 0 (pos 0)) ≡ true → lt (fin true 1 (pos 23)) x ≡ true → Both x (sink x)
unfolding lt down_and_up
fast_below nan h k = clash h refl
fast_below (inf true) h k = clash k refl
fast_below (inf false) h k = clash h refl
fast_below (fin true m e) h k =
    let g : m * up e < 8388608 * down e = (let z = ltb-true (m * up e * 1) (8388608 * down e) k in omega arith) in
    let o : 0 < m * up e = (let z = ltb-true 0 (m * up e * 1 + 0 * down e) h in let w = zero-mul (down e) in omega arith) in
    let b = below m e o g in
    ((λ y. fast true m e (sub binary32 (sink (fin true m e)) (fin false 1 (pos 0))) g (b.0 y)), (λ y. fast true m e (sink (fin true m e)) g (b.1 y)))
fast_below (fin false m e) h k =
    let z = ltb-true (m * up e * 1) (0 * down e) h in let w = zero-mul (down e) in absurd (omega arith)

-- ---- from -2 ^ 22 to 2 ^ 22, of either sign: t is (x + b) - b with b = 3 * 2 ^ 22
abbrev pub centre : Float → Float
centre x = sub binary32 (add binary32 x (fin false 3 (pos 22))) (fin false 3 (pos 22))

-- n - b, where n is the smaller
lacking : (A d n b : ℕ) → 0 < d → A ≡ n * d → n < b
    → sum binary32 false (A * 1) true (b * d) (d * 1) ≡ round binary32 true (b - n) 1
unfolding sum
lacking A d n b p e h =
    let g : n * d < b * d = mul-lt-mul_of_pos_right h p in
    let l : ltb (A * 1) (b * d) ≡ true = lt-ltb (A * 1) (b * d) (omega arith) in
    let v = minus_mul b n d in
    let w : (b * d - A * 1) * 1 ≡ (b - n) * (d * 1) = (let u : (b - n) * (d * 1) ≡ (b - n) * d = ap (λ (k : ℕ). (b - n) * k) (mul-one d) in omega arith) in
    ap (λ (t : Bool). cond t (round binary32 true (b * d - A * 1) (d * 1)) (round binary32 false (A * 1 - b * d) (d * 1))) l
    ∙ round_same binary32 true (b * d - A * 1) (d * 1) (b - n) 1 (omega arith) (zero-lt-suc 0) w

quot_rem : (c r d N : ℕ) → r < d → N ≡ r + c * d → (N / d ≡ c) × (N % d ≡ r)
quot_rem c r d N h e =
    let p : 0 < d = omega arith in
    let z : r / d ≡ 0 = (let g : r / d < 1 = (div-lt_iff_lt-mul p).1 (omega arith) in omega arith) in
    let y : r / d + c ≡ c = omega arith in
    (ap (λ (u : ℕ). u / d) e ∙ add-mul-div_right r c p ∙ y, ap (λ (u : ℕ). u % d) e ∙ add-mul-mod_self_right r c d ∙ mod-eq_of_lt h)

below_centre : (m : ℕ) (e : ℤ) → 0 < m * up e → m * up e < 4194304 * down e
    → (lt (fin true m e) (centre (fin true m e)) ≡ true → sub binary32 (centre (fin true m e)) (fin false 1 (pos 0)) ≡ of_int binary32 (floor_q true (m * up e) (down e)))
    × (lt (fin true m e) (centre (fin true m e)) ≡ false → centre (fin true m e) ≡ of_int binary32 (floor_q true (m * up e) (down e)))
unfolding add sub neg sum of_int
below_centre m e o h = settle m e t o (let g = qs in omega arith) (go (a % d) refl near)
  where
    a : ℕ
    a = m * up e

    d : ℕ
    d = down e

    q : ℕ
    q = a / d

    t : Float
    t = centre (fin true m e)

    N : ℕ
    N = 12582912 * d - a * 1

    p : 0 < d
    p = down_pos e

    qs : q < 4194304
    qs = (div-lt_iff_lt-mul (down_pos e)).1 h

    summed : add binary32 (fin true m e) (fin false 3 (pos 22)) ≡ round binary32 false N (d * 1)
    summed =
        ap (λ (b : Bool). cond b (round binary32 false N (d * 1)) (round binary32 (ltb (12582912 * d) (a * 1)) (a * 1 - 12582912 * d) (d * 1)))
        (lt-ltb (a * 1) (12582912 * d) (let z = p in omega arith))

    r : (n : ℕ) × (Is (round binary32 false N (d * 1)) false n × Near n N (d * 1))
    r = rounded false N (d * 1) (let z = p in omega arith) (omega arith) (let z = p in omega arith)

    n : ℕ
    n = r.0

    near : Near n N d
    near = subst (λ (D : ℕ). Near n N D) (mul-one d) r.1.1

    t_is : (j : ℕ) → n + j ≡ 12582912 → t ≡ of_int binary32 (neg_ℤ (pos j))
    t_is zero z =
        let w = r.1.0 in
        ap (λ (y : Float). sub binary32 y (fin false 3 (pos 22))) (summed ∙ w.is)
        ∙ taken (w.m' * up w.e') (down w.e') n 12582912 (down_pos w.e') w.val (omega arith)
        ∙ ap (λ (u : ℕ). round binary32 false u 1) (let g : n - 12582912 ≡ 0 = omega arith in g)
    t_is (suc j) z =
        let w = r.1.0 in
        ap (λ (y : Float). sub binary32 y (fin false 3 (pos 22))) (summed ∙ w.is)
        ∙ lacking (w.m' * up w.e') (down w.e') n 12582912 (down_pos w.e') w.val (omega arith)
        ∙ ap (λ (u : ℕ). round binary32 true u 1) (let g : 12582912 - n ≡ suc j = omega arith in g)

    go : (k : ℕ) → a % d ≡ k → Near n N d
        → (t ≡ of_int binary32 (neg_ℤ (pos q))) ⊎ ((t ≡ of_int binary32 (negsuc q)) × (a % d ≡ 0 → ⊥))
    go zero z w =
        let v = div-add-mod' a d in
        let u = minus_mul 12582912 q d in
        let l : q * d ≤ 12582912 * d = mul-le-mul_right d (let g = qs in omega arith) in
        let b = quot_rem (12582912 - q) 0 d N p (omega arith) in
        elim w [
          | inl y ↦ inl (t_is q (let f = b.0 in let g = qs in omega arith))
          | inr y ↦ absurd (y.1 b.1)
        ]
    go (suc k) z w =
        let v = div-add-mod' a d in
        let u = minus_mul 12582912 (suc q) d in
        let f = suc-mul q d in
        let l : suc q * d ≤ 12582912 * d = mul-le-mul_right d (let g = qs in omega arith) in
        let s = mod-lt a p in
        let b = quot_rem (12582912 - suc q) (d - suc k) d N (omega arith) (omega arith) in
        elim w [
          | inl y ↦ inr (t_is (suc q) (let x = b.0 in let g = qs in omega arith), (λ c. (let g : suc k ≡ 0 = sym z ∙ c in omega arith)))
          | inr y ↦ inl (t_is q (let x = b.0 in let g = qs in let i = y.0 in omega arith))
        ]

centre_zero : Both (fin true 0 (pos 0)) (centre (fin true 0 (pos 0)))
unfolding lt add sub neg of_int floor_i to_i32 floor₃₂ to_signed in_signed whole
centre_zero = ((λ y. clash y refl), (λ y. record { float = refl; casts = tt; int = refl }))

pub fast_centre : (x : Float) → T (fits binary32 x) → lt (fin true 1 (pos 22)) x ≡ true
    → lt x (fin false 1 (pos 22)) ≡ true → Both x (centre x)
unfolding lt up_and_down
fast_centre nan f h k = clash k refl
fast_centre (inf true) f h k = clash h refl
fast_centre (inf false) f h k = clash k refl
fast_centre (fin false m e) f h k =
    let g : m * up e < 4194304 * down e = (let z = ltb-true (m * up e * 1) (4194304 * down e) k in omega arith) in
    let l : m * up e < 8388608 * down e = omega arith in
    let b = above 3 22 m e (lit≤ tt) (omega arith) in
    ((λ y. fast false m e (sub binary32 (centre (fin false m e)) (fin false 1 (pos 0))) l (b.0 y)), (λ y. fast false m e (centre (fin false m e)) l (b.1 y)))
fast_centre (fin true zero e) f h k =
    subst (λ (i : ℤ). Both (fin true zero i) (centre (fin true zero i))) (sym (one_zero true e f)) centre_zero
fast_centre (fin true (suc m) e) f h k =
    let g : suc m * up e < 4194304 * down e = (let z = ltb-true (suc m * up e * 1) (4194304 * down e) h in omega arith) in
    let l : suc m * up e < 8388608 * down e = omega arith in
    let b = below_centre (suc m) e (mul-pos (zero-lt-suc m) (up_pos e)) g in
    ((λ y. fast true (suc m) e (sub binary32 (centre (fin true (suc m) e)) (fin false 1 (pos 0))) l (b.0 y)), (λ y. fast true (suc m) e (centre (fin true (suc m) e)) l (b.1 y)))

-- ---- from 2 ^ 23 on every f32 is whole
digits_24 : (s : Bool) (m : ℕ) (k : ℕ) → T (fits binary32 (fin s m (negsuc k))) → m < 16777216
unfolding fits
digits_24 s zero k t = lit< tt
digits_24 s (suc m) k t =
    ltb→lt (suc m) 16777216 (and_r (eqb (suc m % 2) 1) (ltb (suc m) 16777216) (and_l (eqb (suc m % 2) 1 && ltb (suc m) 16777216) (leb (2 ^ suc k) (2 ^ 149)) (and_l (eqb (suc m % 2) 1 && ltb (suc m) 16777216 && leb (2 ^ suc k) (2 ^ 149)) (ltb (suc m * 1) (2 ^ 128 * 2 ^ suc k)) t)))

pub far_above : (x : Float) → T (fits binary32 x) → lt x (fin false 0 (pos 0)) ≡ false
    → lt x (fin false 1 (pos 23)) ≡ false → to_i32 x ≡ floor_i x
unfolding floor_i floor₃₂ lt
far_above nan f h k = refl
far_above (inf s) f h k = refl
far_above (fin s m (pos i)) f h k = refl
far_above (fin false m (negsuc i)) f h k =
    let g = ltb-false (m * 1 * 1) (8388608 * 2 ^ suc i) k in
    let w = digits_24 false m i f in
    let p = pow_pos i in
    let v = pow-suc 2 i in
    absurd (omega arith)
far_above (fin true m (negsuc i)) f h k =
    let g = ltb-false 0 (m * 1 * 1 + 8388608 * 2 ^ suc i) k in let p = pow_pos (suc i) in absurd (omega arith)

pub far_below : (x : Float) → T (fits binary32 x) → lt x (fin false 0 (pos 0)) ≡ true
    → lt (fin true 1 (pos 23)) x ≡ false → to_i32 x ≡ floor_i x
unfolding floor_i floor₃₂ lt
far_below nan f h k = refl
far_below (inf s) f h k = refl
far_below (fin s m (pos i)) f h k = refl
far_below (fin true m (negsuc i)) f h k =
    let g = ltb-false (m * 1 * 1) (8388608 * 2 ^ suc i) k in
    let w = digits_24 true m i f in
    let p = pow_pos i in
    let v = pow-suc 2 i in
    absurd (omega arith)
far_below (fin false m (negsuc i)) f h k =
    let z = ltb-true (m * 1 * 1) (0 * 2 ^ suc i) h in let w = zero-mul (2 ^ suc i) in absurd (omega arith)

-- a floor's integer, as the machine reads it back
pub floor_again : {i : ℤ} (x : Float) → i ≡ floor_i x → again w32 i ≡ floor_i x
unfolding floor_i to_i32
floor_again x e = ap (again w32) e ∙ to_z-of_z w32 (floor_i x) (record { sfits = to_signed_in 31 (floor₃₂ x) })

-- ---- the floor as a float
-- m * 2 ^ -(k + 1) has a fraction, m being odd
fraction : (s : Bool) (m k : ℕ) → T (fits binary32 (fin s m (negsuc k))) → m % 2 ^ suc k ≡ 0 → ⊥
unfolding fits
fraction s zero k t z = let h = eqb→eq (1 * 2 ^ suc k) 1 t in let p = pow_pos k in let g = pow-suc 2 k in omega arith
fraction s (suc m) k t z =
    let o =
    eqb→eq (suc m % 2) 1 (and_l (eqb (suc m % 2) 1) (ltb (suc m) 16777216) (and_l (eqb (suc m % 2) 1 && ltb (suc m) 16777216) (leb (2 ^ suc k) (2 ^ 149)) (and_l (eqb (suc m % 2) 1 && ltb (suc m) 16777216 && leb (2 ^ suc k) (2 ^ 149)) (ltb (suc m * 1) (2 ^ 128 * 2 ^ suc k)) t))) in
    let d = div-add-mod' (suc m) (2 ^ suc k) in
    let g : suc m / 2 ^ suc k * 2 ^ suc k ≡ suc m / 2 ^ suc k * 2 ^ k * 2 =
    ap (λ (u : ℕ). suc m / 2 ^ suc k * u) (pow-suc 2 k) ∙ sym (mul_assoc (suc m / 2 ^ suc k) (2 ^ k) 2) in
    let e : suc m ≡ suc m / 2 ^ suc k * 2 ^ k * 2 = omega arith in
    let r : suc m % 2 ≡ 0 = ap (λ (u : ℕ). u % 2) e ∙ mul-mod_left (suc m / 2 ^ suc k * 2 ^ k) 2 in
    omega arith

left_of : (m : ℕ) (e : ℤ) (j : ℕ) (t : Float) (w : Is t false j)
    → (j * down e < m * up e → lt t (fin false m e) ≡ true) × (m * up e ≤ j * down e → lt t (fin false m e) ≡ false)
unfolding lt
left_of m e j t w =
    let z = scaled 0 (down e) j (down w.e') (w.m' * up w.e') w.val in (
      (λ h. ap (λ (u : Float). lt u (fin false m e)) w.is ∙ lt-ltb (w.m' * up w.e' * down e) (m * up e * down w.e') (lt_of_le_of_lt (le_of_eq z) (mul-lt-mul_of_pos_right h (down_pos w.e')))),
      (λ h. ap (λ (u : Float). lt u (fin false m e)) w.is ∙ le-ltb (w.m' * up w.e' * down e) (m * up e * down w.e') (le_trans (mul-le-mul_right (down w.e') h) (le_of_eq (sym z)))),
    )

left_of_neg : (m : ℕ) (e : ℤ) (j : ℕ) (t : Float) (w : Is t true j)
    → (m * up e < j * down e → lt t (fin true m e) ≡ true) × (j * down e ≤ m * up e → lt t (fin true m e) ≡ false)
unfolding lt
left_of_neg m e j t w =
    let z = scaled 0 (down e) j (down w.e') (w.m' * up w.e') w.val in (
      (λ h. ap (λ (u : Float). lt u (fin true m e)) w.is ∙ lt-ltb (m * up e * down w.e') (w.m' * up w.e' * down e) (lt_of_lt_of_le (mul-lt-mul_of_pos_right h (down_pos w.e')) (le_of_eq (sym z)))),
      (λ h. ap (λ (u : Float). lt u (fin true m e)) w.is ∙ le-ltb (m * up e * down w.e') (w.m' * up w.e' * down e) (le_trans (le_of_eq z) (mul-le-mul_right (down w.e') h))),
    )

abbrev Floored : Float → Type 0
Floored x =
    (lt (of_int binary32 (floor_i x)) x ≡ true → of_int binary32 (floor_i x) ≡ floor₃₂ x) × (lt (of_int binary32 (floor_i x)) x ≡ false → x ≡ floor₃₂ x)

-- of a whole x, the test fails
whole_x : (s : Bool) (m k : ℕ) → m * 2 ^ k < 8388608
    → lt (of_int binary32 (floor_q s (m * 2 ^ k) 1)) (fin s m (pos k)) ≡ false
unfolding of_int lt
whole_x false m k h =
    let d = div-one (m * 2 ^ k) in
    (left_of m (pos k) (m * 2 ^ k / 1) (round binary32 false (m * 2 ^ k / 1) 1) (whole_is false (m * 2 ^ k / 1) (omega arith))).1 (omega arith)
whole_x true m k h =
    subst (λ (F : ℤ). lt (of_int binary32 F) (fin true m (pos k)) ≡ false) (sym (ap (λ (b : Bool). neg_ℤ (pos (cond b (m * 2 ^ k / 1) (suc (m * 2 ^ k / 1))))) (eq-eqb (m * 2 ^ k % 1) 0 (mod-one (m * 2 ^ k))) ∙ ap (λ (c : ℕ). neg_ℤ (pos c)) (div-one (m * 2 ^ k))))
    (go (m * 2 ^ k) refl)
  where
    go : (a : ℕ) → m * 2 ^ k ≡ a → lt (of_int binary32 (neg_ℤ (pos a))) (fin true m (pos k)) ≡ false
    go zero e = refl
    go (suc a) e =
        (left_of_neg m (pos k) (suc a) (round binary32 true (suc a) 1) (whole_is true (suc a) (omega arith))).1 (omega arith)

-- of one with a fraction, it holds
part_x : (s : Bool) (m k : ℕ) → (m % 2 ^ suc k ≡ 0 → ⊥) → m < 8388608 * 2 ^ suc k
    → lt (of_int binary32 (floor_q s m (2 ^ suc k))) (fin s m (negsuc k)) ≡ true
unfolding of_int
part_x false m k r h =
    let d = 2 ^ suc k in
    let q : m / d < 8388608 = (div-lt_iff_lt-mul (pow_pos (suc k))).1 h in
    (left_of m (negsuc k) (m / d) (round binary32 false (m / d) 1) (whole_is false (m / d) (omega arith))).0 (let v = div-add-mod' m d in let p = pos_of_ne-zero r in omega arith)
part_x true m k r h =
    let d = 2 ^ suc k in
    let q : m / d < 8388608 = (div-lt_iff_lt-mul (pow_pos (suc k))).1 h in
    let g = cut_gt m d (pow_pos (suc k)) in
    subst (λ (F : ℤ). lt (of_int binary32 F) (fin true m (negsuc k)) ≡ true) (sym (ap (λ (b : Bool). neg_ℤ (pos (cond b (m / d) (suc (m / d))))) (ne_eqb (m % d) 0 r)))
    ((left_of_neg m (negsuc k) (suc (m / d)) (round binary32 true (suc (m / d)) 1) (whole_is true (suc (m / d)) (omega arith))).0 (omega arith))

in_23 : (s : Bool) (m : ℕ) (e : ℤ) → lt (fin true 1 (pos 23)) (fin s m e) ≡ true
    → lt (fin s m e) (fin false 1 (pos 23)) ≡ true → m * up e < 8388608 * down e
unfolding lt
in_23 false m e h k = let g = ltb-true (m * up e * 1) (8388608 * down e) k in omega arith
in_23 true m e h k = let g = ltb-true (m * up e * 1) (8388608 * down e) h in omega arith

pub floor_part_is : (x : Float) → T (fits binary32 x) → lt (fin true 1 (pos 23)) x ≡ true
    → lt x (fin false 1 (pos 23)) ≡ true → Floored x
unfolding floor₃₂ lt
floor_part_is nan f h k = clash h refl
floor_part_is (inf true) f h k = clash h refl
floor_part_is (inf false) f h k = clash k refl
floor_part_is (fin s m (pos i)) f h k =
    let g = in_23 s m (pos i) h k in
    let e : of_int binary32 (floor_i (fin s m (pos i))) ≡ of_int binary32 (floor_q s (m * 2 ^ i) 1) = ap (of_int binary32) (floor_is s m (pos i) g) in
    ((λ y. clash y (ap (λ (u : Float). lt u (fin s m (pos i))) e ∙ whole_x s m i (let w : m * 2 ^ i < 8388608 * 1 = g in omega arith))), (λ y. refl))
floor_part_is (fin s m (negsuc i)) f h k =
    let g = in_23 s m (negsuc i) h k in
    let l : m < 8388608 * 2 ^ suc i = (let w : m * 1 < 8388608 * 2 ^ suc i = g in omega arith) in
    let e : of_int binary32 (floor_i (fin s m (negsuc i))) ≡ of_int binary32 (floor_q s m (2 ^ suc i)) =
    ap (of_int binary32) (floor_is s m (negsuc i) g ∙ ap (λ (a : ℕ). floor_q s a (2 ^ suc i)) (mul-one m)) in
    ((λ y. e), (λ y. clash (ap (λ (u : Float). lt u (fin s m (negsuc i))) e ∙ part_x s m i (fraction s m i f) l) y))

pub floor_far_above : (x : Float) → T (fits binary32 x) → lt x (fin false 1 (pos 23)) ≡ false → x ≡ floor₃₂ x
unfolding floor₃₂ lt
floor_far_above nan f k = refl
floor_far_above (inf s) f k = refl
floor_far_above (fin s m (pos i)) f k = refl
floor_far_above (fin false m (negsuc i)) f k =
    let g = ltb-false (m * 1 * 1) (8388608 * 2 ^ suc i) k in
    let w = digits_24 false m i f in
    let p = pow_pos i in
    let v = pow-suc 2 i in
    absurd (omega arith)
floor_far_above (fin true m (negsuc i)) f k =
    let g = ltb-false 0 (m * 1 * 1 + 8388608 * 2 ^ suc i) k in let p = pow_pos (suc i) in absurd (omega arith)

pub floor_far_below : (x : Float) → T (fits binary32 x) → lt (fin true 1 (pos 23)) x ≡ false → x ≡ floor₃₂ x
unfolding floor₃₂ lt
floor_far_below nan f k = refl
floor_far_below (inf s) f k = refl
floor_far_below (fin s m (pos i)) f k = refl
floor_far_below (fin true m (negsuc i)) f k =
    let g = ltb-false (m * 1 * 1) (8388608 * 2 ^ suc i) k in
    let w = digits_24 true m i f in
    let p = pow_pos i in
    let v = pow-suc 2 i in
    absurd (omega arith)
floor_far_below (fin false m (negsuc i)) f k =
    let g = ltb-false 0 (8388608 * 2 ^ suc i + m * 1 * 1) k in let p = pow_pos (suc i) in absurd (omega arith)
