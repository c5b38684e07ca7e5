-- A number rounded to an f32 and divided by 2 ^ 31 is that number's 2 ^ 31-th part, rounded once: the quotient of what was
-- rounded is exact. Assumes nothing.
use mathlib.Core.Path.{◌≡◌, refl, sym, ap, ap₂, ◌∙◌, subst}
use mathlib.Core.Logic.{inl, inr}
use mathlib.Core.Bool.{Bool, true, false, cond, true≢false}
use Prim.Native.Nat.{ℕ, zero, suc, ◌+◌, ◌-◌, ◌*◌, ◌/◌, ◌%◌, ◌^◌, ◌≤◌, ◌<◌, compare}
use native.Mathlib.Nat.{le_trans, eq-or-lt_of_le, zero-lt-suc, mul-one, one-mul, mul_assoc, mul_right_comm, mul-pos, eq_of_mul-eq-mul_right, div-div-eq-div-mul, mul-le-mul_right}
use native.Mathlib.Omega.{arith}
use lib.Dec.{T, lit<, lit≤}
use lib.IntN.{pos}
use lib.Pow.{pow-add, pow_pos}
use lib.Ieee.{Float, nan, inf, fin, Format, binary32, prec, low, up, down, size, round, div, of_int, fits, hid, top, to_bits, of_bits}
use lib.Ieee.Fits.{down_pos, kept-lt, nearest-le, round-fits}
use lib.Ieee.Bits.{of_bits-to_bits}
use lib.Ieee.Exact.{HasValue, round_exact}
use lib.Ieee.Nearest.{div_same}
use lib.Ieee.Order.{drop, kept, round_mono}
use lib.Ieee.Positive.{positive, between, positive-finite}
use lib.Ieee.Scale.{round_same, grid, overflow, finite, round_val, round_under, grid_scale, normal_of_fraction}

-- ---- a float is known by its sign and its size
abbrev bits_of : Format → Bool → ℕ → ℕ
bits_of f s n = cond s (top f) 0 + (size n - prec f) * hid f + n / 2 ^ (size n - prec f)

written : (f : Format) (x : Float) (s : Bool) (a c : ℕ) → 0 < c → HasValue x s a c
    → to_bits f x ≡ bits_of f s (a * 2 ^ low f / c)
unfolding to_bits
written f nan s a c C v = absurd v
written f (inf t) s a c C v = absurd v
written f (fin t m e) s a c C v =
    let l = 2 ^ low f in
    ap₂ (bits_of f) v.0
    (div_same (m * up e * l) (down e) (a * l) c (down_pos e) C
    (mul_right_comm (m * up e) l c ∙ ap (λ (z : ℕ). z * l) v.1 ∙ mul_right_comm a (down e) l))

same_value : (f : Format) (x y : Float) (s : Bool) (a c : ℕ) → 0 < c → T (fits f x) → T (fits f y)
    → HasValue x s a c → HasValue y s a c → x ≡ y
same_value f x y s a c C p q v w =
    sym (of_bits-to_bits f x p)
    ∙ ap (of_bits f) (written f x s a c C v ∙ sym (written f y s a c C w))
    ∙ of_bits-to_bits f y q

-- the same size by another fraction
pub rescaled : (x : Float) (s : Bool) (a c b d : ℕ) → 0 < c → b * c ≡ a * d → HasValue x s a c → HasValue x s b d
rescaled nan s a c b d C h v = v
rescaled (inf t) s a c b d C h v = v
rescaled (fin t m e) s a c b d C h v = (
  v.0,
  eq_of_mul-eq-mul_right c C (m * up e * d) (b * down e)
      (mul_right_comm (m * up e) d c
      ∙ ap (λ (z : ℕ). z * d) v.1
      ∙ mul_right_comm a (down e) d
      ∙ ap (λ (z : ℕ). z * down e) (sym h)
      ∙ mul_right_comm b c (down e)),
)

-- ---- the quotient by 2 ^ k
crossed : (x a c e p : ℕ) → x * c ≡ a * e → x * 1 * (c * p) ≡ a * (1 * p * e)
crossed x a c e p h =
    ap (λ (z : ℕ). z * (c * p)) (mul-one x)
    ∙ sym (mul_assoc x c p)
    ∙ ap (λ (z : ℕ). z * p) h
    ∙ mul_right_comm a e p
    ∙ mul_assoc a p e
    ∙ ap (λ (z : ℕ). a * (z * e)) (sym (one-mul p))

quotient : (f : Format) (x : Float) (a c k : ℕ) → 0 < c → HasValue x false a c
    → div f x (fin false 1 (pos k)) ≡ round f false a (c * 2 ^ k)
unfolding div
quotient f nan a c k C v = absurd v
quotient f (inf t) a c k C v = absurd v
quotient f (fin true m e) a c k C v = absurd (true≢false v.0)
quotient f (fin false m e) a c k C v =
    round_same f false (m * up e * 1) (1 * 2 ^ k * down e) a (c * 2 ^ k)
    (mul-pos (mul-pos (zero-lt-suc 0) (pow_pos k)) (down_pos e))
    (mul-pos C (pow_pos k))
    (crossed (m * up e) a c (down e) (2 ^ k) v.1)

-- ---- what is rounded has no more digits than the format keeps
kept_le : (p n den : ℕ) → kept p n den ≤ 2 ^ p
kept_le p n den =
    let k = drop p n den in
    let u = den * 2 ^ k in
    le_trans (nearest-le (n / u) (compare (n % u * 2) u))
    (subst (λ (z : ℕ). z < 2 ^ p) (div-div-eq-div-mul n den (2 ^ k)) (kept-lt p (n / den)))

digits : (a c : ℕ) → (q : ℕ) × (j : ℕ) × (q < 2 ^ 24) × (q * 2 ^ j ≡ grid binary32 a c)
digits a c =
    let n = a * 2 ^ 149 in
    let j = drop 24 n c in
    elim (eq-or-lt_of_le (kept_le 24 n c)) [
      | inl e ↦ (1, 24 + j, lit< tt, one-mul (2 ^ (24 + j)) ∙ pow-add 2 24 j ∙ ap (λ (z : ℕ). z * 2 ^ j) (sym e))
      | inr l ↦ (kept 24 n c, j, l, refl)
    ]

-- ---- between 1 and 2 ^ 32 nothing overflows
bounded : (n d : ℕ) → 0 < d → 0 < n → n ≤ 4294967296 → T (positive (round binary32 false 1 d))
    → T (positive (round binary32 false 4294967296 d)) → T (finite (round binary32 false n d))
bounded n d D N h p q =
    positive-finite (round binary32 false n d)
    (between (round binary32 false 1 d) (round binary32 false n d) (round binary32 false 4294967296 d) p q
    (round_mono binary32 1 d n d D D (mul-le-mul_right d N))
    (round_mono binary32 n d 4294967296 d D D (mul-le-mul_right d h)))

ends : T (positive (round binary32 false 1 1)) × T (positive (round binary32 false 4294967296 1))
    × T (positive (round binary32 false 1 2147483648)) × T (positive (round binary32 false 4294967296 2147483648))
unfolding round
ends = (tt, tt, tt, tt)

-- ---- n / 2 ^ 31, in units of the format's smallest value
abbrev part : ℕ → ℕ
part n = grid binary32 n 2147483648

abbrev scale : ℕ
scale = 2 ^ 149

part_under : (n : ℕ) → 0 < n → n ≤ 4294967296 → part n < overflow binary32
part_under n N h =
    round_under binary32 n 2147483648 (bounded n 2147483648 (lit< tt) N h ends.2 ends.3)

-- n rounded is 2 ^ 31 times its part rounded: as a fraction n is n * 2 ^ 31 / 2 ^ 31, and neither is subnormal
whole_is : (n : ℕ) → 0 < n → n ≤ 4294967296 → HasValue (round binary32 false n 1) false (part n * 2 ^ 31) scale
whole_is n N h =
    let wide = round binary32 false (n * 2 ^ 31) 2147483648 in
    let again : round binary32 false n 1 ≡ wide =
    round_same binary32 false n 1 (n * 2 ^ 31) 2147483648 (lit< tt) (lit< tt) (sym (mul-one (n * 2147483648))) in
    let fine : T (finite wide) =
    subst (λ (z : Float). T (finite z)) again (bounded n 1 (lit< tt) N h ends.0 ends.1) in
    let normal : 24 ≤ size (n * scale / 2147483648) =
    normal_of_fraction binary32 n 2147483648 (lit< tt) (le_trans (lit≤ tt) (mul-le-mul_right scale N)) in
    subst (λ (z : Float). HasValue z false (part n * 2 ^ 31) scale) (sym again)
    (subst (λ (z : ℕ). HasValue wide false z scale) (grid_scale binary32 n 2147483648 31 (lit< tt) normal)
    (round_val binary32 (n * 2 ^ 31) 2147483648 (round_under binary32 (n * 2 ^ 31) 2147483648 fine)))

-- so the quotient is exact
abbrev shared : ℕ → Float
shared n = round binary32 false (part n * 2 ^ 31) (scale * 2 ^ 31)

shared_is : (n : ℕ) → part n < overflow binary32 → HasValue (shared n) false (part n) scale
shared_is n under =
    let g = digits n 2147483648 in
    rescaled (shared n) false (part n * 2 ^ 31) (scale * 2 ^ 31) (part n) scale (mul-pos (pow_pos 149) (pow_pos 31))
    (sym (mul_assoc (part n) (2 ^ 31) scale))
    (round_exact binary32 false (part n * 2 ^ 31) (scale * 2 ^ 31) g.0 g.1 (mul-pos (pow_pos 149) (pow_pos 31)) g.2
    (subst (λ (z : ℕ). z < overflow binary32) (sym g.3) under)
    (mul_assoc (part n) (2 ^ 31) scale ∙ ap (λ (z : ℕ). z * (scale * 2 ^ 31)) (sym g.3)))

above_zero : (n : ℕ) → 0 < n → n ≤ 4294967296
    → round binary32 false n 2147483648 ≡ div binary32 (round binary32 false n 1) (fin false 1 (pos 31))
above_zero n N h =
    let under = part_under n N h in
    same_value binary32 (round binary32 false n 2147483648) (shared n) false (part n) scale (pow_pos 149)
    (round-fits binary32 false n 2147483648)
    (round-fits binary32 false (part n * 2 ^ 31) (scale * 2 ^ 31))
    (round_val binary32 n 2147483648 under)
    (shared_is n under)
    ∙ sym (quotient binary32 (round binary32 false n 1) (part n * 2 ^ 31) scale 31 (pow_pos 149) (whole_is n N h))

at_zero : round binary32 false 0 2147483648 ≡ div binary32 (of_int binary32 (pos 0)) (fin false 1 (pos 31))
unfolding round div of_int
at_zero = refl

of_int_is : (n : ℕ) → of_int binary32 (pos n) ≡ round binary32 false n 1
unfolding of_int
of_int_is n = refl

pub divided : (n : ℕ) → n < 4294967296
    → round binary32 false n 2147483648 ≡ div binary32 (of_int binary32 (pos n)) (fin false 1 (pos 31))
divided zero h = at_zero
divided (suc k) h =
    above_zero (suc k) (zero-lt-suc k) (omega arith)
    ∙ ap (λ (x : Float). div binary32 x (fin false 1 (pos 31))) (sym (of_int_is (suc k)))
