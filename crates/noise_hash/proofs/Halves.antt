-- The halves of a 32-bit number as the digits behind a power of two: what the two patterns stand for, and that their sum,
-- the powers taken off, is the number's 2 ^ 31-th part, rounded once. Assumes nothing.
use mathlib.Core.Path.{◌≡◌, refl, sym, ap, ap₂, ◌∙◌, subst}
use mathlib.Core.Bool.{Bool, true, false, not, ◌&&◌, cond, beq}
use Prim.Native.Nat.{ℕ, suc, ◌+◌, ◌-◌, ◌*◌, ◌/◌, ◌%◌, ◌^◌, ◌≤◌, ◌<◌}
use native.Mathlib.Nat.{le_of_eq, le_trans, lt_of_le_of_lt, lt_of_lt_of_le, add-mul, mul_comm, mul_assoc, mul_right_comm, mul-pos, mul-lt-mul_of_pos_right, mul-le-mul_right, le_of_mul-le-mul_right, lt_of_mul-lt-mul_right, mod-eq_of_lt, div-add-mod'}
use native.Mathlib.Omega.{arith}
use lib.Arith.{lt→nleb, digits_div, digits_mod}
use lib.Dec.{T, leb, ltb, eqb, eqb→eq, not_T, lit<, lit≤}
use lib.IntN.{negsuc}
use lib.Pow.{pow_pos}
use lib.Ieee.{Float, nan, inf, fin, binary32, up, down, odd, round, sum, add, sub, of_fields, of_bits, is_nan, nan_bits}
use lib.Ieee.Fits.{down_pos}
use lib.Ieee.Bits.{is_false, cond_no, nan_bits_is}
use lib.Ieee.Exact.{HasValue, odd_sign, round_exact}
use lib.Ieee.Scale.{round_same}
use borrow.Author.Tests.{ltb-true, ltb-false, lt-ltb, le-ltb}
use Rattle.basics.specs.Naturals.{minus_mul}
use Rattle.noise_hash.proofs.Scaled.{rescaled}

-- ---- a pattern with an exponent's field of x + 1 and the digits t
of_bits_is : (b : ℕ)
    → of_bits binary32 b ≡ of_fields binary32 (leb 2147483648 b) (b % 2147483648 / 8388608) (b % 8388608)
unfolding of_bits
of_bits_is b = refl

differ : (x : ℕ) → x < 254 → suc x ≡ 255 → ⊥
differ x h e = omega arith

fields_is : (x t : ℕ) → x < 254 → of_fields binary32 false (suc x) t ≡ odd 24 false (8388608 + t) x 149
unfolding of_fields
fields_is x t h =
    cond_no (eqb (suc x) 255) (cond (eqb t 0) (inf false) nan) (odd 24 false (8388608 + t) x 149)
    (not_T (eqb (suc x) 255) (λ (u : T (eqb (suc x) 255)). differ x h (eqb→eq (suc x) 255 u)))

pattern : (x t : ℕ) → x < 254 → t < 8388608
    → HasValue (of_bits binary32 (suc x * 8388608 + t)) false ((8388608 + t) * 2 ^ x) (2 ^ 149)
pattern x t X H =
    let b = suc x * 8388608 + t in
    let small : b < 2147483648 = omega arith in
    let field : b % 2147483648 / 8388608 ≡ suc x =
    ap (λ (z : ℕ). z / 8388608) (mod-eq_of_lt small) ∙ digits_div (suc x) H in
    let is : of_bits binary32 b ≡ odd 24 false (8388608 + t) x 149 =
    of_bits_is b
    ∙ ap (λ (s : Bool). of_fields binary32 s (b % 2147483648 / 8388608) (b % 8388608)) (is_false (leb 2147483648 b) (lt→nleb 2147483648 b small))
    ∙ ap₂ (of_fields binary32 false) field (digits_mod (suc x) H)
    ∙ fields_is x t X in
    subst (λ (y : Float). HasValue y false ((8388608 + t) * 2 ^ x) (2 ^ 149)) (sym is) (odd_sign 24 false (8388608 + t) x 149)

no_nan : (y : Float) (a c : ℕ) → HasValue y false a c → T (not (is_nan y))
unfolding is_nan
no_nan nan a c v = absurd v
no_nan (inf s) a c v = tt
no_nan (fin s m e) a c v = tt

pattern_ok : (x t : ℕ) → x < 254 → t < 8388608 → T (not (nan_bits binary32 (suc x * 8388608 + t)))
pattern_ok x t X H =
    subst (λ (b : Bool). T (not b)) (sym (nan_bits_is binary32 (suc x * 8388608 + t)))
    (no_nan (of_bits binary32 (suc x * 8388608 + t)) ((8388608 + t) * 2 ^ x) (2 ^ 149) (pattern x t X H))

wide : (t : ℕ) → t < 65536 → t < 8388608
wide t h = omega arith

-- 2 ^ 8 + t / 2 ^ 15, and 2 ^ -8 + t / 2 ^ 31
pub high_ok : (t : ℕ) → t < 65536 → T (not (nan_bits binary32 (1132462080 + t)))
high_ok t h = pattern_ok 134 t (lit< tt) (wide t h)

pub low_ok : (t : ℕ) → t < 65536 → T (not (nan_bits binary32 (998244352 + t)))
low_ok t h = pattern_ok 118 t (lit< tt) (wide t h)

high_is : (t : ℕ) → t < 65536 → HasValue (of_bits binary32 (1132462080 + t)) false ((8388608 + t) * 65536) 2147483648
high_is t h =
    rescaled (of_bits binary32 (1132462080 + t)) false ((8388608 + t) * 2 ^ 134) (2 ^ 149) ((8388608 + t) * 65536) 2147483648 (pow_pos 149)
    (mul_assoc (8388608 + t) 65536 (2 ^ 149) ∙ sym (mul_assoc (8388608 + t) (2 ^ 134) 2147483648))
    (pattern 134 t (lit< tt) (wide t h))

low_is : (t : ℕ) → t < 65536 → HasValue (of_bits binary32 (998244352 + t)) false (8388608 + t) 2147483648
low_is t h =
    rescaled (of_bits binary32 (998244352 + t)) false ((8388608 + t) * 2 ^ 118) (2 ^ 149) (8388608 + t) 2147483648 (pow_pos 149)
    (sym (mul_assoc (8388608 + t) (2 ^ 118) 2147483648))
    (pattern 118 t (lit< tt) (wide t h))

-- ---- a sum goes by the values
same_test : (A B D a b c : ℕ) → 0 < D → 0 < c → A * c ≡ a * D → B * c ≡ b * D → ltb A B ≡ ltb a b
same_test A B D a b c P C p q = go (ltb a b) refl
  where
    go : (t : Bool) → ltb a b ≡ t → ltb A B ≡ t
    go true e =
        lt-ltb A B
        (lt_of_mul-lt-mul_right c
        (lt_of_le_of_lt (le_of_eq p)
        (lt_of_lt_of_le (mul-lt-mul_of_pos_right (ltb-true a b e) P) (le_of_eq (sym q)))))
    go false e =
        le-ltb A B
        (le_of_mul-le-mul_right (le_trans (le_of_eq q) (le_trans (mul-le-mul_right D (ltb-false a b e)) (le_of_eq (sym p)))) C)

same_sum : (s t : Bool) (A B D a b c : ℕ) → 0 < D → 0 < c → A * c ≡ a * D → B * c ≡ b * D
    → sum binary32 s A t B D ≡ sum binary32 s a t b c
unfolding sum
same_sum s t A B D a b c P C p q =
    let whole : (A + B) * c ≡ (a + b) * D = add-mul A B c ∙ ap₂ ◌+◌ p q ∙ sym (add-mul a b D) in
    let over : (B - A) * c ≡ (b - a) * D = minus_mul B A c ∙ ap₂ ◌-◌ q p ∙ sym (minus_mul b a D) in
    let under : (A - B) * c ≡ (a - b) * D = minus_mul A B c ∙ ap₂ ◌-◌ p q ∙ sym (minus_mul a b D) in
    let rest : (u v : Bool) → Float =
    λ (u v : Bool). cond u (round binary32 t (b - a) c) (round binary32 (s && v) (a - b) c) in
    ap₂ (cond (beq s t)) (round_same binary32 s (A + B) D (a + b) c P C whole)
    (ap₂ (cond (ltb A B)) (round_same binary32 t (B - A) D (b - a) c P C over) (round_same binary32 (s && ltb B A) (A - B) D (a - b) c P C under)
    ∙ ap₂ rest (same_test A B D a b c P C p q) (same_test B A D b a c P C q p))

crossed : (x d e a c : ℕ) → x * c ≡ a * e → x * d * c ≡ a * (e * d)
crossed x d e a c h = mul_right_comm x d c ∙ ap (λ (z : ℕ). z * d) h ∙ mul_assoc a e d

sums : (x y : Float) (s t : Bool) (a b c : ℕ) → 0 < c → HasValue x s a c → HasValue y t b c
    → add binary32 x y ≡ sum binary32 s a t b c
unfolding add
sums nan y s t a b c C v w = absurd v
sums (inf u) y s t a b c C v w = absurd v
sums (fin u m e) nan s t a b c C v w = absurd w
sums (fin u m e) (inf r) s t a b c C v w = absurd w
sums (fin u m e) (fin r n d) s t a b c C v w =
    ap₂ (λ (i j : Bool). sum binary32 i (m * up e * down d) j (n * up d * down e) (down e * down d)) v.0 w.0
    ∙ same_sum s t (m * up e * down d) (n * up d * down e) (down e * down d) a b c (mul-pos (down_pos e) (down_pos d)) C
    (crossed (m * up e) (down d) (down e) a c v.1)
    (crossed (n * up d) (down e) (down d) b c w.1 ∙ ap (λ (z : ℕ). b * z) (mul_comm (down d) (down e)))

-- ---- the powers off: 549764202496 / 2 ^ 31 is 2 ^ 8 + 2 ^ -8
abbrev pub fewer : ℕ → Float
fewer t = sub binary32 (of_bits binary32 (1132462080 + t)) (of_bits binary32 1132462208)

fewer_is : (t : ℕ) → t < 65536 → fewer t ≡ sum binary32 false ((8388608 + t) * 65536) true 549764202496 2147483648
unfolding sub of_bits
fewer_is t h =
    sums (of_bits binary32 (1132462080 + t)) (fin true 65537 (negsuc 7)) false true ((8388608 + t) * 65536) 549764202496 2147483648 (lit< tt) (high_is t h) (refl, refl)

-- a whole number of 2 ^ -15 below 2 ^ 9 is held exactly
held : (s : Bool) (q : ℕ) → q < 16777216 → HasValue (round binary32 s (q * 65536) 2147483648) s (q * 65536) 2147483648
held s q h =
    round_exact binary32 s (q * 65536) 2147483648 q 134 (lit< tt) h
    (lt_of_lt_of_le (mul-lt-mul_of_pos_right h (pow_pos 134)) (lit≤ tt))
    (mul_assoc q 65536 (2 ^ 149) ∙ sym (mul_assoc q (2 ^ 134) 2147483648))

-- ---- which way a difference goes
taken : (a b c m : ℕ) → b ≤ a → a - b ≡ m → sum binary32 false a true b c ≡ round binary32 false m c
unfolding sum
taken a b c m h e =
    ap (λ (t : Bool). cond t (round binary32 true (b - a) c) (round binary32 false (a - b) c)) (le-ltb a b h)
    ∙ ap (λ (z : ℕ). round binary32 false z c) e

short : (a b c m : ℕ) → a < b → b - a ≡ m → sum binary32 false a true b c ≡ round binary32 true m c
unfolding sum
short a b c m h e =
    ap (λ (t : Bool). cond t (round binary32 true (b - a) c) (round binary32 false (a - b) c)) (lt-ltb a b h)
    ∙ ap (λ (z : ℕ). round binary32 true z c) e

-- where both are as large the sum is 0, not -0
made_up : (a b c m : ℕ) → a ≤ b → b - a ≡ m → sum binary32 true a false b c ≡ round binary32 false m c
unfolding sum
made_up a b c m h e = go (ltb a b) refl
  where
    go : (t : Bool) → ltb a b ≡ t
        → cond t (round binary32 false (b - a) c) (round binary32 (ltb b a) (a - b) c) ≡ round binary32 false m c
    go true s = ap (λ (z : ℕ). round binary32 false z c) e
    go false s =
        let back : b ≤ a = ltb-false a b s in
        ap₂ (λ (t : Bool) (z : ℕ). round binary32 t z c) (le-ltb b a h) (omega arith)

put : (a b c m : ℕ) → a + b ≡ m → sum binary32 false a false b c ≡ round binary32 false m c
unfolding sum
put a b c m e = ap (λ (z : ℕ). round binary32 false z c) e

-- ---- the sum of the halves
joined : (t l : ℕ) → t < 65536 → l < 65536
    → add binary32 (fewer t) (of_bits binary32 (998244352 + l)) ≡ round binary32 false (t * 65536 + l) 2147483648
joined t l h k = go (ltb t 128) refl
  where
    low : Float
    low = of_bits binary32 (998244352 + l)

    end : (s : Bool) (q : ℕ) → q < 16777216 → fewer t ≡ round binary32 s (q * 65536) 2147483648
        → add binary32 (fewer t) low ≡ sum binary32 s (q * 65536) false (8388608 + l) 2147483648
    end s q small e =
        ap (λ (x : Float). add binary32 x low) e
        ∙ sums (round binary32 s (q * 65536) 2147483648) low s false (q * 65536) (8388608 + l) 2147483648 (lit< tt) (held s q small) (low_is l k)

    go : (b : Bool) → ltb t 128 ≡ b → add binary32 (fewer t) low ≡ round binary32 false (t * 65536 + l) 2147483648
    go true e =
        let u = ltb-true t 128 e in
        end true (128 - t) (omega arith)
        (fewer_is t h ∙ short ((8388608 + t) * 65536) 549764202496 2147483648 ((128 - t) * 65536) (omega arith) (omega arith))
        ∙ made_up ((128 - t) * 65536) (8388608 + l) 2147483648 (t * 65536 + l) (omega arith) (omega arith)
    go false e =
        let u = ltb-false t 128 e in
        end false (t - 128) (omega arith)
        (fewer_is t h ∙ taken ((8388608 + t) * 65536) 549764202496 2147483648 ((t - 128) * 65536) (omega arith) (omega arith))
        ∙ put ((t - 128) * 65536) (8388608 + l) 2147483648 (t * 65536 + l) (omega arith)

pub halves : (n : ℕ) → n < 4294967296
    → add binary32 (fewer (n / 65536)) (of_bits binary32 (998244352 + n % 65536)) ≡ round binary32 false n 2147483648
halves n h =
    joined (n / 65536) (n % 65536) (omega arith) (omega arith)
    ∙ ap (λ (z : ℕ). round binary32 false z 2147483648) (div-add-mod' n 65536)
