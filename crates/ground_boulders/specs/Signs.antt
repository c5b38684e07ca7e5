-- A hash is not negative (SCOPE 3.5), nor is what it is multiplied to: so a conversion to a whole number has no sign to lose. Assumes nothing.
use Rattle.std.specs.Prelude.{◌≡◌, refl, Bool, true, false, not, cond, ltb, eqb, ℤ, pos, negsuc, ◌+ℤ◌}
use Rattle.std.proofs.Common.{ap}
use Prim.Native.Nat.{ℕ, zero, suc, ◌+◌, ◌-◌, ◌*◌, ◌/◌, ◌%◌, ◌^◌, compare}
use Rattle.std.proofs.lemmas.Bool.{false≢true}
use lib.Ieee.{Float, nan, inf, fin, binary32, round, units, odd, mul, div, of_int, to_signed, low, emax, prec, up, down}
use Rattle.num_core.specs.Num.{nearest, to_i32}
use Rattle.num_core.specs.Wrap.{low31}
use Rattle.noise.specs.Hash.{unit31, mix2, hash2₃₂}
use Rattle.column.specs.Floats.{◌*f◌, nat}

-- how often a loop over 0..n runs
abbrev pub range_length : ℤ → ℕ
range_length (pos n) = n
range_length (negsuc n) = 0

-- Rust's `as i32` of a number that is not negative
unfoldable pub whole_part : Float → ℕ
whole_part x = range_length (to_i32 x)

-- its sign is plus, or it is not a number
abbrev pub plus : Float → Bool
plus nan = true
plus (inf s) = not s
plus (fin s m e) = not s

odd_plus : (d q k l : ℕ) → plus (odd d false q k l) ≡ true
unfolding odd
odd_plus d zero k l = refl
odd_plus d (suc q) k l = refl

either_plus : (b : Bool) (x y : Float) → plus x ≡ true → plus y ≡ true → plus (cond b x y) ≡ true
either_plus true x y p q = p
either_plus false x y p q = q

units_plus : (q k : ℕ) → plus (units binary32 false q k) ≡ true
unfolding units
units_plus q k = either_plus (ltb (q * 2 ^ k) (2 ^ (low binary32 + suc (emax binary32)))) _ (inf false) (odd_plus (suc (prec binary32)) q k (low binary32)) refl

round_plus : (n d : ℕ) → plus (round binary32 false n d) ≡ true
unfolding round
round_plus n d =
    let m = n * 2 ^ low binary32 in
    let k = lib.Ieee.size (m / d) - prec binary32 in
    let u = d * 2 ^ k in
    units_plus (lib.Ieee.nearest (m / u) (compare (m % u * 2) u)) k

pub mul_plus : (x y : Float) → plus x ≡ true → plus y ≡ true → plus (mul binary32 x y) ≡ true
unfolding mul
mul_plus nan y p q = refl
mul_plus (inf true) y p q = absurd (false≢true p)
mul_plus (inf false) nan p q = refl
mul_plus (inf false) (inf true) p q = absurd (false≢true q)
mul_plus (inf false) (inf false) p q = refl
mul_plus (inf false) (fin true n d) p q = absurd (false≢true q)
mul_plus (inf false) (fin false n d) p q = either_plus (eqb n 0) nan (inf false) refl refl
mul_plus (fin true m e) y p q = absurd (false≢true p)
mul_plus (fin false m e) nan p q = refl
mul_plus (fin false m e) (inf true) p q = absurd (false≢true q)
mul_plus (fin false m e) (inf false) p q = either_plus (eqb m 0) nan (inf false) refl refl
mul_plus (fin false m e) (fin true n d) p q = absurd (false≢true q)
mul_plus (fin false m e) (fin false n d) p q = round_plus (m * up e * (n * up d)) (down e * down d)

over_plus : (x : Float) → plus x ≡ true → plus (div binary32 x (fin false 1 (pos 31))) ≡ true
unfolding div
over_plus nan p = refl
over_plus (inf true) p = absurd (false≢true p)
over_plus (inf false) p = refl
over_plus (fin true m e) p = absurd (false≢true p)
over_plus (fin false m e) p = round_plus (m * up e * down (pos 31)) (1 * up (pos 31) * down e)

pub hash2_plus : (x y : ℤ) → plus (hash2₃₂ x y) ≡ true
unfolding hash2₃₂ unit31 of_int
hash2_plus x y = over_plus (of_int binary32 (pos (low31 (mix2 x y)))) (round_plus (low31 (mix2 x y)) 1)

whole_natural : (x : Float) → plus x ≡ true → to_i32 x ≡ pos (whole_part x)
unfolding whole_part to_i32 to_signed
whole_natural nan p = refl
whole_natural (inf true) p = absurd (false≢true p)
whole_natural (inf false) p = refl
whole_natural (fin true m e) p = absurd (false≢true p)
whole_natural (fin false m e) p = refl

nat_plus : (k : ℕ) → plus (nat k) ≡ true
unfolding nearest
nat_plus k = round_plus k 1

-- base + (v * k) as i32
pub sum_natural : (base k : ℕ) (v : Float) → plus v ≡ true → pos base +ℤ to_i32 (v *f nat k) ≡ pos (base + whole_part (v *f nat k))
sum_natural base k v p = ap (λ (z : ℤ). pos base +ℤ z) (whole_natural (v *f nat k) (mul_plus v (nat k) p (nat_plus k)))
