-- The product of a place and a size within 64 bits. Assumes nothing.
use mathlib.Core.Path.{◌≡◌, sym, ap, ap₂, ◌∙◌, subst}
use Prim.Native.Nat.{ℕ, zero, suc, ◌-◌, ◌*◌, ◌≤◌, ◌<◌}
use native.Mathlib.Omega.{arith}
use native.Mathlib.Nat.{mul-le-mul}
use mathlib.Core.Bool.{Bool, true, false}
use lib.IntN.{ℤ, pos, negsuc, neg_ℤ, ◌+ℤ◌, ◌-ℤ◌, ◌*ℤ◌}
use lib.Signed.{mag}
use mir.Syntax.{w32, w64}
use mir.Val.{SFits}
use mir.ValLaws.{to_z-of_z}
use Rattle.basics.specs.Words.{again, widened, widen_same}
use Rattle.config.specs.Limits.{within, Between}
use Rattle.basics.specs.Integers.{one_less, sum_mag}

neg_mag : (k : ℕ) → mag (neg_ℤ (pos k)) ≤ k
neg_mag zero = omega arith
neg_mag (suc k) = omega arith

pub prod_mag : (c : ℤ) (n : ℕ) → mag c < 1099511627776 → n ≤ 64 → mag (c *ℤ pos n) ≤ 1099511627776 * 64
prod_mag (pos a) n h k = let g : a ≤ 1099511627776 = omega arith in mul-le-mul g k
prod_mag (negsuc a) n h k =
    let g : suc a ≤ 1099511627776 = h in
    let p : suc a * n ≤ 1099511627776 * 64 = mul-le-mul g k in
    let q = neg_mag (suc a * n) in
    omega arith

pub size_fits : (size : ℤ) → Between 1 64 size → SFits w64 size
size_fits size b = subst (SFits w64) (sym b.is) (record { sfits = (let g = b.most in omega arith) })

module _ (size c : ℤ) (b : Between 1 64 size) (h : mag c < 1099511627776) where
  less : size -ℤ pos 1 ≡ pos (b.n - 1)
  less = ap (λ (z : ℤ). z -ℤ pos 1) b.is ∙ one_less b.n b.least

  pub first_fits : SFits w64 (c *ℤ size)
  first_fits = subst (λ (z : ℤ). SFits w64 (c *ℤ z)) (sym b.is) (record { sfits = (let g = prod_mag c b.n h b.most in omega arith) })

  pub less_fits : SFits w64 (size -ℤ pos 1)
  less_fits = subst (SFits w64) (sym less) (record { sfits = (let g = b.most in omega arith) })

  pub last_fits : SFits w64 (c *ℤ size +ℤ (size -ℤ pos 1))
  last_fits =
      subst (SFits w64)
      (sym (ap₂ (λ (x y : ℤ). c *ℤ x +ℤ y) b.is less))
      (record { sfits = (let g = prod_mag c b.n h b.most in let k = sum_mag (c *ℤ pos b.n) (b.n - 1) in let m = b.most in omega arith) })

  -- the same as the machine works them out
  pub first_raw : again w64 c *ℤ again w64 size ≡ c *ℤ size
  first_raw = ap₂ ◌*ℤ◌ (to_z-of_z w64 c (record { sfits = omega arith })) (to_z-of_z w64 size (size_fits size b))

  pub less_raw : again w64 size -ℤ pos 1 ≡ size -ℤ pos 1
  less_raw = ap (λ (z : ℤ). z -ℤ pos 1) (to_z-of_z w64 size (size_fits size b))

  pub first_back : again w64 (again w64 c *ℤ again w64 size) ≡ c *ℤ size
  first_back = ap (again w64) first_raw ∙ to_z-of_z w64 (c *ℤ size) first_fits

  pub last_raw : again w64 (again w64 c *ℤ again w64 size) +ℤ again w64 (again w64 size -ℤ pos 1) ≡ c *ℤ size +ℤ (size -ℤ pos 1)
  last_raw = ap₂ ◌+ℤ◌ first_back (ap (again w64) less_raw ∙ to_z-of_z w64 (size -ℤ pos 1) less_fits)

  pub last_back : again w64 (again w64 (again w64 c *ℤ again w64 size) +ℤ again w64 (again w64 size -ℤ pos 1)) ≡ c *ℤ size +ℤ (size -ℤ pos 1)
  last_back = ap (again w64) last_raw ∙ to_z-of_z w64 (c *ℤ size +ℤ (size -ℤ pos 1)) last_fits

-- what a test of a range, read back and turned round, says of the number itself
pub range_no : (lo hi z : ℤ) {r : Bool} → SFits w64 z → r ≡ within lo (again w64 z) hi → r ≡ false → within lo z hi ≡ false
range_no lo hi z {r} f e n = ap (λ (u : ℤ). within lo u hi) (sym (to_z-of_z w64 z f)) ∙ sym e ∙ n

pub range_yes : (lo hi z : ℤ) {r : Bool} → SFits w64 z → r ≡ within lo (again w64 z) hi → r ≡ true → within lo z hi ≡ true
range_yes lo hi z {r} f e n = ap (λ (u : ℤ). within lo u hi) (sym (to_z-of_z w64 z f)) ∙ sym e ∙ n

pub widen_mag : (z : ℤ) → SFits w32 z → mag (widened z) < 1099511627776
widen_mag z f = subst (λ (u : ℤ). mag u < 1099511627776) (sym (widen_same z f)) (let g = f.sfits in omega arith)
