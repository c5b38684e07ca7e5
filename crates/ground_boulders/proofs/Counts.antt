-- Conversion of an i32 to a count. Assumes nothing.
use mathlib.Core.Path.{◌≡◌, refl, sym, subst}
use Prim.Native.Nat.{◌<◌, ◌^◌}
use native.Mathlib.Omega.{arith}
use mathlib.Core.Bool.{true, false}
use lib.Dec.{T}
use lib.IntN.{ℤ, pos, negsuc, nat_abs}
use lib.Signed.{mag, lt_z}
use mir.Syntax.{w32}
use mir.ValLaws.{to_z-of_z}
use borrow.Author.Tests.{ltb-true}
use Rattle.basics.specs.Words.{again}
use Rattle.ground_boulders.specs.Signs.{range_length}

-- an i32 as a count: 0 where it is negative
pub floor_none : (z : ℤ) → mag z < 2 ^ 31 → lt_z (again w32 z) (pos 0) ≡ true → 0 ≡ range_length z
floor_none z h e = go z (subst (λ (u : ℤ). lt_z u (pos 0) ≡ true) (to_z-of_z w32 z (record { sfits = h })) e)
  where
    go : (z : ℤ) → lt_z z (pos 0) ≡ true → 0 ≡ range_length z
    go (pos n) e = let k = ltb-true n 0 e in absurd (omega arith)
    go (negsuc n) e = refl

pub floor_some : (z : ℤ) → mag z < 2 ^ 31 → lt_z (again w32 z) (pos 0) ≡ false → (nat_abs (again w32 z) ≡ range_length z) × (nat_abs (again w32 z) < 2147483648)
floor_some z h e = subst (λ (u : ℤ). (nat_abs u ≡ range_length z) × (nat_abs u < 2147483648)) (sym b) (go z h (subst (λ (u : ℤ). lt_z u (pos 0) ≡ false) b e))
  where
    b : again w32 z ≡ z
    b = to_z-of_z w32 z (record { sfits = h })

    go : (z : ℤ) → mag z < 2 ^ 31 → lt_z z (pos 0) ≡ false → (nat_abs z ≡ range_length z) × (nat_abs z < 2147483648)
    go (pos n) h e = (refl, omega arith)
    go (negsuc n) h e = absurd (subst T e tt)
