-- Integers as a machine holds them: in bits, and read back from them. Assumes nothing.
use Rattle.std.specs.Prelude.{◌≡◌, Bool, ◌^◌, ◌≤◌, ◌<◌, ℤ}
use Rattle.std.proofs.Common.{sym, ◌∙◌, subst, arith}
use Rattle.std.specs.Int.Signed.{mag}
use Rattle.std.specs.Int.{Width, w32, w64}
use mir.Val.{SFits, hbits, of_z, to_z}
use Rattle.std.proofs.lemmas.Int.{to_z-of_z}

-- z as the machine reads it back from w bits
abbrev pub again : Width → ℤ → ℤ
again w z = to_z w (of_z w z)

-- what is read back from the bits of a call's result or of a parameter, z, is z, and so what z is
pub read : (w : Width) {z y : ℤ} → mag z < 2 ^ hbits w → z ≡ y → again w z ≡ y
read w {z} h e = to_z-of_z w z (record { sfits = h }) ∙ e

-- a number within a million, as coordinates are, is read back from 32 bits
pub back : (z : ℤ) → mag z ≤ 1000000 → again w32 z ≡ z
back z h = to_z-of_z w32 z (record { sfits = omega arith })

-- a test of what is read back is a test of z
pub test : (w : Width) (P : ℤ → Bool) {z : ℤ} {b : Bool} → SFits w z → P (again w z) ≡ b → P z ≡ b
test w P {z} {b} h e = subst (λ (u : ℤ). P u ≡ b) (to_z-of_z w z h) e

-- an i32 as an i64
abbrev pub widened : ℤ → ℤ
widened z = again w64 (again w32 z)

-- an i32 is within an i64
pub widen_fits : (z : ℤ) → SFits w32 z → SFits w64 (again w32 z)
widen_fits z f = subst (SFits w64) (sym (to_z-of_z w32 z f)) (record { sfits = (let g = f.sfits in omega arith) })

-- and the same number
pub widen_same : (z : ℤ) → SFits w32 z → widened z ≡ z
widen_same z f = to_z-of_z w64 (again w32 z) (widen_fits z f) ∙ to_z-of_z w32 z f
