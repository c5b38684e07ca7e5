-- Small differences of the counters of a crown. Assumes nothing.
use mathlib.Core.Path.{◌≡◌, sym, ap, ap₂, ◌∙◌}
use Prim.Native.Nat.{ℕ, zero, suc, ◌+◌, ◌-◌, ◌≤◌, ◌<◌}
use native.Mathlib.Omega.{arith}
use lib.IntN.{ℤ, pos, ◌-ℤ◌, ◌+ℤ◌}
use mir.Syntax.{w32}
use mir.Val.{SFits, to_z}
use mir.ValLaws.{to_z_pos}
use Rattle.basics.specs.Integers.{less_mag, one_less, sub_at_least}

pub diff_read : (i r : ℕ) → i < 65536 → r < 65536 → to_z w32 i -ℤ to_z w32 r ≡ pos i -ℤ pos r
diff_read i r h k = ap₂ ◌-ℤ◌ (to_z_pos w32 i (omega arith)) (to_z_pos w32 r (omega arith))

pub diff_fits : (i r : ℕ) → i < 65536 → r < 65536 → SFits w32 (pos i -ℤ pos r)
diff_fits i r h k = record { sfits = (let g = less_mag i (pos r) in omega arith) }

-- the level of layer l, one below the top and up
pub layer_level : (top l : ℕ) → 1 ≤ top → pos (top + l - 1) ≡ pos top +ℤ (pos l -ℤ pos 1)
layer_level top zero h =
    ap pos (let e : top + 0 - 1 ≡ top - 1 = omega arith in e) ∙ sym (one_less top h)
layer_level top (suc l) h =
    ap pos (let e : top + suc l - 1 ≡ top + l = omega arith in e) ∙ ap (λ (z : ℤ). pos top +ℤ z) (sym (sub_at_least (suc l) 1 l (omega arith)))
