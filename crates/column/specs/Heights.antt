-- A column's height lies in 1 to the greatest height (SCOPE 4.6). Assumes nothing.
use Rattle.std.specs.Prelude.{◌≡◌, refl, ℕ, ◌≤◌, Bool, true, false, cond, ltb, ℤ, pos, negsuc, nat_abs, Float}
use Rattle.std.proofs.Common.{arith, ltb-false}
use Rattle.num_core.specs.Num.{to_i32}
use Rattle.column.specs.Column.{blend₃₂, clamp_of, height_of, column_at, biome_and_height}
use Rattle.column.specs.declared.Column.{Column}

pub record Range (top : ℕ) (z : ℤ) : Type 0 where
  pub is : z ≡ pos (nat_abs z)
  pub least : 1 ≤ nat_abs z
  pub most : nat_abs z ≤ top

clamped : (n : ℤ) (t : ℕ) → 1 ≤ t → Range t (clamp_of n (pos 1) (pos t))
unfolding clamp_of
clamped (negsuc n) t h = record { is = refl; least = omega arith; most = h }
clamped (pos n) t h = low (ltb n 1) refl (ltb t n) refl
  where
    low : (a : Bool) → ltb n 1 ≡ a → (b : Bool) → ltb t n ≡ b → Range t (cond a (pos 1) (cond b (pos t) (pos n)))
    low true e b d = record { is = refl; least = omega arith; most = h }
    low false e true d = record { is = refl; least = h; most = omega arith }
    low false e false d = let u = ltb-false n 1 e in let v = ltb-false t n d in record { is = refl; least = u; most = v }

pub height_within : (c : Column) (top : ℕ) → 1 ≤ top → Range top (height_of c (pos top))
unfolding height_of
height_within c top h = clamped (to_i32 (blend₃₂ c)) top h

-- so does the height of each column of the world
pub height_range : (wx wz sea : ℤ) (top : ℕ) (seed_offset : Float) → 1 ≤ top → Range top (biome_and_height wx wz sea (pos top) seed_offset).height
unfolding biome_and_height
height_range wx wz sea top seed_offset h = height_within (column_at wx wz sea seed_offset) top h
