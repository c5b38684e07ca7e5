-- Constants and the floor (SCOPE 3.2), for every f32; the functions of `num_float`, re-exported. Assumes nothing.
use Rattle.std.specs.Prelude.{ℕ, suc, ◌/◌, ◌%◌, ◌^◌, Bool, true, false, cond, eqb, ℤ, pos, negsuc, neg_ℤ, Float}
use Rattle.std.specs.Float.{nan, inf, fin, binary32}
use Rattle.std.specs.Float.Ieee.{round, of_int}
unfoldable pub use Rattle.num_float.specs.Num.{abs₃₂, clamp₃₂, max₃₂, to_i32}

-- a constant: the f32 nearest to n / d, ties to even
unfoldable pub nearest : ℕ → ℕ → Float
unfolding round
nearest n d = round binary32 false n d

-- the greatest whole number that is no greater than a / d, or -a / d where the sign is true
abbrev pub floor_q : Bool → ℕ → ℕ → ℤ
floor_q false a d = pos (a / d)
floor_q true a d = neg_ℤ (pos (cond (eqb (a % d) 0) (a / d) (suc (a / d))))

-- fin s m e is m * 2 ^ e with m odd or zero: whole where e is not negative, and else with a fraction.
-- So a whole number, -0, an infinity and a NaN stay as they are.
unfoldable pub floor₃₂ : Float → Float
floor₃₂ nan = nan
floor₃₂ (inf s) = inf s
floor₃₂ (fin s m (pos k)) = fin s m (pos k)
floor₃₂ (fin s m (negsuc k)) = of_int binary32 (floor_q s m (2 ^ suc k))

-- `x.floor() as i32`
unfoldable pub floor_i : Float → ℤ
floor_i x = to_i32 (floor₃₂ x)
