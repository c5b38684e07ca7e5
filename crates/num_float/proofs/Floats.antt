-- A fact of f32 that the proofs of `num_core` cite. Assumes nothing.
use Rattle.std.proofs.Common.{◌≡◌, zero, suc, ◌*◌, ◌^◌, Bool, T, ℤ, pos, negsuc, refl, pow-suc, arith, eqb→eq, pow_pos}
use lib.Ieee.{fin, binary32, fits}

-- zero is written in one way
pub one_zero : (s : Bool) (e : ℤ) → T (fits binary32 (fin s zero e)) → e ≡ pos 0
unfolding fits
one_zero s (pos zero) t = refl
one_zero s (pos (suc k)) t =
    let h = eqb→eq (2 ^ suc k * 1) 1 t in let p = pow_pos k in let g = pow-suc 2 k in absurd (omega arith)
one_zero s (negsuc k) t =
    let h = eqb→eq (1 * 2 ^ suc k) 1 t in let p = pow_pos k in let g = pow-suc 2 k in absurd (omega arith)
