-- Differences and magnitudes of integers. Assumes nothing.
use Rattle.std.specs.Prelude.{◌≡◌, Bool, true, false, cond, ℕ, zero, suc, ◌+◌, ◌-◌, ◌≤◌, ltb, ℤ, pos, negsuc, ◌+ℤ◌, ◌-ℤ◌}
use Rattle.std.proofs.Common.{ap, ◌∙◌, arith, lt-ltb, le-ltb}
use Rattle.std.proofs.Math.IntN.{sub_ℕ}
use Rattle.std.specs.Int.Signed.{mag}

-- a difference that is not negative
pub sub_at_least : (a b c : ℕ) → a ≡ b + c → sub_ℕ a b ≡ pos c
sub_at_least a b c e =
    ap (λ (t : Bool). cond t (negsuc (b - suc a)) (pos (a - b))) (le-ltb a b (omega arith))
    ∙ ap pos (omega arith)

-- a difference that is
pub sub_below : (a b c : ℕ) → b ≡ a + suc c → sub_ℕ a b ≡ negsuc c
sub_below a b c e =
    ap (λ (t : Bool). cond t (negsuc (b - suc a)) (pos (a - b))) (lt-ltb a b (omega arith))
    ∙ ap negsuc (omega arith)

-- n - 1
pub one_less : (n : ℕ) → 1 ≤ n → pos n -ℤ pos 1 ≡ pos (n - 1)
one_less n h = sub_at_least n 1 (n - 1) (omega arith)

-- -1 - z of a negative z
pub minus_neg : (n : ℕ) → negsuc 0 -ℤ negsuc n ≡ pos n
minus_neg n = sub_at_least (suc n) 1 n (omega arith)

-- a difference of two naturals is no farther from 0 than their sum, whichever is the greater
pub sub_mag : (x y : ℕ) (t : Bool) → mag (cond t (negsuc (y - suc x)) (pos (x - y))) ≤ x + y
sub_mag x y true = omega arith
sub_mag x y false = omega arith

-- an integer plus a natural
pub sum_mag : (o : ℤ) (n : ℕ) → mag (o +ℤ pos n) ≤ mag o + n + 1
sum_mag (pos a) n = omega arith
sum_mag (negsuc a) n = let g = sub_mag n (suc a) (ltb n (suc a)) in omega arith

-- a natural minus an integer
pub less_mag : (y : ℕ) (o : ℤ) → mag (pos y -ℤ o) ≤ mag o + y + 1
less_mag y (pos zero) = omega arith
less_mag y (pos (suc b)) = let g = sub_mag y (suc b) (ltb y (suc b)) in omega arith
less_mag y (negsuc b) = omega arith
