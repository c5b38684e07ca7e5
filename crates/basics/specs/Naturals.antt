-- Laws of natural numbers. Assumes nothing.
use Rattle.std.specs.Prelude.{◌≡◌, ℕ, ◌+◌, ◌-◌, ◌*◌, ◌≤◌, ◌<◌}
use Rattle.std.proofs.Common.{ap₂, ◌∙◌, lt_of_not-le, mul_comm, mul-le-mul_right, add-mul, arith}
use Rattle.std.proofs.Math.Nat.{mul-sub}
use Rattle.std.proofs.Math.Decide.{dec_le}

-- one order or the other
pub split {ℓ} : {X : Type ℓ} (a b : ℕ) → (a ≤ b → X) → (b < a → X) → X
split a b f g = elim (dec_le a b) [ yes h ↦ f h | no h ↦ g (lt_of_not-le h) ]

-- a difference times d
pub minus_mul : (a b d : ℕ) → (a - b) * d ≡ a * d - b * d
minus_mul a b d = mul_comm (a - b) d ∙ mul-sub d a b ∙ ap₂ ◌-◌ (mul_comm d a) (mul_comm d b)

-- row z and those before it lie within the n rows of a square
pub row_fits : (z n : ℕ) → z < n → z * n + n ≤ n * n
row_fits z n h = let e = add-mul z 1 n in let k = mul-le-mul_right {m = z + 1} {n = n} n (omega arith) in omega arith
