-- What the limits of before did not refuse for its seed is answered the same. Assumes nothing.
use Rattle.std.specs.Prelude.{◌≡◌, refl, Bool, true, false, List, ◌∷◌, ℤ}
use Rattle.std.proofs.Common.{arith}
use Rattle.config.specs.Refusals.{Test, must, refusal}
use Rattle.config.specs.Limits.{between, size_ok, seed_ok, limit_refusal}
use Rattle.config.specs.Seeds.{older_seed_most, older_seed_ok, older_limit_refusal, seed_taken}
use Rattle.config.specs.declared.Header.{Header}

seed_still : (z : ℤ) → older_seed_ok z ≡ true → seed_ok z ≡ true
unfolding older_seed_ok
seed_still z e = let b = between 0 older_seed_most z e in let h = b.most in rw (b.is, seed_taken b.n (omega arith))

-- a second test that is wider alters no answer but the one of the test that it replaces
wider : (a b c : Bool) (ts : List Test) → (b ≡ true → c ≡ true) → (refusal (must a 1 ∷ must b 2 ∷ ts) ≡ 2 → ⊥)
    → refusal (must a 1 ∷ must c 2 ∷ ts) ≡ refusal (must a 1 ∷ must b 2 ∷ ts)
unfolding refusal
wider false b c ts f n = refl
wider true true c ts f n = rw (f refl)
wider true false c ts f n = absurd (n refl)

-- refused or not, but for the seed
pub answered_same : (h : Header) → (older_limit_refusal h ≡ 2 → ⊥) → limit_refusal h ≡ older_limit_refusal h
unfolding limit_refusal older_limit_refusal
answered_same h n = wider (size_ok h.chunk_size) (older_seed_ok h.seed) (seed_ok h.seed) _ (seed_still h.seed) n
