-- A field with the tab that separates it from the one before (SCOPE 11.4). Assumes nothing.
use Rattle.std.specs.Prelude.{◌≡◌, List, ◌∷◌, ℕ, eqb}
use Rattle.std.proofs.Common.{eq-eqb, ne_eqb}
use Rattle.basics.specs.Bools.{pick}

-- field x of a line, with the tab that separates it from the one before
unfoldable pub separated : ℕ → List ℕ → List ℕ
separated x t = pick (eqb x 0) t (9 ∷ t)

pub separated_first : (x : ℕ) (t : List ℕ) → x ≡ 0 → separated x t ≡ t
unfolding separated
separated_first x t e = rw (eq-eqb x 0 e)

pub separated_later : (x : ℕ) (t : List ℕ) → (x ≡ 0 → ⊥) → separated x t ≡ 9 ∷ t
unfolding separated
separated_later x t e = rw (ne_eqb x 0 e)
