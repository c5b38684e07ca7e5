-- The non-air count of a chunk's cells (SCOPE 5.2). Assumes nothing.
use Rattle.std.specs.Prelude.{◌≡◌, refl, ℕ, suc, ◌+◌, ◌≤◌, Bool, true, false, cond, List, [], ◌∷◌, ◌++◌, length, eqb}
use Rattle.std.proofs.Common.{ap, ◌∙◌, sym, arith, add_assoc}

-- 1 for a cell that holds a block, 0 for air
abbrev pub non_air : ℕ → ℕ
non_air v = cond (eqb v 0) 0 1

-- summed over the cells
unfoldable pub non_air_count : List ℕ → ℕ
non_air_count [] = 0
non_air_count (v ∷ c) = non_air v + non_air_count c

-- a cell counts for one at most
pub non_air_most : (v : ℕ) → non_air v ≤ 1
non_air_most v = most (eqb v 0)
  where
    most : (b : Bool) → cond b 0 1 ≤ 1
    most true = omega arith
    most false = omega arith

pub count_append : (a b : List ℕ) → non_air_count (a ++ b) ≡ non_air_count a + non_air_count b
unfolding non_air_count
count_append [] b = (let e : non_air_count b ≡ 0 + non_air_count b = omega arith in e)
count_append (v ∷ a) b = ap (λ (k : ℕ). non_air v + k) (count_append a b) ∙ sym (add_assoc (non_air v) (non_air_count a) (non_air_count b))

pub count_none : non_air_count [] ≡ 0
unfolding non_air_count
count_none = refl

pub count_one : (v : ℕ) → non_air_count (v ∷ []) ≡ non_air v
unfolding non_air_count
count_one v = (let e : non_air v + 0 ≡ non_air v = omega arith in e)

pub count_most : (c : List ℕ) → non_air_count c ≤ length c
unfolding non_air_count
count_most [] = omega arith
count_most (v ∷ c) = let h = count_most c in one (eqb v 0) h
  where
    one : (b : Bool) → non_air_count c ≤ length c → cond b 0 1 + non_air_count c ≤ suc (length c)
    one true h = omega arith
    one false h = omega arith
