-- How many places a tally needs (SCOPE 5.9): no more than there are cells, and no more than there are ids but air. Assumes nothing.
use Rattle.std.specs.Prelude.{◌≡◌, refl, ℕ, zero, suc, ◌+◌, ◌≤◌, min, Bool, true, false, ◌&&◌, List, [], ◌∷◌, ltb, eqb, length}
use Rattle.std.proofs.Common.{sym, ap, ◌∙◌, arith, zero-add, length-append, ltb-true, eqb-true, ne_eqb}
use Rattle.basics.specs.Bools.{pick, and_right}
use Rattle.chunk.specs.Tests.{chunk_refusal}
use Rattle.chunk_tally.specs.Ids.{same, id_count, list_if, span, present_ids}
use Rattle.chunk_tally.specs.Spans.{ids_to, list_most, list_no_id}
use Rattle.chunk_tally.specs.Tally.{tally_refusal}
use Rattle.chunk_tally.specs.Does.{refuse_input, refuse_none}

-- the sum of f below m
unfoldable sum_to : ℕ → (ℕ → ℕ) → ℕ
sum_to zero f = 0
sum_to (suc m) f = sum_to m f + f (0 + m)

-- each id that is listed has a cell
list_few : (id n : ℕ) → length (list_if id n id) ≤ n
list_few id n = at (ltb 0 id && ltb 0 n) refl
  where
    at : (b : Bool) → (ltb 0 id && ltb 0 n) ≡ b → length (pick b (id ∷ []) []) ≤ n
    at true e = let h = ltb-true 0 n (and_right (ltb 0 id) (ltb 0 n) e) in omega arith
    at false e = omega arith

listed_few : (m : ℕ) (f : ℕ → ℕ) → length (ids_to m f) ≤ sum_to m f
unfolding span sum_to
listed_few zero f = omega arith
listed_few (suc m) f =
    let h = listed_few m f in
    let k = list_few (0 + m) (f (0 + m)) in
    let l = length-append (ids_to m f) (list_if (0 + m) (f (0 + m)) (0 + m)) in
    omega arith

-- a cell has one id
one_below : (a m : ℕ) → m ≤ a → sum_to m (same a) ≡ 0
unfolding sum_to
one_below a zero h = refl
one_below a (suc m) h =
    let p = one_below a m (omega arith) in
    let e : ◌≡◌ {A = ℕ} (same a (0 + m)) 0 = ap (λ (b : Bool). pick {X = ℕ} b 1 0) (ne_eqb a (0 + m) (λ q. omega arith)) in
    omega arith

one_most : (a m : ℕ) → sum_to m (same a) ≤ 1
unfolding sum_to
one_most a zero = omega arith
one_most a (suc m) = at (one_most a m) (eqb a (0 + m)) refl
  where
    at : sum_to m (same a) ≤ 1 → (b : Bool) → eqb a (0 + m) ≡ b → sum_to m (same a) + pick b 1 0 ≤ 1
    at h true e = let q = eqb-true a (0 + m) e in let p = one_below a m (omega arith) in omega arith
    at h false e = omega arith

sum_more : (a : ℕ) (c : List ℕ) (m : ℕ) → sum_to m (id_count (a ∷ c)) ≡ sum_to m (same a) + sum_to m (id_count c)
unfolding sum_to id_count
sum_more a c zero = refl
sum_more a c (suc m) = let p = sum_more a c m in omega arith

sum_none : (m : ℕ) → sum_to m (id_count []) ≡ 0
unfolding sum_to id_count
sum_none zero = refl
sum_none (suc m) = let p = sum_none m in omega arith

sum_cells : (c : List ℕ) (m : ℕ) → sum_to m (id_count c) ≤ length c
sum_cells [] m = let e = sum_none m in omega arith
sum_cells (a ∷ c) m = let e = sum_more a c m in let p = one_most a m in let q = sum_cells c m in omega arith

pub ids_few : (c : List ℕ) → length (present_ids c) ≤ length c
unfolding present_ids
ids_few c = let p = listed_few 65536 (id_count c) in let q = sum_cells c 65536 in omega arith

-- air is not listed
no_air : (m : ℕ) (f : ℕ → ℕ) → length (ids_to (suc m) f) ≤ m
unfolding span
no_air zero f = let e = ap length (list_no_id (0 + 0) (f (0 + 0)) (0 + 0) (zero-add 0)) in omega arith
no_air (suc m) f =
    let h = no_air m f in
    let k = list_most (0 + suc m) (f (0 + suc m)) (0 + suc m) in
    let l = length-append (ids_to (suc m) f) (list_if (0 + suc m) (f (0 + suc m)) (0 + suc m)) in
    omega arith

pub ids_most : (c : List ℕ) → length (present_ids c) ≤ 65535
unfolding present_ids
ids_most c = no_air 65535 (id_count c)

-- with as many places as there are cells, or with 65,535, a tally is refused only for its size or its cells
pub never_short : (size : ℕ) (c : List ℕ) (n m : ℕ) → min (length c) 65535 ≤ n → min (length c) 65535 ≤ m
    → tally_refusal size c n m ≡ chunk_refusal size (length c)
never_short size c n m h k = at (chunk_refusal size (length c)) refl
  where
    at : (j : ℕ) → chunk_refusal size (length c) ≡ j → tally_refusal size c n m ≡ chunk_refusal size (length c)
    at zero e = let p = ids_few c in let q = ids_most c in refuse_none size c n m e (omega arith) (omega arith) ∙ sym e
    at (suc j) e = sym (refuse_input size c n m (λ q. (omega arith)))
