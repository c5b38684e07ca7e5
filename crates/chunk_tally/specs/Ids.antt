-- The ids that cells hold, with their numbers of cells, in ascending order (SCOPE 5.9). Assumes nothing.
use Rattle.std.specs.Prelude.{◌≡◌, refl, ℕ, zero, suc, ◌+◌, ◌-◌, ◌≤◌, ◌<◌, Bool, true, false, ◌&&◌, List, [], ◌∷◌, ◌++◌, map, ltb, eqb}
use Rattle.std.proofs.Common.{sym, ap, ◌∙◌, subst, arith, add-one, ext_get_or, get_or-set_same, get_or-set_other, take-suc}
use Rattle.std.proofs.Common.{ltb-true, ltb-false, ne_eqb, eqb-true}
use lib.ListN.{length, set, get_or, take, length-set}
use Rattle.std.proofs.Math.ListN.{replicate}
use Rattle.std.proofs.lemmas.List.{length-replicate, get_or-replicate}
use Rattle.std.proofs.lemmas.Bool.{eqb-false}
use Rattle.basics.specs.Bools.{pick}
use Rattle.grid.specs.Cube.{tab}
use Rattle.grid.specs.Grid.{tab_length, tab_at}

-- 1 for a cell that has the id
abbrev pub same : ℕ → ℕ → ℕ
same a v = pick (eqb a v) 1 0

-- how many cells have an id
unfoldable pub id_count : List ℕ → ℕ → ℕ
id_count [] v = 0
id_count (a ∷ c) v = same a v + id_count c v

-- x where the id is nonzero and n cells, not none, have it
abbrev pub list_if : ℕ → ℕ → ℕ → List ℕ
list_if id n x = pick (ltb 0 id && ltb 0 n) (x ∷ []) []

-- of the m ids from b on those that are not 0 and of which f is not 0: upward, the last one behind all others
unfoldable pub span : ℕ → ℕ → (ℕ → ℕ) → List ℕ
span b zero f = []
span b (suc m) f = span b m f ++ list_if (b + m) (f (b + m)) (b + m)

-- the ids that the cells hold, but air, upward
unfoldable pub present_ids : List ℕ → List ℕ
present_ids c = span 0 65536 (id_count c)

-- the number of cells of each, in the ids' order
unfoldable pub present_counts : List ℕ → List ℕ
present_counts c = map (id_count c) (present_ids c)

-- ---- a table of the numbers of cells of 8,192 ids from base on

unfoldable pub id_table : ℕ → List ℕ → List ℕ
id_table base c = tab 8192 (λ (k : ℕ). id_count c (base + k))

-- the first k ids of a table's window that are listed, and their numbers of cells
abbrev pub seen_ids : ℕ → ℕ → List ℕ → List ℕ
seen_ids base k t = span base k (λ (v : ℕ). get_or t (v - base) 0)

abbrev pub seen_counts : ℕ → ℕ → List ℕ → List ℕ
seen_counts base k t = map (λ (v : ℕ). get_or t (v - base) 0) (seen_ids base k t)

unfoldable pub window_ids : ℕ → List ℕ → List ℕ
window_ids base t = seen_ids base 8192 t

unfoldable pub window_counts : ℕ → List ℕ → List ℕ
window_counts base t = seen_counts base 8192 t

-- one cell counted in
unfoldable pub bump_at : ℕ → ℕ → List ℕ → List ℕ
bump_at base id t = pick (ltb id base) t (pick (ltb (id - base) (length t)) (set t (id - base) (get_or t (id - base) 0 + 1)) t)

pub record TableRoom (t : List ℕ) : Type 0 where
  pub room : (k : ℕ) → get_or t k 0 < 4294967295

-- ---- laws of the table

pub table_length : (base : ℕ) (c : List ℕ) → length (id_table base c) ≡ 8192
unfolding id_table
table_length base c = tab_length 8192 (λ (k : ℕ). id_count c (base + k))

pub table_at : (base : ℕ) (c : List ℕ) (k : ℕ) → k < 8192 → get_or (id_table base c) k 0 ≡ id_count c (base + k)
unfolding id_table
table_at base c k h = tab_at 8192 (λ (j : ℕ). id_count c (base + j)) k h

same_most : (a v : ℕ) → same a v ≤ 1
same_most a v = at (eqb a v)
  where
    at : (b : Bool) → pick b 1 0 ≤ 1
    at true = omega arith
    at false = omega arith

pub id_count_most : (c : List ℕ) (v : ℕ) → id_count c v ≤ length c
unfolding id_count
id_count_most [] v = omega arith
id_count_most (a ∷ c) v = let h = id_count_most c v in let k = same_most a v in omega arith

pub id_count_append : (a b : List ℕ) (v : ℕ) → id_count (a ++ b) v ≡ id_count a v + id_count b v
unfolding id_count
id_count_append [] b v = (let e : id_count b v ≡ 0 + id_count b v = omega arith in e)
id_count_append (x ∷ a) b v = let h = id_count_append a b v in omega arith

pub id_count_more : (c : List ℕ) (i v : ℕ) → i < length c → id_count (take (i + 1) c) v ≡ id_count (take i c) v + same (get_or c i 0) v
unfolding id_count
id_count_more c i v h =
    ap (λ (l : List ℕ). id_count l v) (ap (λ (k : ℕ). take k c) (add-one i) ∙ take-suc c i 0 h)
    ∙ id_count_append (take i c) (get_or c i 0 ∷ []) v
    ∙ (let e : id_count (take i c) v + (same (get_or c i 0) v + 0) ≡ id_count (take i c) v + same (get_or c i 0) v = omega arith in e)

-- a cell counted into the table
pub bump_length : (base id : ℕ) (t : List ℕ) → length (bump_at base id t) ≡ length t
unfolding bump_at
bump_length base id t = at (ltb id base) (ltb (id - base) (length t))
  where
    at : (a b : Bool) → length (pick a t (pick b (set t (id - base) (get_or t (id - base) 0 + 1)) t)) ≡ length t
    at true b = refl
    at false true = length-set t (id - base) (get_or t (id - base) 0 + 1)
    at false false = refl

bump_at_lem : (base id : ℕ) (t : List ℕ) (k : ℕ) → k < length t → get_or (bump_at base id t) k 0 ≡ get_or t k 0 + same id (base + k)
unfolding bump_at
bump_at_lem base id t k h = at (ltb id base) refl (ltb (id - base) (length t)) refl
  where
    other : (id ≡ base + k → ⊥) → get_or t k 0 ≡ get_or t k 0 + same id (base + k)
    other n = let e : ◌≡◌ {A = ℕ} (same id (base + k)) 0 = ap (λ (b : Bool). pick {X = ℕ} b 1 0) (ne_eqb id (base + k) n) in omega arith

    this : (b : Bool) → eqb id (base + k) ≡ b → base ≤ id → get_or (set t (id - base) (get_or t (id - base) 0 + 1)) k 0 ≡ get_or t k 0 + same id (base + k)
    this true e l =
        let q = eqb-true id (base + k) e in
        let s : id - base ≡ k = omega arith in
        let w : ◌≡◌ {A = ℕ} (same id (base + k)) 1 = ap (λ (b : Bool). pick {X = ℕ} b 1 0) e in
        ap (λ (j : ℕ). get_or (set t j (get_or t j 0 + 1)) k 0) s ∙ get_or-set_same t k (get_or t k 0 + 1) 0 h ∙ ap (λ (j : ℕ). get_or t k 0 + j) (sym w)
    this false e l =
        let q = eqb-false id (base + k) e in
        get_or-set_other t (id - base) k (get_or t (id - base) 0 + 1) 0 (λ j. q (omega arith)) ∙ other q

    at : (a : Bool) → ltb id base ≡ a → (b : Bool) → ltb (id - base) (length t) ≡ b
        → get_or (pick a t (pick b (set t (id - base) (get_or t (id - base) 0 + 1)) t)) k 0 ≡ get_or t k 0 + same id (base + k)
    at true p b q = other (λ e. let l = ltb-true id base p in omega arith)
    at false p true q = this (eqb id (base + k)) refl (ltb-false id base p)
    at false p false q = other (λ e. let l = ltb-false (id - base) (length t) q in omega arith)

pub bump_table : (base : ℕ) (c : List ℕ) (i : ℕ) → i < length c → bump_at base (get_or c i 0) (id_table base (take i c)) ≡ id_table base (take (i + 1) c)
bump_table base c i h =
    let l = table_length base (take i c) in
    let m = bump_length base (get_or c i 0) (id_table base (take i c)) in
    ext_get_or 0 _ _ (m ∙ l ∙ sym (table_length base (take (i + 1) c)))
    (λ k b.
    let j : k < 8192 = omega arith in
    bump_at_lem base (get_or c i 0) (id_table base (take i c)) k (omega arith)
    ∙ ap (λ (n : ℕ). n + same (get_or c i 0) (base + k)) (table_at base (take i c) k j)
    ∙ sym (id_count_more c i (base + k) h)
    ∙ sym (table_at base (take (i + 1) c) k j))

-- .. and what is filled with 0 is one
pub table_filled : (base : ℕ) (t : List ℕ) → length t ≡ 8192 → replicate (length t) 0 ≡ id_table base []
unfolding id_table id_count
table_filled base t h =
    ext_get_or 0 _ _ (length-replicate (length t) 0 ∙ h ∙ sym (tab_length 8192 (λ (k : ℕ). 0)))
    (λ k b.
    let l : k < length t = subst (λ (m : ℕ). k < m) (length-replicate (length t) 0) b in
    get_or-replicate (length t) k 0 0 l ∙ sym (tab_at 8192 (λ (j : ℕ). 0) k (omega arith)))

-- a table of no cells is all 0, from any base on
pub table_none : (base : ℕ) → id_table 0 [] ≡ id_table base []
unfolding id_table id_count
table_none base = refl

pub table_room : (base : ℕ) (c : List ℕ) → length c ≤ 262144 → TableRoom (id_table base c)
table_room base c h = record { room = λ k. at k (ltb k 8192) refl }
  where
    at : (k : ℕ) (b : Bool) → ltb k 8192 ≡ b → get_or (id_table base c) k 0 < 4294967295
    at k true e = let q = table_at base c k (ltb-true k 8192 e) in let m = id_count_most c (base + k) in omega arith
    at k false e =
        let q = lib.ListN.get_or-eq_default (id_table base c) 0 {n = k} (let l = table_length base c in let g = ltb-false k 8192 e in omega arith) in
        omega arith
