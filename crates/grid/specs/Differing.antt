-- In how many cells two chunks differ (SCOPE 5.11). Assumes nothing.
use Rattle.std.specs.Prelude.{◌≡◌, refl, ℕ, zero, suc, ◌+◌, ◌*◌, ◌≤◌, ◌<◌, Bool, true, false, cond, List, [], ◌∷◌, ◌++◌, length, set, get_or, take, drop, eqb}
use Rattle.std.proofs.Common.{sym, ap, ◌∙◌, arith, length-take, take-add, eqb-true, eq-eqb}
use Rattle.basics.specs.Bools.{by_bool}
use Rattle.grid.specs.Cube.{Cube, cell_index, put_at, see_at}
use Rattle.grid.specs.Grid.{Inside, index_lt, cube_most, put_inside, see_inside}

-- 1 where two ids differ, else 0
abbrev pub apart : ℕ → ℕ → ℕ
apart a b = cond (eqb a b) 0 1

pub apart_same : (a : ℕ) → apart a a ≡ 0
apart_same a = rw (eq-eqb a a refl)

pub apart_most : (a b : ℕ) → apart a b ≤ 1
apart_most a b = most (eqb a b)
  where
    most : (t : Bool) → cond t 0 1 ≤ 1
    most true = omega arith
    most false = omega arith

-- how many cells hold another id, from cells c to cells d, of one length
unfoldable pub differing : List ℕ → List ℕ → ℕ
differing [] d = 0
differing (a ∷ c) [] = 0
differing (a ∷ c) (b ∷ d) = apart a b + differing c d

pub differing_same : (c : List ℕ) → differing c c ≡ 0
unfolding differing
differing_same [] = refl
differing_same (a ∷ c) = let e = apart_same a in let f = differing_same c in omega arith

-- where nothing differs the cells are the same
differing_none : (c d : List ℕ) → length c ≡ length d → differing c d ≡ 0 → c ≡ d
unfolding differing
differing_none [] [] l e = refl
differing_none [] (b ∷ d) l e = absurd (omega arith)
differing_none (a ∷ c) [] l e = absurd (omega arith)
differing_none (a ∷ c) (b ∷ d) l e = by_bool (eqb a b)
    (λ f. let p : a ≡ b = eqb-true a b f in let g : 0 + differing c d ≡ 0 = rw f at e in let q : c ≡ d = differing_none c d (omega arith) (omega arith) in cc)
    (λ f. absurd (let g : 1 + differing c d ≡ 0 = rw f at e in omega arith))

-- SCOPE 5.11: it is 0 exactly where the lists are equal
pub differing_zero : (c d : List ℕ) → length c ≡ length d → (differing c d ≡ 0 → c ≡ d) × (c ≡ d → differing c d ≡ 0)
differing_zero c d l = (differing_none c d l, λ e. ap (differing c) (sym e) ∙ differing_same c)

-- one cell of d set
differing_set : (c d : List ℕ) (i v : ℕ) → length c ≡ length d → i < length c
    → differing c (set d i v) + apart (get_or c i 0) (get_or d i 0) ≡ differing c d + apart (get_or c i 0) v
unfolding differing
differing_set [] d i v l h = absurd (omega arith)
differing_set (a ∷ c) [] i v l h = absurd (omega arith)
differing_set (a ∷ c) (b ∷ d) zero v l h = omega arith
differing_set (a ∷ c) (b ∷ d) (suc i) v l h = let e = differing_set c d i v (omega arith) (omega arith) in omega arith

-- .. in a chunk
pub differing_put : (s x y z v : ℕ) (c d : List ℕ) → length c ≡ s * s * s → length d ≡ s * s * s → Inside s x y z
    → differing c (put_at s x y z v d) + apart (see_at s x y z c) (see_at s x y z d) ≡ differing c d + apart (see_at s x y z c) v
differing_put s x y z v c d k l h =
    rw (put_inside s x y z v d h, see_inside s x y z c h, see_inside s x y z d h)
    (differing_set c d (cell_index s x y z) v (k ∙ sym l) (let i = index_lt s x y z h.x_in h.y_in h.z_in in omega arith))

-- .. into the cells that are compared
pub differing_put_same : (s x y z v : ℕ) (c : List ℕ) → length c ≡ s * s * s → Inside s x y z → differing c (put_at s x y z v c) ≡ apart (see_at s x y z c) v
differing_put_same s x y z v c k h =
    let e = differing_put s x y z v c c k k h in
    let f = differing_same c in
    let g = apart_same (see_at s x y z c) in
    omega arith

pub differing_append : (a b c d : List ℕ) → length a ≡ length b → differing (a ++ c) (b ++ d) ≡ differing a b + differing c d
unfolding differing
differing_append [] [] c d l = let e : differing c d ≡ 0 + differing c d = omega arith in e
differing_append [] (y ∷ b) c d l = absurd (omega arith)
differing_append (x ∷ a) [] c d l = absurd (omega arith)
differing_append (x ∷ a) (y ∷ b) c d l = let e = differing_append a b c d (omega arith) in omega arith

pub differing_most : (c d : List ℕ) → differing c d ≤ length c
unfolding differing
differing_most [] d = omega arith
differing_most (a ∷ c) [] = omega arith
differing_most (a ∷ c) (b ∷ d) = let h = differing_most c d in let k = apart_most a b in omega arith

-- a chunk has at most 64³ cells
pub differing_few : (size : ℕ) (c d : List ℕ) → Cube size c → differing c d ≤ 262144
differing_few size c d h = let m = differing_most c d in let l = cube_most size h.most in let e = h.all in omega arith

-- ---- slab after slab

-- the first n cells, and k more
pub differing_more : (c d : List ℕ) (n k : ℕ) → length c ≡ length d
    → differing (take (n + k) c) (take (n + k) d) ≡ differing (take n c) (take n d) + differing (take k (drop n c)) (take k (drop n d))
differing_more c d n k l =
    ap (λ (x : List ℕ). differing x (take (n + k) d)) (take-add n k c)
    ∙ ap (λ (x : List ℕ). differing (take n c ++ take k (drop n c)) x) (take-add n k d)
    ∙ differing_append (take n c) (take n d) (take k (drop n c)) (take k (drop n d)) (simp length-take (rw l))
