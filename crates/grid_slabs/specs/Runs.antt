-- A run of cells, one cell after the other. Assumes nothing.
use Rattle.std.specs.Prelude.{◌≡◌, refl, ℕ, ◌+◌, ◌<◌, List, [], ◌∷◌, ◌++◌, length, get_or, take, drop, set}
use Rattle.std.proofs.Common.{sym, ap, ap₂, ◌∙◌, arith, add-one, length-take, length-drop, take-suc, take-suc-set, get_or-drop}
use Rattle.grid.specs.Count.{non_air, non_air_count, count_append, count_none, count_one}
use Rattle.grid.specs.Differing.{apart, differing, differing_append}

-- one cell more
pub take_more : (l : List ℕ) (i : ℕ) → i < length l → take (i + 1) l ≡ take i l ++ (get_or l i 0 ∷ [])
take_more l i h = ap (λ (k : ℕ). take k l) (add-one i) ∙ take-suc l i 0 h

pub run_more : (l : List ℕ) (start i : ℕ) → start + i < length l → take (i + 1) (drop start l) ≡ take i (drop start l) ++ (get_or l (start + i) 0 ∷ [])
run_more l start i h =
    take_more (drop start l) i (simp length-drop (omega arith))
    ∙ ap (λ (v : ℕ). take i (drop start l) ++ (v ∷ [])) (get_or-drop start l i 0)

-- a copy of a run, one cell more
pub copy_more : (l old : List ℕ) (start i : ℕ) → start + i < length l → i < length old → take i old ≡ take i (drop start l)
    → take (i + 1) (set old i (get_or l (start + i) 0)) ≡ take (i + 1) (drop start l)
copy_more l old start i h k e =
    ap (λ (n : ℕ). take n (set old i (get_or l (start + i) 0))) (add-one i)
    ∙ take-suc-set old i (get_or l (start + i) 0) k
    ∙ ap (λ (r : List ℕ). r ++ (get_or l (start + i) 0 ∷ [])) e
    ∙ sym (run_more l start i h)

one_one : (a b : ℕ) → differing (a ∷ []) (b ∷ []) ≡ apart a b
unfolding differing
one_one a b = let e : apart a b + 0 ≡ apart a b = omega arith in e

none_none : differing [] [] ≡ 0
unfolding differing
none_none = refl

pub apart_none : (old l : List ℕ) (start : ℕ) → 0 ≡ differing (take 0 old) (take 0 (drop start l))
apart_none old l start = sym none_none

pub blocks_none : (l : List ℕ) (start : ℕ) → 0 ≡ non_air_count (take 0 (drop start l))
blocks_none l start = sym count_none

pub apart_more : (old l : List ℕ) (start i : ℕ) → start + i < length l → i < length old
    → differing (take i old) (take i (drop start l)) + apart (get_or old i 0) (get_or l (start + i) 0)
    ≡ differing (take (i + 1) old) (take (i + 1) (drop start l))
apart_more old l start i h k =
    let a : length (take i old) ≡ i = simp length-take (omega arith) in
    let b : length (take i (drop start l)) ≡ i = simp (length-take, length-drop) (omega arith) in
    sym (ap₂ differing (take_more old i k) (run_more l start i h)
    ∙ differing_append (take i old) (take i (drop start l)) (get_or old i 0 ∷ []) (get_or l (start + i) 0 ∷ []) (a ∙ sym b)
    ∙ ap (λ (n : ℕ). differing (take i old) (take i (drop start l)) + n) (one_one (get_or old i 0) (get_or l (start + i) 0)))

pub blocks_more : (l : List ℕ) (start i : ℕ) → start + i < length l
    → non_air_count (take i (drop start l)) + non_air (get_or l (start + i) 0) ≡ non_air_count (take (i + 1) (drop start l))
blocks_more l start i h =
    sym (ap non_air_count (run_more l start i h)
    ∙ count_append (take i (drop start l)) (get_or l (start + i) 0 ∷ [])
    ∙ ap (λ (n : ℕ). non_air_count (take i (drop start l)) + n) (count_one (get_or l (start + i) 0)))
