-- What the ascending lists of ids and counts hold, and lists that have them in their first places (SCOPE 5.9). Assumes nothing.
use Rattle.std.specs.Prelude.{◌≡◌, refl, ℕ, zero, suc, ◌+◌, ◌≤◌, ◌<◌, Bool, true, false, ◌&&◌, List, [], ◌∷◌, ◌++◌, map, ltb, length, get_or, take, drop}
use Rattle.std.proofs.Common.{sym, ap, ap₂, ◌∙◌, subst, arith, zero-add, ⊎_elim, length-append, take-append-drop, drop_at, get_or-take}
use Rattle.std.proofs.Common.{length-take-le, ext_get_or, lt-ltb, ltb-true, ltb-false}
use Rattle.std.proofs.lemmas.List.{length-map, get_or_at}
use Rattle.std.proofs.Math.ListN.{get_or-append}
use Rattle.std.proofs.lemmas.List.Edits.{sets, sets-eq}
use Rattle.std.proofs.Math.Seq.{length-sets}
use Rattle.basics.specs.Bools.{pick, and_both}
use Rattle.chunk_tally.specs.Ids.{list_if, span, id_count, present_ids, present_counts}
use Rattle.chunk_tally.specs.Spans.{ids_to, last_case}
use Rattle.chunk_tally.specs.AnyOrder.{Place, Past}

-- an id that is listed
pub record Own (m : ℕ) (f : ℕ → ℕ) (v : ℕ) : Type 0 where
  pub low : 0 < v
  pub high : v < m
  pub some : 0 < f v

own : (m : ℕ) (f : ℕ → ℕ) (i : ℕ) → i < length (ids_to m f) → Own m f (get_or (ids_to m f) i 0)
unfolding span
own zero f i h = absurd (omega arith)
own (suc m) f i h =
    ⊎_elim
    (λ w. subst (λ (v : ℕ). Own (suc m) f v) (sym w.is)
    (let o = own m f i w.lt in let k = o.high in record { low = o.low; high = omega arith; some = o.some }))
    (λ w. subst (λ (v : ℕ). Own (suc m) f v) (sym w.is)
    (let t = and_both (ltb 0 (0 + m)) (ltb 0 (f (0 + m))) w.on in
    record { low = ltb-true 0 (0 + m) t.0; high = omega arith; some = ltb-true 0 (f (0 + m)) t.1 }))
    (last_case (ids_to m f) (ltb 0 (0 + m) && ltb 0 (f (0 + m))) (0 + m) i h)

up : (m : ℕ) (f : ℕ → ℕ) (i j : ℕ) → i < j → j < length (ids_to m f) → get_or (ids_to m f) i 0 < get_or (ids_to m f) j 0
unfolding span
up zero f i j l h = absurd (omega arith)
up (suc m) f i j l h =
    let b : Bool = ltb 0 (0 + m) && ltb 0 (f (0 + m)) in
    ⊎_elim
    (λ w. let q = get_or-append (ids_to m f) (pick b ((0 + m) ∷ []) []) 0 i (let k = w.lt in omega arith) in
    let r = w.is in
    let k = up m f i j l w.lt in
    omega arith)
    (λ w.
    let k : i < length (ids_to m f) = (let e = w.at in omega arith) in
    let q = get_or-append (ids_to m f) (pick b ((0 + m) ∷ []) []) 0 i k in
    let r = w.is in
    let o = (own m f i k).high in
    omega arith)
    (last_case (ids_to m f) b (0 + m) j h)

once : (m : ℕ) (f : ℕ → ℕ) (i j : ℕ) → i < length (ids_to m f) → j < length (ids_to m f) → get_or (ids_to m f) i 0 ≡ get_or (ids_to m f) j 0 → i ≡ j
once m f i j hi hj e = by (ltb i j) refl (ltb j i) refl
  where
    by : (a : Bool) → ltb i j ≡ a → (b : Bool) → ltb j i ≡ b → i ≡ j
    by true p b q = absurd (let k = up m f i j (ltb-true i j p) hj in omega arith)
    by false p true q = absurd (let k = up m f j i (ltb-true j i q) hi in omega arith)
    by false p false q = let x = ltb-false i j p in let y = ltb-false j i q in omega arith

every : (m : ℕ) (f : ℕ → ℕ) (v : ℕ) → 0 < v → v < m → 0 < f v → Place (ids_to m f) (length (ids_to m f)) v
unfolding span
every zero f v p h s = absurd (omega arith)
every (suc m) f v p h s = by (λ k. every m f v p k s) (ltb v m) refl
  where
    by : (v < m → Place (ids_to m f) (length (ids_to m f)) v) → (t : Bool) → ltb v m ≡ t
        → Place (ids_to m f ++ list_if (0 + m) (f (0 + m)) (0 + m)) (length (ids_to m f ++ list_if (0 + m) (f (0 + m)) (0 + m))) v
    by below true e =
        let q = below (ltb-true v m e) in
        let l = length-append (ids_to m f) (list_if (0 + m) (f (0 + m)) (0 + m)) in
        let k = q.within in
        record { at = q.at; within = omega arith; holds = get_or-append (ids_to m f) (list_if (0 + m) (f (0 + m)) (0 + m)) 0 q.at q.within ∙ q.holds }
    by below false e =
        let g = ltb-false v m e in
        let z : v ≡ 0 + m = omega arith in
        let lp : 0 < 0 + m = omega arith in
        let ls : 0 < f (0 + m) = subst (λ (w : ℕ). 0 < f w) z s in
        let on : list_if (0 + m) (f (0 + m)) (0 + m) ≡ (0 + m) ∷ [] = rw (lt-ltb 0 (0 + m) lp, lt-ltb 0 (f (0 + m)) ls) in
        let l = length-append (ids_to m f) ((0 + m) ∷ []) in
        subst (λ (r : List ℕ). Place (ids_to m f ++ r) (length (ids_to m f ++ r)) v) (sym on)
        (record { at = length (ids_to m f); within = omega arith; holds = get_or_at (ids_to m f) (0 + m) [] 0 (length (ids_to m f)) refl ∙ sym z })

-- ---- the ids that the cells hold

pub listed_ids : (c : List ℕ) (i : ℕ) → i < length (present_ids c) → Own 65536 (id_count c) (get_or (present_ids c) i 0)
unfolding present_ids
listed_ids c i h = own 65536 (id_count c) i h

pub listed_once : (c : List ℕ) (i j : ℕ) → i < length (present_ids c) → j < length (present_ids c)
    → get_or (present_ids c) i 0 ≡ get_or (present_ids c) j 0 → i ≡ j
unfolding present_ids
listed_once c = once 65536 (id_count c)

pub every_id : (c : List ℕ) (v : ℕ) → 0 < v → v < 65536 → 0 < id_count c v → Place (present_ids c) (length (present_ids c)) v
unfolding present_ids
every_id c = every 65536 (id_count c)

pub ids_upward : (c : List ℕ) (i j : ℕ) → i < j → j < length (present_ids c) → get_or (present_ids c) i 0 < get_or (present_ids c) j 0
unfolding present_ids
ids_upward c = up 65536 (id_count c)

map_at : (f : ℕ → ℕ) (l : List ℕ) (i : ℕ) → i < length l → get_or (map f l) i 0 ≡ f (get_or l i 0)
map_at f [] i h = absurd (omega arith)
map_at f (v ∷ l) zero h = refl
map_at f (v ∷ l) (suc i) h = map_at f l i (omega arith)

pub count_at : (c : List ℕ) (i : ℕ) → i < length (present_ids c) → get_or (present_counts c) i 0 ≡ id_count c (get_or (present_ids c) i 0)
unfolding present_counts
count_at c i h = map_at (id_count c) (present_ids c) i h

pub same_length : (c : List ℕ) → length (present_ids c) ≡ length (present_counts c)
unfolding present_counts
same_length c = sym (length-map (present_ids c) (id_count c))

-- ---- lists with others in their first places

in_front : (p l : List ℕ) → length p ≤ length l → sets l 0 p ≡ p ++ drop (length p) l
in_front p l h = sets-eq p l 0 (omega arith) ∙ ap (λ (k : ℕ). p ++ drop k l) (zero-add (length p))

pub first_at : (p l : List ℕ) → length p ≤ length l → (i : ℕ) → i < length p → get_or (sets l 0 p) i 0 ≡ get_or p i 0
first_at p l h i k = ap (λ (r : List ℕ). get_or r i 0) (in_front p l h) ∙ get_or-append p (drop (length p) l) 0 i k

pub first_past : (p l : List ℕ) (n : ℕ) → n ≡ length p → n ≤ length l → Past l (sets l 0 p) n
first_past p l n e h =
    record {
      long = length-sets l 0 p;
      past = ap (drop n) (in_front p l (omega arith)) ∙ drop_at p _ n (sym e) ∙ ap (λ (k : ℕ). drop k l) (sym e);
    }

-- a list that holds p in its first places, and else what it held
pub first_only : (p l l' : List ℕ) (n : ℕ) → n ≡ length p → n ≤ length l → Past l l' n → ((i : ℕ) → i < n → get_or l' i 0 ≡ get_or p i 0) → l' ≡ sets l 0 p
first_only p l l' n e h k at =
    let g = k.long in
    let t = length-take-le n l' (omega arith) in
    let b : take n l' ≡ p = ext_get_or 0 (take n l') p (t ∙ e) (λ i m. get_or-take n l' i 0 (omega arith) ∙ at i (omega arith)) in
    sym (take-append-drop n l')
    ∙ ap₂ (λ (r : List ℕ). λ (s : List ℕ). r ++ s) b (k.past ∙ ap (λ (j : ℕ). drop j l) e)
    ∙ sym (in_front p l (omega arith))
