-- The laws of ids listed in ascending order, and of lists that they are written into (SCOPE 5.9). Assumes nothing.
use Rattle.std.specs.Prelude.{◌≡◌, refl, ℕ, zero, suc, ◌+◌, ◌-◌, ◌*◌, ◌≤◌, ◌<◌, Bool, true, false, ◌&&◌, List, [], ◌∷◌, ◌++◌, map, ◌⊎◌, ltb, length}
use Rattle.std.specs.Prelude.{set, get_or}
use Rattle.std.proofs.Common.{sym, ap, ap₂, ◌∙◌, arith, zero-add, add-suc, add-zero, pos_of_ne-zero, add-one, append_assoc, append-nil, inl, inr}
use Rattle.std.proofs.Common.{length-append, ltb-true, ltb-false, lt-ltb, le-ltb}
use Rattle.std.proofs.lemmas.List.{map-append, get_or_at}
use Rattle.std.proofs.Math.ListN.{get_or-append}
use Rattle.std.proofs.lemmas.List.Edits.{sets}
use Rattle.std.proofs.Math.Seq.{length-sets}
use Rattle.basics.specs.Bools.{pick}
use Rattle.basics.specs.Lists.{nil}
use Rattle.chunk_tally.specs.Ids.{list_if, span, id_count, id_table, table_at, window_ids, window_counts, seen_ids, seen_counts, present_ids, present_counts}

-- the ids below m that are listed, and f of each
abbrev pub ids_to : ℕ → (ℕ → ℕ) → List ℕ
ids_to m f = span 0 m f

abbrev pub counts_to : ℕ → (ℕ → ℕ) → List ℕ
counts_to m f = map f (ids_to m f)

span_more : (b m : ℕ) (f : ℕ → ℕ) → span b (m + 1) f ≡ span b m f ++ list_if (b + m) (f (b + m)) (b + m)
unfolding span
span_more b m f = ap (λ (k : ℕ). span b k f) (add-one m)

pub span_none : (b : ℕ) (f : ℕ → ℕ) → span b 0 f ≡ []
unfolding span
span_none b f = refl

span_same : (b m : ℕ) (f g : ℕ → ℕ) → ((v : ℕ) → b ≤ v → v < b + m → f v ≡ g v) → span b m f ≡ span b m g
unfolding span
span_same b zero f g p = refl
span_same b (suc m) f g p =
    ap₂ (λ (l : List ℕ). λ (n : ℕ). l ++ list_if (b + m) n (b + m))
    (span_same b m f g (λ v h k. p v h (omega arith)))
    (p (b + m) (omega arith) (omega arith))

span_add : (b m : ℕ) (f : ℕ → ℕ) → span 0 (b + m) f ≡ span 0 b f ++ span b m f
unfolding span
span_add b zero f = ap (λ (k : ℕ). span 0 k f) (add-zero b) ∙ sym (append-nil (span 0 b f))
span_add b (suc m) f =
    ap (λ (k : ℕ). span 0 k f) (add-suc b m)
    ∙ ap₂ (λ (l : List ℕ). λ (v : ℕ). l ++ list_if v (f v) v) (span_add b m f) (zero-add (b + m))
    ∙ append_assoc (span 0 b f) (span b m f) (list_if (b + m) (f (b + m)) (b + m))

map_list : (id n : ℕ) (x : ℕ → ℕ) → map x (list_if id n id) ≡ list_if id n (x id)
map_list id n x = at (ltb 0 id && ltb 0 n)
  where
    at : (b : Bool) → map x (pick b (id ∷ []) []) ≡ pick b (x id ∷ []) []
    at true = refl
    at false = refl

-- of ids that are listed, by what holds of each
map_same : (b m : ℕ) (f x y : ℕ → ℕ) → ((v : ℕ) → b ≤ v → v < b + m → x v ≡ y v) → map x (span b m f) ≡ map y (span b m f)
unfolding span
map_same b zero f x y p = refl
map_same b (suc m) f x y p =
    map-append x (span b m f) (list_if (b + m) (f (b + m)) (b + m))
    ∙ ap₂ (λ (l : List ℕ). λ (r : List ℕ). l ++ r)
    (map_same b m f x y (λ v h k. p v h (omega arith)))
    (map_list (b + m) (f (b + m)) x
    ∙ ap (λ (t : ℕ). list_if (b + m) (f (b + m)) t) (p (b + m) (omega arith) (omega arith))
    ∙ sym (map_list (b + m) (f (b + m)) y))
    ∙ sym (map-append y (span b m f) (list_if (b + m) (f (b + m)) (b + m)))

pub list_most : (id n x : ℕ) → length (list_if id n x) ≤ 1
list_most id n x = at (ltb 0 id && ltb 0 n)
  where
    at : (b : Bool) → length (pick b (x ∷ []) []) ≤ 1
    at true = omega arith
    at false = omega arith

pub span_most : (b m : ℕ) (f : ℕ → ℕ) → length (span b m f) ≤ m
unfolding span
span_most b zero f = omega arith
span_most b (suc m) f =
    let h = span_most b m f in
    let k = list_most (b + m) (f (b + m)) (b + m) in
    let l = length-append (span b m f) (list_if (b + m) (f (b + m)) (b + m)) in
    omega arith

-- a part of the ids lists no more than all
span_up : (b m n : ℕ) (f : ℕ → ℕ) → length (span b m f) ≤ length (span b (m + n) f)
unfolding span
span_up b m zero f = let e = ap (λ (k : ℕ). length (span b k f)) (add-zero m) in omega arith
span_up b m (suc n) f =
    let h = span_up b m n f in
    let e = ap (λ (k : ℕ). length (span b k f)) (add-suc m n) in
    let l = length-append (span b (m + n) f) (list_if (b + (m + n)) (f (b + (m + n))) (b + (m + n))) in
    omega arith

-- ---- the window's table says what the cells say

window_at : (base : ℕ) (c : List ℕ) (v : ℕ) → base ≤ v → v < base + 8192 → get_or (id_table base c) (v - base) 0 ≡ id_count c v
window_at base c v h k =
    table_at base c (v - base) (omega arith) ∙ ap (id_count c) (let e : base + (v - base) ≡ v = omega arith in e)

window_ids_lem : (base : ℕ) (c : List ℕ) → window_ids base (id_table base c) ≡ span base 8192 (id_count c)
unfolding window_ids
window_ids_lem base c = span_same base 8192 _ (id_count c) (window_at base c)

window_counts_lem : (base : ℕ) (c : List ℕ) → window_counts base (id_table base c) ≡ map (id_count c) (span base 8192 (id_count c))
unfolding window_ids window_counts
window_counts_lem base c =
    map_same base 8192 _ _ (id_count c) (window_at base c) ∙ ap (map (id_count c)) (span_same base 8192 _ (id_count c) (window_at base c))

-- ---- ids and counts written into two lists

-- p and q stand in the lists from a place on, all else is as it was, and the next ones go behind them
pub record Wrote (start : ℕ) (ids counts p q ids' counts' : List ℕ) (next : ℕ) : Type 0 where
  pub behind : next ≡ start + length p
  pub even : length p ≡ length q
  pub ids_hold : ids' ≡ sets ids start p
  pub counts_hold : counts' ≡ sets counts start q

sets_append : (l : List ℕ) (i : ℕ) (vs us : List ℕ) → sets l i (vs ++ us) ≡ sets (sets l i vs) (i + length vs) us
sets_append l i [] us = ap (λ (k : ℕ). sets l k us) (sym (add-zero i))
sets_append l i (v ∷ vs) us =
    sets_append (set l i v) (suc i) vs us
    ∙ ap (λ (k : ℕ). sets (sets (set l i v) (suc i) vs) k us) (let e : suc i + length vs ≡ i + length (v ∷ vs) = omega arith in e)

module _ {start : ℕ} {ids counts : List ℕ} where
  pub wrote_none : Wrote start ids counts [] [] ids counts start
  wrote_none = record { behind = sym (add-zero start); even = refl; ids_hold = refl; counts_hold = refl }

  -- more of them, behind those that are there
  pub wrote_more : {p q ids' counts' u v ids'' counts'' : List ℕ} {at next : ℕ} → Wrote start ids counts p q ids' counts' at
      → Wrote at ids' counts' u v ids'' counts'' next → Wrote start ids counts (p ++ u) (q ++ v) ids'' counts'' next
  wrote_more {p} {q} {u = u} {v = v} w x =
      record {
        behind = (let e = w.behind in let f = x.behind in let l = length-append p u in omega arith);
        even = length-append p u ∙ ap₂ (λ (i : ℕ). λ (j : ℕ). i + j) w.even x.even ∙ sym (length-append q v);
        ids_hold = x.ids_hold ∙ ap₂ (λ (l : List ℕ). λ (k : ℕ). sets l k u) w.ids_hold w.behind ∙ sym (sets_append ids start p u);
        counts_hold = x.counts_hold ∙ ap₂ (λ (l : List ℕ). λ (k : ℕ). sets l k v) w.counts_hold (w.behind ∙ ap (λ (k : ℕ). start + k) w.even)
            ∙ sym (sets_append counts start q v);
      }

  pub wrote_as : {p q p' q' ids' counts' : List ℕ} {next : ℕ} → p ≡ p' → q ≡ q' → Wrote start ids counts p q ids' counts' next
      → Wrote start ids counts p' q' ids' counts' next
  wrote_as e f w =
      record {
        behind = w.behind ∙ ap (λ (r : List ℕ). start + length r) e;
        even = ap length (sym e) ∙ w.even ∙ ap length f;
        ids_hold = w.ids_hold ∙ ap (sets ids start) e;
        counts_hold = w.counts_hold ∙ ap (sets counts start) f;
      }

  pub ids_long : {p q ids' counts' : List ℕ} {next : ℕ} → Wrote start ids counts p q ids' counts' next → length ids' ≡ length ids
  ids_long {p} w = ap length w.ids_hold ∙ length-sets ids start p

  pub counts_long : {p q ids' counts' : List ℕ} {next : ℕ} → Wrote start ids counts p q ids' counts' next → length counts' ≡ length counts
  counts_long {p} {q} w = ap length w.counts_hold ∙ length-sets counts start q

-- ---- a list with one more at its end, or not

pub record Before (l : List ℕ) (b : Bool) (x i : ℕ) : Type 0 where
  pub lt : i < length l
  pub is : get_or (l ++ pick b (x ∷ []) []) i 0 ≡ get_or l i 0

pub record Last (l : List ℕ) (b : Bool) (x i : ℕ) : Type 0 where
  pub at : i ≡ length l
  pub on : b ≡ true
  pub is : get_or (l ++ pick b (x ∷ []) []) i 0 ≡ x

pub last_case : (l : List ℕ) (b : Bool) (x i : ℕ) → i < length (l ++ pick b (x ∷ []) []) → Before l b x i ⊎ Last l b x i
last_case l b x i h = by (ltb i (length l)) refl
  where
    last : (b : Bool) → i < length (l ++ pick b (x ∷ []) []) → length l ≤ i → Last l b x i
    last true h g =
        let e = length-append l (x ∷ []) in
        let q : i ≡ length l = omega arith in
        record { at = q; on = refl; is = get_or_at l x [] 0 i (sym q) }
    last false h g = absurd (let e = length-append l [] in omega arith)

    by : (t : Bool) → ltb i (length l) ≡ t → Before l b x i ⊎ Last l b x i
    by true e = let k = ltb-true i (length l) e in inl (record { lt = k; is = get_or-append l (pick b (x ∷ []) []) 0 i k })
    by false e = inr (last b h (ltb-false i (length l) e))

-- ---- what is listed

pub list_no_id : (id n x : ℕ) → id ≡ 0 → list_if id n x ≡ []
list_no_id id n x e = rw (le-ltb 0 id (omega arith))

pub list_no_cell : (id n x : ℕ) → n ≡ 0 → list_if id n x ≡ []
list_no_cell id n x e = at (ltb 0 id) (le-ltb 0 n (omega arith))
  where
    at : (a : Bool) → ltb 0 n ≡ false → pick (a && ltb 0 n) (x ∷ []) [] ≡ []
    at true q = rw q
    at false q = refl

pub list_one : (id n x : ℕ) → (id ≡ 0 → ⊥) → (n ≡ 0 → ⊥) → list_if id n x ≡ x ∷ []
list_one id n x p q = rw (lt-ltb 0 id (pos_of_ne-zero p), lt-ltb 0 n (pos_of_ne-zero q))

-- nothing is written for what is not listed
pub wrote_not : (at id n : ℕ) (ids counts : List ℕ) → ((x : ℕ) → list_if id n x ≡ []) → Wrote at ids counts (list_if id n id) (list_if id n n) ids counts at
wrote_not at id n ids counts e = wrote_as (sym (e id)) (sym (e n)) wrote_none

-- an id and its number of cells
pub wrote_one : (at id n : ℕ) (ids counts : List ℕ) → (id ≡ 0 → ⊥) → (n ≡ 0 → ⊥)
    → Wrote at ids counts (list_if id n id) (list_if id n n) (set ids at id) (set counts at n) (at + 1)
wrote_one at id n ids counts p q =
    wrote_as (sym (list_one id n id p q)) (sym (list_one id n n p q)) (record { behind = refl; even = refl; ids_hold = refl; counts_hold = refl })

-- ---- a window, id by id

pub ids_step : (b k : ℕ) (t : List ℕ) → seen_ids b k t ++ list_if (b + k) (get_or t k 0) (b + k) ≡ seen_ids b (k + 1) t
ids_step b k t =
    ap (λ (j : ℕ). seen_ids b k t ++ list_if (b + k) (get_or t j 0) (b + k)) (let e : k ≡ b + k - b = omega arith in e)
    ∙ sym (span_more b k (λ (v : ℕ). get_or t (v - b) 0))

pub counts_step : (b k : ℕ) (t : List ℕ) → seen_counts b k t ++ list_if (b + k) (get_or t k 0) (get_or t k 0) ≡ seen_counts b (k + 1) t
counts_step b k t =
    let f : ℕ → ℕ = λ (v : ℕ). get_or t (v - b) 0 in
    ap (λ (j : ℕ). seen_counts b k t ++ list_if (b + k) (get_or t k 0) (get_or t j 0)) (let e : k ≡ b + k - b = omega arith in e)
    ∙ ap (λ (r : List ℕ). seen_counts b k t ++ r) (sym (map_list (b + k) (get_or t k 0) f))
    ∙ sym (map-append f (seen_ids b k t) (list_if (b + k) (get_or t k 0) (b + k)))
    ∙ ap (map f) (ids_step b k t)

pub seen_length : (b k : ℕ) (t : List ℕ) → length (seen_ids b k t) + length (list_if (b + k) (get_or t k 0) (b + k)) ≡ length (seen_ids b (k + 1) t)
seen_length b k t = sym (length-append (seen_ids b k t) (list_if (b + k) (get_or t k 0) (b + k))) ∙ ap length (ids_step b k t)

pub seen_room : (b k : ℕ) (t : List ℕ) → k < 8192 → length (seen_ids b (k + 1) t) ≤ length (window_ids b t)
unfolding window_ids
seen_room b k t h =
    let u = span_up b (k + 1) (8192 - (k + 1)) (λ (v : ℕ). get_or t (v - b) 0) in
    let e = ap (λ (j : ℕ). length (seen_ids b j t)) (let q : k + 1 + (8192 - (k + 1)) ≡ 8192 = omega arith in q) in
    omega arith

pub window_most : (b : ℕ) (t : List ℕ) → length (window_ids b t) ≤ 8192
unfolding window_ids
window_most b t = span_most b 8192 (λ (v : ℕ). get_or t (v - b) 0)

-- ---- window by window

ids_window : (w : ℕ) (c t : List ℕ) → t ≡ id_table (w * 8192) c
    → ids_to (w * 8192) (id_count c) ++ window_ids (w * 8192) t ≡ ids_to ((w + 1) * 8192) (id_count c)
ids_window w c t e =
    ap (λ (r : List ℕ). ids_to (w * 8192) (id_count c) ++ r) (ap (window_ids (w * 8192)) e ∙ window_ids_lem (w * 8192) c)
    ∙ sym (span_add (w * 8192) 8192 (id_count c))
    ∙ ap (λ (k : ℕ). ids_to k (id_count c)) (let q : w * 8192 + 8192 ≡ (w + 1) * 8192 = omega arith in q)

counts_window : (w : ℕ) (c t : List ℕ) → t ≡ id_table (w * 8192) c
    → counts_to (w * 8192) (id_count c) ++ window_counts (w * 8192) t ≡ counts_to ((w + 1) * 8192) (id_count c)
counts_window w c t e =
    ap (λ (r : List ℕ). counts_to (w * 8192) (id_count c) ++ r) (ap (window_counts (w * 8192)) e ∙ window_counts_lem (w * 8192) c)
    ∙ sym (map-append (id_count c) (ids_to (w * 8192) (id_count c)) (span (w * 8192) 8192 (id_count c)))
    ∙ ap (map (id_count c))
    (ap (λ (r : List ℕ). ids_to (w * 8192) (id_count c) ++ r) (sym (ap (window_ids (w * 8192)) e ∙ window_ids_lem (w * 8192) c)) ∙ ids_window w c t e)

pub window_length : (w : ℕ) (c t : List ℕ) → t ≡ id_table (w * 8192) c
    → length (ids_to (w * 8192) (id_count c)) + length (window_ids (w * 8192) t) ≡ length (ids_to ((w + 1) * 8192) (id_count c))
window_length w c t e = sym (length-append (ids_to (w * 8192) (id_count c)) (window_ids (w * 8192) t)) ∙ ap length (ids_window w c t e)

pub prefix_most : (w : ℕ) (c : List ℕ) → w ≤ 8 → length (ids_to (w * 8192) (id_count c)) ≤ length (present_ids c)
unfolding present_ids
prefix_most w c h =
    let u = span_up 0 (w * 8192) (65536 - w * 8192) (id_count c) in
    let e = ap (λ (k : ℕ). length (ids_to k (id_count c))) (let q : w * 8192 + (65536 - w * 8192) ≡ 65536 = omega arith in q) in
    omega arith

-- the windows before w, and then window w
pub wrote_window : (w : ℕ) (c t : List ℕ) {ids counts ids' counts' ids'' counts'' : List ℕ} {at next : ℕ} → t ≡ id_table (w * 8192) c
    → Wrote 0 ids counts (ids_to (w * 8192) (id_count c)) (counts_to (w * 8192) (id_count c)) ids' counts' at
    → Wrote at ids' counts' (window_ids (w * 8192) t) (window_counts (w * 8192) t) ids'' counts'' next
    → Wrote 0 ids counts (ids_to ((w + 1) * 8192) (id_count c)) (counts_to ((w + 1) * 8192) (id_count c)) ids'' counts'' next
wrote_window w c t e l m = wrote_as (ids_window w c t e) (counts_window w c t e) (wrote_more l m)

-- once as many ids are written as the cells have, window w has none: nothing is left to write
pub wrote_by_then : (w : ℕ) (c : List ℕ) {ids counts ids' counts' : List ℕ} {at : ℕ} → w + 1 ≤ 8 → length (present_ids c) ≤ at
    → Wrote 0 ids counts (ids_to (w * 8192) (id_count c)) (counts_to (w * 8192) (id_count c)) ids' counts' at
    → Wrote 0 ids counts (ids_to ((w + 1) * 8192) (id_count c)) (counts_to ((w + 1) * 8192) (id_count c)) ids' counts' at
wrote_by_then w c {at = at} h k l =
    let f = id_count c in
    let t = id_table (w * 8192) c in
    let b = l.behind in
    let e = window_length w c t refl in
    let m = prefix_most (w + 1) c h in
    let none : window_ids (w * 8192) t ≡ [] = nil _ (omega arith) in
    let same = sym (append-nil (ids_to (w * 8192) f)) ∙ ap (λ (r : List ℕ). ids_to (w * 8192) f ++ r) (sym none) ∙ ids_window w c t refl in
    wrote_as same (ap (map f) same) l

-- all windows
pub ids_all : (w : ℕ) (c : List ℕ) → w * 8192 ≡ 65536 → ids_to (w * 8192) (id_count c) ≡ present_ids c
unfolding present_ids
ids_all w c e = ap (λ (k : ℕ). ids_to k (id_count c)) e

pub counts_all : (w : ℕ) (c : List ℕ) → w * 8192 ≡ 65536 → counts_to (w * 8192) (id_count c) ≡ present_counts c
unfolding present_counts
counts_all w c e = ap (map (id_count c)) (ids_all w c e)
