-- The order of a tally (SCOPE 5.9): its ids come upward, it says all that it said while their order was free, and there is no other
-- outcome of which both hold. Assumes nothing.
use Rattle.std.specs.Prelude.{◌≡◌, refl, ℕ, zero, suc, ◌≤◌, ◌<◌, List, length, get_or}
use Rattle.std.proofs.Common.{sym, ap, ◌∙◌, subst, arith}
use Rattle.std.proofs.lemmas.List.Edits.{sets}
use Rattle.basics.specs.Naturals.{split}
use Rattle.config.specs.Answers.{Answer, is_refused, not_refused}
use Rattle.chunk_tally.specs.Ids.{id_count, present_ids, present_counts}
use Rattle.chunk_tally.specs.Tally.{tally_refusal, TallyOutcome, tally_outcome, chunk_tally_does}
use Rattle.chunk_tally.specs.AnyOrder.{Place, Listing, Tallied}
use Rattle.chunk_tally.specs.Does.{long_enough}
use Rattle.chunk_tally.proofs.Does.{does_refuse, does_list}
use Rattle.chunk_tally.specs.Lists.{listed_ids, listed_once, every_id, ids_upward, count_at, same_length, first_at, first_past, first_only}
use Rattle.chunk_tally.specs.Order.{Upward}

-- ---- its ids come upward

pub ascending : (size : ℕ) (c ids counts : List ℕ) → tally_refusal size c (length ids) (length counts) ≡ 0
    → Upward (chunk_tally_does size c ids counts).ids (length (present_ids c))
ascending size c ids counts e i j l h =
    let o = ap (λ (q : TallyOutcome). q.ids) (sym (does_list size c ids counts _ _ _ e refl refl refl)) in
    let w = (long_enough size c (length ids) (length counts) e).ids in
    let a = ap (λ (r : List ℕ). get_or r i 0) o ∙ first_at (present_ids c) ids w i (omega arith) in
    let b = ap (λ (r : List ℕ). get_or r j 0) o ∙ first_at (present_ids c) ids w j h in
    let u = ids_upward c i j l h in
    omega arith

-- ---- all else is as it was while their order was free

listing : (c ids counts : List ℕ) → length (present_ids c) ≤ length ids → length (present_ids c) ≤ length counts
    → Listing c (sets ids 0 (present_ids c)) (sets counts 0 (present_counts c)) (length (present_ids c))
listing c ids counts hi hc =
    let n : ℕ = length (present_ids c) in
    let e = same_length c in
    let at : (i : ℕ) → i < n → get_or (sets ids 0 (present_ids c)) i 0 ≡ get_or (present_ids c) i 0 = first_at (present_ids c) ids hi in
    record {
      nonzero = λ i h. subst (λ (v : ℕ). 0 < v) (sym (at i h)) (listed_ids c i h).low;
      present = λ i h. subst (λ (v : ℕ). 0 < id_count c v) (sym (at i h)) (listed_ids c i h).some;
      counted = λ i h. first_at (present_counts c) counts (omega arith) i (omega arith) ∙ count_at c i h ∙ ap (id_count c) (sym (at i h));
      once = λ i j hi hj q. listed_once c i j hi hj (sym (at i hi) ∙ q ∙ at j hj);
      every = λ v p h s. let q = every_id c v p h s in record { at = q.at; within = q.within; holds = at q.at q.within ∙ q.holds };
    }

pub as_before : (size : ℕ) (c ids counts : List ℕ)
    → (let o : TallyOutcome = chunk_tally_does size c ids counts in Tallied size c o.answer ids counts o.ids o.counts)
as_before size c ids counts = at (tally_refusal size c (length ids) (length counts)) refl
  where
    Says : TallyOutcome → Type 0
    Says o = Tallied size c o.answer ids counts o.ids o.counts

    at : (k : ℕ) → tally_refusal size c (length ids) (length counts) ≡ k → Says (chunk_tally_does size c ids counts)
    at zero e =
        let w = long_enough size c (length ids) (length counts) e in
        subst Says (does_list size c ids counts _ _ _ e refl refl refl)
        (record {
          answer = sym (not_refused _ _ _ e);
          listing = λ q. listing c ids counts w.ids w.counts;
          ids_past = λ q. first_past (present_ids c) ids _ refl w.ids;
          counts_past = λ q. first_past (present_counts c) counts _ (same_length c) w.counts;
          ids_kept = λ q. absurd (q e);
          counts_kept = λ q. absurd (q e);
        })
    at (suc k) e =
        let no : tally_refusal size c (length ids) (length counts) ≡ 0 → ⊥ = λ q. (omega arith) in
        subst Says (does_refuse size c ids counts _ refl no)
        (record {
          answer = sym (is_refused _ _ _ no);
          listing = λ q. absurd (no q);
          ids_past = λ q. absurd (no q);
          counts_past = λ q. absurd (no q);
          ids_kept = λ q. refl;
          counts_kept = λ q. refl;
        })

-- ---- and there is no other outcome

least : (l : List ℕ) (n i j : ℕ) → Upward l n → i ≤ j → j < n → get_or l i 0 ≤ get_or l j 0
least l n i j u h k = split j i
    (λ g. let e = ap (λ (t : ℕ). get_or l t 0) (let q : i ≡ j = omega arith in q) in omega arith)
    (λ g. let w = u i j g k in omega arith)

-- of two lists that go upward and are equal below i: where the second holds the i-th of the first, its own i-th is no greater
not_above : (l m : List ℕ) (n i : ℕ) → Upward l n → Upward m n → i < n → ((j : ℕ) → j < i → get_or l j 0 ≡ get_or m j 0) → Place m n (get_or l i 0)
    → get_or m i 0 ≤ get_or l i 0
not_above l m n i u v h same p = split i p.at
    (λ g. let w = least m n i p.at v g p.within in let e = p.holds in omega arith)
    (λ g. absurd (let w = u p.at i g h in let s = same p.at g in let e = p.holds in omega arith))

-- .. so that lists whose first n places hold the same numbers are equal there
same_upward : (l m : List ℕ) (n : ℕ) → Upward l n → Upward m n → ((i : ℕ) → i < n → Place m n (get_or l i 0))
    → ((i : ℕ) → i < n → get_or m i 0 ≤ get_or l i 0 → Place l n (get_or m i 0)) → (k i : ℕ) → i < k → i < n → get_or l i 0 ≡ get_or m i 0
same_upward l m n u v p q zero i h g = absurd (omega arith)
same_upward l m n u v p q (suc k) i h g =
    let below : (j : ℕ) → j < i → get_or l j 0 ≡ get_or m j 0 = λ j s. same_upward l m n u v p q k j (omega arith) (omega arith) in
    let a = not_above l m n i u v g below (p i g) in
    let b = not_above m l n i v u g (λ j s. sym (below j s)) (q i g a) in
    omega arith

ids_only : (c ids counts : List ℕ) → Listing c ids counts (length (present_ids c)) → Upward ids (length (present_ids c))
    → (i : ℕ) → i < length (present_ids c) → get_or ids i 0 ≡ get_or (present_ids c) i 0
ids_only c ids counts s u i h =
    sym
    (same_upward (present_ids c) ids (length (present_ids c)) (ids_upward c) u
    (λ j g. let o = listed_ids c j g in s.every _ o.low o.high o.some)
    (λ j g m. let o = (listed_ids c j g).high in every_id c _ (s.nonzero j g) (omega arith) (s.present j g))
    (suc i) i (omega arith) h)

pub only_outcome : (size : ℕ) (c : List ℕ) (a : Answer) (ids counts ids' counts' : List ℕ) → Tallied size c a ids counts ids' counts'
    → (tally_refusal size c (length ids) (length counts) ≡ 0 → Upward ids' (length (present_ids c)))
    → tally_outcome a ids' counts' ≡ chunk_tally_does size c ids counts
only_outcome size c a ids counts ids' counts' t u = at (tally_refusal size c (length ids) (length counts)) refl
  where
    at : (k : ℕ) → tally_refusal size c (length ids) (length counts) ≡ k → tally_outcome a ids' counts' ≡ chunk_tally_does size c ids counts
    at zero e =
        let w = long_enough size c (length ids) (length counts) e in
        let s = t.listing e in
        let q = ids_only c ids' counts' s (u e) in
        let n = same_length c in
        ap (λ (b : Answer). tally_outcome b ids' counts') (t.answer ∙ not_refused _ _ _ e)
        ∙ does_list size c ids counts ids' counts' _ e refl
        (first_only (present_ids c) ids ids' _ refl w.ids (t.ids_past e) q)
        (first_only (present_counts c) counts counts' _ n w.counts (t.counts_past e)
        (λ i h. s.counted i h ∙ ap (id_count c) (q i h) ∙ sym (count_at c i h)))
    at (suc k) e =
        let no : tally_refusal size c (length ids) (length counts) ≡ 0 → ⊥ = λ q. (omega arith) in
        (λ i. tally_outcome ((t.answer ∙ is_refused _ _ _ no) i) (t.ids_kept no i) (t.counts_kept no i)) ∙ does_refuse size c ids counts _ refl no
