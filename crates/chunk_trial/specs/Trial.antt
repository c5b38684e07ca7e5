-- A batch tried on a copy of the cells, a part of them at a time (SCOPE 5.6, 5.10). Assumes nothing.
use Rattle.std.specs.Prelude.{◌≡◌, refl, Bool, true, false, List, [], ◌∷◌, ◌++◌, ℕ, zero, suc, ◌+◌, ◌-◌, ◌*◌, ◌/◌, ◌≤◌, ◌<◌, ltb, eqb, length, set, get_or}
use Rattle.std.proofs.Common.{sym, ap, ◌∙◌, append_assoc, append-nil, arith, add-one, length-set, get_or-set_same, get_or-set_other, ext_get_or}
use Rattle.std.proofs.Math.ListN.{get_or-eq_default}
use borrow.Author.Tests.{ltb-true, ltb-false, eqb-true, eqb-false}
use Rattle.basics.specs.Bools.{pick, by_bool}
use Rattle.grid.specs.Cube.{Cube, cell_index, tab, steps}
use Rattle.grid.specs.Grid.{index_lt, tab_length, tab_at, cube_most, steps_length, tab_list}
use Rattle.grid.specs.Count.{non_air, non_air_count, count_append, count_none, count_one, count_most}
use Rattle.chunk.specs.Tests.{Inside}
use Rattle.chunk.specs.Moves.{put_inside}
use Rattle.grid_edits.specs.Edits.{Group, group_inside, put_group, batch_groups, inside_groups, batch_cells}
use Rattle.journal_write.specs.Groups.{group_of}
use Rattle.chunk_groups.specs.Laid.{laid, laid_length, laid_all, group_inside_lem, put_outside}
use Rattle.chunk_groups.specs.Net.{Net}
use Rattle.chunk_groups.specs.declared.Change.{Change}

-- 16,384 cells from `start` on, air past the last
unfoldable pub part_of : ℕ → List ℕ → List ℕ
part_of start c = tab 16384 (λ (k : ℕ). get_or c (start + k) 0)

-- v at place i of the cells, as far as it lies in the part
unfoldable pub put_at_part : ℕ → ℕ → ℕ → List ℕ → List ℕ
put_at_part start i v p = pick (ltb i start) p (pick (ltb (i - start) 16384) (set p (i - start) v) p)

-- a group laid on a part
unfoldable pub put_part : ℕ → ℕ → Group → List ℕ → List ℕ
put_part start size g p = pick (group_inside size g) (put_at_part start (cell_index size g.x g.y g.z) g.id p) p

-- the first k groups of the batch ns
unfoldable pub part_laid : ℕ → ℕ → List ℕ → ℕ → List ℕ → List ℕ
part_laid start size ns k p = steps k (λ (j : ℕ). λ (d : List ℕ). put_part start size (group_of ns (4 * j)) d) p

-- ---- a part of the cells goes as the cells do

pub part_length : (start : ℕ) (c : List ℕ) → length (part_of start c) ≡ 16384
unfolding part_of
part_length start c = tab_length 16384 (λ (k : ℕ). get_or c (start + k) 0)

part_at : (start : ℕ) (c : List ℕ) (k : ℕ) → k < 16384 → get_or (part_of start c) k 0 ≡ get_or c (start + k) 0
unfolding part_of
part_at start c k h = tab_at 16384 (λ (k : ℕ). get_or c (start + k) 0) k h

module _ (start i v : ℕ) (c : List ℕ) where
  -- a place elsewhere
  part_other : ((k : ℕ) → k < 16384 → start + k ≡ i → ⊥) → part_of start c ≡ part_of start (set c i v)
  part_other n =
      ext_get_or 0 _ _ (part_length start c ∙ sym (part_length start (set c i v)))
      (λ k b.
      let l = part_length start c in
      let h : k < 16384 = omega arith in
      part_at start c k h ∙ sym (get_or-set_other c i (start + k) v 0 (n k h)) ∙ sym (part_at start (set c i v) k h))

  -- a place of the part
  part_same : start ≤ i → i - start < 16384 → i < length c → set (part_of start c) (i - start) v ≡ part_of start (set c i v)
  part_same a b m =
      ext_get_or 0 _ _ (length-set (part_of start c) (i - start) v ∙ part_length start c ∙ sym (part_length start (set c i v)))
      (λ k b'.
      let l = length-set (part_of start c) (i - start) v ∙ part_length start c in
      let h : k < 16384 = omega arith in
      at k h (eqb k (i - start)) refl)
    where
      at : (k : ℕ) → k < 16384 → (d : Bool) → eqb k (i - start) ≡ d → get_or (set (part_of start c) (i - start) v) k 0 ≡ get_or (part_of start (set c i v)) k 0
      at k h true e =
          let q : k ≡ i - start = eqb-true k (i - start) e in
          let r : start + k ≡ i = omega arith in
          let l = part_length start c in
          ap (λ (j : ℕ). get_or (set (part_of start c) (i - start) v) j 0) q
          ∙ get_or-set_same (part_of start c) (i - start) v 0 (omega arith)
          ∙ sym (get_or-set_same c i v 0 m)
          ∙ sym (ap (λ (j : ℕ). get_or (set c i v) j 0) r)
          ∙ sym (part_at start (set c i v) k h)
      at k h false e =
          let n = eqb-false k (i - start) e in
          get_or-set_other (part_of start c) (i - start) k v 0 n
          ∙ part_at start c k h
          ∙ sym (get_or-set_other c i (start + k) v 0 (λ q. n (omega arith)))
          ∙ sym (part_at start (set c i v) k h)

  part_index : i < length c → put_at_part start i v (part_of start c) ≡ part_of start (set c i v)
  unfolding put_at_part
  part_index m =
      by_bool (ltb i start)
      (λ e. let l = ltb-true i start e in rw e (part_other (λ k h q. omega arith)))
      (λ e. let l = ltb-false i start e in by_bool (ltb (i - start) 16384)
      (λ f. rw (e, f) (part_same l (ltb-true (i - start) 16384 f) m))
      (λ f. let o = ltb-false (i - start) 16384 f in rw (e, f) (part_other (λ k h q. omega arith))))

part_put : (start size : ℕ) (g : Group) (c : List ℕ) → length c ≡ size * size * size
    → put_part start size g (part_of start c) ≡ part_of start (put_group size g c)
unfolding put_part
part_put start size g c l =
    by_bool (group_inside size g)
    (λ e. let i : Inside size g.x g.y g.z = group_inside_lem size g e in
    let m = index_lt size g.x g.y g.z i.x_in i.y_in i.z_in in
    rw e (part_index start (cell_index size g.x g.y g.z) g.id c (omega arith)
    ∙ sym (ap (part_of start) (put_inside size g.x g.y g.z g.id c i))))
    (λ e. rw e (sym (ap (part_of start) (put_outside size g c e))))

pub part_laid_lem : (start size : ℕ) (ns : List ℕ) (k : ℕ) (c : List ℕ) → length c ≡ size * size * size
    → part_laid start size ns k (part_of start c) ≡ part_of start (laid size ns k c)
unfolding part_laid laid steps
part_laid_lem start size ns zero c l = refl
part_laid_lem start size ns (suc k) c l =
    ap (put_part start size (group_of ns (4 * k))) (part_laid_lem start size ns k c l)
    ∙ part_put start size (group_of ns (4 * k)) (laid size ns k c) (laid_length size ns k c ∙ l)

pub part_none : (start size : ℕ) (ns p : List ℕ) → p ≡ part_laid start size ns 0 p
unfolding part_laid steps
part_none start size ns p = refl

pub part_more : (start size : ℕ) (ns : List ℕ) (k : ℕ) (p : List ℕ)
    → put_part start size (group_of ns (4 * k)) (part_laid start size ns k p) ≡ part_laid start size ns (k + 1) p
unfolding part_laid steps
part_more start size ns k p = ap (λ (j : ℕ). part_laid start size ns j p) (sym (add-one k))

put_part_length : (start size : ℕ) (g : Group) (p : List ℕ) → length (put_part start size g p) ≡ length p
unfolding put_part put_at_part
put_part_length start size g p = at (group_inside size g) (ltb i start) (ltb (i - start) 16384)
  where
    i : ℕ
    i = cell_index size g.x g.y g.z

    at : (a b d : Bool) → length (pick a (pick b p (pick d (set p (i - start) g.id) p)) p) ≡ length p
    at true true d = refl
    at true false true = length-set p (i - start) g.id
    at true false false = refl
    at false b d = refl

pub part_laid_length : (start size : ℕ) (ns : List ℕ) (k : ℕ) (p : List ℕ) → length (part_laid start size ns k p) ≡ length p
unfolding part_laid
part_laid_length start size ns k p =
    steps_length k (λ (j : ℕ). λ (d : List ℕ). put_part start size (group_of ns (4 * j)) d) p (λ j d. put_part_length start size (group_of ns (4 * j)) d)

-- ---- the counts of the parts make the count of the cells

tab_split : (a b : ℕ) (f : ℕ → ℕ) → tab (a + b) f ≡ tab a f ++ tab b (λ (k : ℕ). f (a + k))
unfolding tab
tab_split a zero f = let e : a + 0 ≡ a = omega arith in ap (λ (n : ℕ). tab n f) e ∙ sym (append-nil (tab a f))
tab_split a (suc b) f =
    let e : a + suc b ≡ suc (a + b) = omega arith in
    ap (λ (n : ℕ). tab n f) e
    ∙ ap (λ (r : List ℕ). r ++ (f (a + b) ∷ [])) (tab_split a b f)
    ∙ append_assoc (tab a f) (tab b (λ (k : ℕ). f (a + k))) (f (a + b) ∷ [])

-- how many of the first n cells are not air
unfoldable pub count_to : ℕ → List ℕ → ℕ
count_to n c = non_air_count (tab n (λ (k : ℕ). get_or c k 0))

pub count_to_none : (c : List ℕ) → count_to 0 c ≡ 0
unfolding count_to tab
count_to_none c = count_none

pub count_to_most : (n : ℕ) (c : List ℕ) → count_to n c ≤ n
unfolding count_to
count_to_most n c =
    let e = tab_length n (λ (k : ℕ). get_or c k 0) in let m = count_most (tab n (λ (k : ℕ). get_or c k 0)) in omega arith

pub count_to_more : (start : ℕ) (c : List ℕ) → count_to (start + 16384) c ≡ count_to start c + non_air_count (part_of start c)
unfolding count_to part_of
count_to_more start c =
    ap non_air_count (tab_split start 16384 (λ (k : ℕ). get_or c k 0))
    ∙ count_append (tab start (λ (k : ℕ). get_or c k 0)) (tab 16384 (λ (k : ℕ). get_or c (start + k) 0))

-- past the last cell nothing is counted
count_air : (n m : ℕ) (c : List ℕ) → length c ≤ m → non_air_count (tab n (λ (k : ℕ). get_or c (m + k) 0)) ≡ 0
unfolding tab
count_air zero m c h = count_none
count_air (suc n) m c h =
    let e = count_append (tab n (λ (k : ℕ). get_or c (m + k) 0)) (get_or c (m + n) 0 ∷ []) in
    let f = count_air n m c h in
    let g = count_one (get_or c (m + n) 0) ∙ ap non_air (get_or-eq_default c 0 {n = m + n} (omega arith)) in
    omega arith

pub count_to_all : (n : ℕ) (c : List ℕ) → length c ≤ n → count_to n c ≡ non_air_count c
unfolding count_to
count_to_all n c h =
    let e : n ≡ length c + (n - length c) = omega arith in
    let s = count_append (tab (length c) (λ (k : ℕ). get_or c k 0)) (tab (n - length c) (λ (k : ℕ). get_or c (length c + k) 0)) in
    let z = count_air (n - length c) (length c) c (omega arith) in
    let t = ap non_air_count (tab_list c) in
    ap (λ (j : ℕ). non_air_count (tab j (λ (k : ℕ). get_or c k 0))) e
    ∙ ap non_air_count (tab_split (length c) (n - length c) (λ (k : ℕ). get_or c k 0))
    ∙ omega arith

-- ---- the change of a batch by its counts

pub net_more : (c d : List ℕ) (m n : ℕ) (r : Change) → m ≤ n → Net c d m r → Net c d n r
net_more c d m n r h a =
    record { moves = a.moves; most_before = omega (arith, a.most_before); most_after = omega (arith, a.most_after) }

pub net_counted : (size : ℕ) (ns c : List ℕ) (n : ℕ) (r : Change) → Cube size c → r.before ≡ non_air_count c
    → r.after ≡ non_air_count (batch_cells size (inside_groups size (batch_groups ns)) c)
    → Net c (batch_cells size (inside_groups size (batch_groups ns)) c) (n + 262144) r
net_counted size ns c n r h p q =
    let d : List ℕ = batch_cells size (inside_groups size (batch_groups ns)) c in
    let l = ap length (sym (laid_all size ns (length ns / 4) c refl)) ∙ laid_length size ns (length ns / 4) c ∙ h.all in
    let a = count_most c in
    let b = count_most d in
    let s = cube_most size h.most in
    let e = h.all in
    record { moves = omega arith; most_before = omega arith; most_after = omega arith }
