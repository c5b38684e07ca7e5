-- Some rows of a chunk's columns, from one on below another, and the slabs of equal z that they stand in. Assumes nothing.
use Rattle.std.specs.Prelude.{◌≡◌, refl, ℕ, zero, suc, ◌+◌, ◌-◌, ◌*◌, ◌/◌, ◌≤◌, ◌<◌, Bool, true, false, ◌&&◌, List, ltb, leb, eqb}
use Rattle.std.proofs.Common.{sym, ap, ◌∙◌, subst, arith, add-mul, mul-le-mul_right, div-lt_iff_lt-mul, le-div_iff_mul-le}
use borrow.Author.Tests.{ltb-true, ltb-false, leb-true, le-leb, lt-ltb, le-ltb, eqb-true, eqb-false}
use Rattle.basics.specs.Bools.{by_bool, and_both}
use Rattle.grid.specs.Cube.{steps}
use Rattle.grid.specs.Grid.{steps_same, steps_split, steps_none, steps_more}

-- z is one of lo ≤ z < hi
unfoldable pub in_rows : ℕ → ℕ → ℕ → Bool
in_rows lo hi z = leb lo z && ltb z hi

-- the columns of the rows from `first` on below `last`, in their order
unfoldable pub over_rows : ℕ → ℕ → ℕ → (ℕ → List ℕ → List ℕ) → List ℕ → List ℕ
over_rows s first last f c = steps ((last - first) * s) (λ (j : ℕ). f (first * s + j)) c

-- those of the rows from `first` on below z, and the first x of row z
unfoldable pub over_columns : ℕ → ℕ → ℕ → ℕ → (ℕ → List ℕ → List ℕ) → List ℕ → List ℕ
over_columns s first z x f c = steps ((z - first) * s + x) (λ (j : ℕ). f (first * s + j)) c

-- z is one of them, and then it lies so
pub rows_in : (lo hi z : ℕ) → lo ≤ z → z < hi → in_rows lo hi z ≡ true
unfolding in_rows
rows_in lo hi z a b = rw (le-leb lo z a, lt-ltb z hi b)

pub rows_is : (lo hi z : ℕ) → in_rows lo hi z ≡ true → (lo ≤ z) × (z < hi)
unfolding in_rows
rows_is lo hi z e = let b = and_both (leb lo z) (ltb z hi) e in (leb-true lo z b.0, ltb-true z hi b.1)

-- it is none of them
pub rows_off : (lo hi z : ℕ) → (lo ≤ z → z < hi → ⊥) → in_rows lo hi z ≡ false
unfolding in_rows
rows_off lo hi z n = by_bool (leb lo z)
    (λ e. rw e (le-ltb z hi (by_bool (ltb z hi) (λ f. absurd (n (leb-true lo z e) (ltb-true z hi f))) (λ f. ltb-false z hi f))))
    (λ e. rw e)

-- the slab k alone
pub row_one : (k z : ℕ) → in_rows k (k + 1) z ≡ eqb z k
row_one k z = by_bool (eqb z k)
    (λ e. let f = eqb-true z k e in rw e (rows_in k (k + 1) z (omega arith) (omega arith)))
    (λ e. let f = eqb-false z k e in rw e (rows_off k (k + 1) z (λ a b. f (omega arith))))

-- ---- steps

-- steps that each change nothing
pub steps_idle : (n : ℕ) (f : ℕ → List ℕ → List ℕ) (c : List ℕ) → ((k : ℕ) (d : List ℕ) → k < n → f k d ≡ d) → steps n f c ≡ c
unfolding steps
steps_idle zero f c h = refl
steps_idle (suc n) f c h = h n (steps n f c) (omega arith) ∙ steps_idle n f c (λ k d l. h k d (omega arith))

-- of the first m steps only those from a on below a + n do something
pub steps_range : (m a n : ℕ) (f : ℕ → List ℕ → List ℕ) (c : List ℕ) → a + n ≤ m
    → ((k : ℕ) (d : List ℕ) → k < a → f k d ≡ d) → ((k : ℕ) (d : List ℕ) → a + n ≤ k → k < m → f k d ≡ d)
    → steps m f c ≡ steps n (λ (j : ℕ). f (a + j)) c
steps_range m a n f c h p q =
    ap (λ (k : ℕ). steps k f c) (let e : m ≡ (a + n) + (m - (a + n)) = omega arith in e)
    ∙ steps_split (a + n) (m - (a + n)) f c
    ∙ steps_idle (m - (a + n)) (λ (j : ℕ). f (a + n + j)) (steps (a + n) f c) (λ k d l. q (a + n + k) d (omega arith) (omega arith))
    ∙ steps_split a n f c
    ∙ ap (λ (d : List ℕ). steps n (λ (j : ℕ). f (a + j)) d) (steps_idle a f c p)

-- where row z begins, counted from an earlier one
row_at : (s first z : ℕ) → first ≤ z → first * s + (z - first) * s ≡ z * s
row_at s first z h = sym (add-mul first (z - first) s) ∙ ap (λ (n : ℕ). n * s) (let e : first + (z - first) ≡ z = omega arith in e)

module _ (s first last : ℕ) (hf : first ≤ last) (hl : last ≤ s) where
  -- where the rows end
  pub rows_end : first * s + (last - first) * s ≡ last * s
  rows_end = row_at s first last hf

  pub rows_fit : first * s + (last - first) * s ≤ s * s
  rows_fit = subst (λ (n : ℕ). n ≤ s * s) (sym rows_end) (mul-le-mul_right s hl)

module _ (s first last : ℕ) (ps : 0 < s) (hf : first ≤ last) (hl : last ≤ s) where
  pub rows_only : (f : ℕ → List ℕ → List ℕ) (c : List ℕ)
      → ((k : ℕ) (d : List ℕ) → k / s < first → f k d ≡ d) → ((k : ℕ) (d : List ℕ) → last ≤ k / s → k < s * s → f k d ≡ d)
      → steps (s * s) f c ≡ over_rows s first last f c
  unfolding over_rows
  rows_only f c p q =
      steps_range (s * s) (first * s) ((last - first) * s) f c (rows_fit s first last hf hl)
      (λ k d h. p k d ((div-lt_iff_lt-mul {k = s} {x = k} {y = first} ps).1 h))
      (λ k d h l. q k d ((le-div_iff_mul-le {k = s} {x = last} {y = k} ps).1 (subst (λ (n : ℕ). n ≤ k) (rows_end s first last hf hl) h)) l)

  -- a column of those rows
  pub row_in : (j : ℕ) → j < (last - first) * s → in_rows first last ((first * s + j) / s) ≡ true
  unfolding in_rows
  row_in j h =
      let a : first ≤ (first * s + j) / s = (le-div_iff_mul-le {k = s} {x = first} {y = first * s + j} ps).1 (omega arith) in
      let e = rows_end s first last hf hl in
      let b : (first * s + j) / s < last = (div-lt_iff_lt-mul {k = s} {x = first * s + j} {y = last} ps).1 (omega arith) in
      rw (le-leb first _ a, lt-ltb _ last b)

-- ---- row after row

-- w steps a row: one step more, and a row that is through
module _ (w i : ℕ) (f : ℕ → List ℕ → List ℕ) (c d : List ℕ) where
  pub row_more : (m : ℕ) → d ≡ steps (i * w + m) f c → f (i * w + m) d ≡ steps (i * w + (m + 1)) f c
  row_more m e = ap (f (i * w + m)) e ∙ steps_more (i * w + m) f c ∙ ap (λ (n : ℕ). steps n f c) (let q : i * w + m + 1 ≡ i * w + (m + 1) = omega arith in q)

  pub row_next : d ≡ steps (i * w + w) f c → d ≡ steps ((i + 1) * w) f c
  row_next e = e ∙ ap (λ (n : ℕ). steps n f c) (let g = add-mul i 1 w in let q : i * w + w ≡ (i + 1) * w = omega arith in q)

-- the same of the columns of the rows from `first` on
module _ (s first : ℕ) (f : ℕ → List ℕ → List ℕ) (c : List ℕ) where
  pub columns_none : c ≡ over_columns s first first 0 f c
  unfolding over_columns
  columns_none =
      steps_none (λ (j : ℕ). f (first * s + j)) c
      ∙ ap (λ (n : ℕ). steps n (λ (j : ℕ). f (first * s + j)) c)
      (let z : first - first ≡ 0 = omega arith in let q : 0 ≡ (first - first) * s + 0 = rw z (omega arith) in q)

  pub columns_more : (z x : ℕ) (d : List ℕ) → first ≤ z → d ≡ over_columns s first z x f c → f (z * s + x) d ≡ over_columns s first z (x + 1) f c
  unfolding over_columns
  columns_more z x d h e =
      ap (λ (k : ℕ). f k d) (let g = row_at s first z h in let q : z * s + x ≡ first * s + ((z - first) * s + x) = omega arith in q)
      ∙ row_more s (z - first) (λ (j : ℕ). f (first * s + j)) c d x e

  pub columns_next : (z : ℕ) (d : List ℕ) → first ≤ z → d ≡ over_columns s first z s f c → d ≡ over_columns s first (z + 1) 0 f c
  unfolding over_columns
  columns_next z d h e =
      row_next s (z - first) (λ (j : ℕ). f (first * s + j)) c d e
      ∙ ap (λ (n : ℕ). steps n (λ (j : ℕ). f (first * s + j)) c)
      (let k : z - first + 1 ≡ z + 1 - first = omega arith in let q : (z - first + 1) * s ≡ (z + 1 - first) * s + 0 = rw k (omega arith) in q)

  pub columns_all : (z : ℕ) (d : List ℕ) → d ≡ over_columns s first z 0 f c → d ≡ over_rows s first z f c
  unfolding over_columns over_rows
  columns_all z d e =
      e ∙ ap (λ (n : ℕ). steps n (λ (j : ℕ). f (first * s + j)) c) (let q : (z - first) * s + 0 ≡ (z - first) * s = omega arith in q)

-- rows of columns that do the same
pub rows_same : (s first last : ℕ) (f g : ℕ → List ℕ → List ℕ) (c : List ℕ) → first ≤ last → last ≤ s → ((k : ℕ) (d : List ℕ) → k < s * s → f k d ≡ g k d)
    → over_rows s first last f c ≡ over_rows s first last g c
unfolding over_rows
rows_same s first last f g c hf hl h =
    let fit = rows_fit s first last hf hl in
    steps_same ((last - first) * s) (λ (j : ℕ). f (first * s + j)) (λ (j : ℕ). g (first * s + j)) c (λ k d l. h (first * s + k) d (omega arith))
