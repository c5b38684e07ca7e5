-- How long the rows are (SCOPE 11.2), and a line as a writer makes it: each field but the first has its tab before it. Assumes nothing.
use Rattle.std.specs.Prelude.{◌≡◌, refl, Bool, true, false, cond, List, [], ◌∷◌, ◌++◌, ℕ, zero, suc, ◌+◌, ◌*◌, ◌≤◌, ◌<◌, length, get_or, eqb}
use Rattle.std.proofs.Common.{sym, ◌∙◌, ap, append_assoc, add-one, length-append, ne_eqb}
use native.Mathlib.Omega.{arith}
use Rattle.std.proofs.Math.Nat.{mul-le-mul}
use Rattle.basics.specs.Bools.{pick}
use Rattle.basics.specs.Naturals.{split}
use Rattle.text.specs.Decimal.{decimal, decimal_length}
use Rattle.grid.specs.Cube.{cell_index, inside, see_at}
use Rattle.journal_format.specs.Fields.{join_tabs}
use Rattle.openmap_lines.specs.Separated.{separated}
use Rattle.openmap_lines.specs.Text.{fields_line, fields_of, each, row_text, layer_text, map_text}

-- one field more
join_more : (f : List ℕ) (fs : List (List ℕ)) (g : List ℕ) → join_tabs ((f ∷ fs) ++ (g ∷ [])) ≡ join_tabs (f ∷ fs) ++ (9 ∷ g)
unfolding join_tabs
join_more f [] g = refl
join_more f (h ∷ fs) g = ap (λ (t : List ℕ). f ++ (9 ∷ t)) (join_more h fs g) ∙ sym (append_assoc f (9 ∷ join_tabs (h ∷ fs)) (9 ∷ g))

join_separated : (fs : List (List ℕ)) (g : List ℕ) → join_tabs (fs ++ (g ∷ [])) ≡ join_tabs fs ++ separated (length fs) g
unfolding join_tabs separated
join_separated [] g = refl
join_separated (f ∷ fs) g = rw (ne_eqb (suc (length fs)) 0 (λ z. omega arith)) (join_more f fs g)

fields_length : (n : ℕ) (f : ℕ → List ℕ) → length (fields_of n f) ≡ n
unfolding fields_of
fields_length zero f = refl
fields_length (suc n) f = let e = fields_length n f in simp length-append (omega arith)

-- a line's fields one behind the other
pub join_each : (n : ℕ) (f : ℕ → List ℕ) → join_tabs (fields_of n f) ≡ each n (λ x. separated x (f x))
unfolding fields_of each join_tabs
join_each zero f = refl
join_each (suc n) f =
    join_separated (fields_of n f) (f n)
    ∙ ap (λ (k : ℕ). join_tabs (fields_of n f) ++ separated k (f n)) (fields_length n f)
    ∙ ap (λ (t : List ℕ). t ++ separated n (f n)) (join_each n f)

pub each_more : (n : ℕ) (f : ℕ → List ℕ) → each n f ++ f n ≡ each (n + 1) f
unfolding each
each_more n f = ap (λ (k : ℕ). each k f) (sym (add-one n))

pub each_none : (f : ℕ → List ℕ) → each 0 f ≡ []
unfolding each
each_none f = refl

-- the first of them are no longer than all
pub each_part : (n m : ℕ) (f : ℕ → List ℕ) → n ≤ m → length (each n f) ≤ length (each m f)
unfolding each
each_part n zero f h = let e : n ≡ 0 = omega arith in rw e (omega arith)
each_part n (suc m) f h =
    split n m
    (λ l. let e = each_part n m f l in simp length-append (omega arith))
    (λ l. let e : n ≡ suc m = omega arith in rw e (omega arith))

pub each_length : (n b : ℕ) (f : ℕ → List ℕ) → ((k : ℕ) → k < n → length (f k) ≤ b) → length (each n f) ≤ n * b
unfolding each
each_length zero b f h = omega arith
each_length (suc n) b f h = let e = each_length n b f (λ k l. h k (omega arith)) in let g = h n (omega arith) in simp length-append (omega arith)

-- ---- the rows

-- the id at x of a row, with its tab
unfoldable pub id_text : ℕ → List ℕ → ℕ → ℕ → ℕ → List ℕ
unfolding separated decimal see_at
id_text size c z y x = separated x (decimal (see_at size x y z c))

pub row_is : (size : ℕ) (c : List ℕ) (z y : ℕ) → each size (id_text size c z y) ++ (10 ∷ []) ≡ row_text size c z y
unfolding row_text fields_line id_text
row_is size c z y = ap (λ (t : List ℕ). t ++ (10 ∷ [])) (sym (join_each size (λ x. decimal (see_at size x y z c))))

pub id_is : (size : ℕ) (c : List ℕ) (z y x r : ℕ) → r ≡ see_at size x y z c → separated x (decimal r) ≡ id_text size c z y x
unfolding id_text
id_is size c z y x r e = ap (λ (n : ℕ). separated x (decimal n)) e

-- space for a row is space for its ids and the LF
pub row_space : (size : ℕ) (c : List ℕ) (z y p n : ℕ) → p + length (row_text size c z y) ≤ n → p + length (each size (id_text size c z y)) + 1 ≤ n
row_space size c z y p n h =
    let e = ap length (row_is size c z y) in
    let l = length-append (each size (id_text size c z y)) (10 ∷ []) in
    omega arith

-- an id has at most five digits, so that a cell takes at most six bytes
abbrev pub Ids : List ℕ → Type 0
Ids c = (i : ℕ) → get_or c i 0 < 65536

id_small : (size : ℕ) (c : List ℕ) → Ids c → (x y z : ℕ) → see_at size x y z c < 65536
unfolding see_at
id_small size c h x y z = go (inside size x y z)
  where
    go : (b : Bool) → cond b (get_or c (cell_index size x y z) 0) 0 < 65536
    go true = h (cell_index size x y z)
    go false = omega arith

separated_length : (x : ℕ) (t : List ℕ) → length (separated x t) ≤ 1 + length t
unfolding separated
separated_length x t = go (eqb x 0)
  where
    go : (b : Bool) → length (pick b t (9 ∷ t)) ≤ 1 + length t
    go true = omega arith
    go false = omega arith

module _ (size : ℕ) (c : List ℕ) (ids : Ids c) where
  pub id_length : (z y x : ℕ) → length (id_text size c z y x) ≤ 6
  unfolding id_text
  id_length z y x =
      let a = separated_length x (decimal (see_at size x y z c)) in
      let b = decimal_length 4 (see_at size x y z c) (let h = id_small size c ids x y z in omega arith) in
      omega arith

  pub row_length : (z y : ℕ) → length (row_text size c z y) ≤ size * 6 + 1
  row_length z y =
      let e = each_length size 6 (id_text size c z y) (λ x h. id_length z y x) in
      rw (← row_is size c z y) (simp length-append (omega arith))

  pub layer_length : (z : ℕ) → length (layer_text size c z) ≤ size * (size * 6 + 1)
  unfolding layer_text
  layer_length z = each_length size (size * 6 + 1) (row_text size c z) (λ y h. row_length z y)

  -- 16 × 16 rows of 16 ids
  pub map_length : size ≤ 16 → length (map_text size c) ≤ 24832
  unfolding map_text
  map_length h =
      let e = each_length size (size * (size * 6 + 1)) (layer_text size c) (λ z k. layer_length z) in
      let r : size * 6 + 1 ≤ 97 = omega arith in
      let l : size * (size * 6 + 1) ≤ 16 * 97 = mul-le-mul h r in
      let m : size * (size * (size * 6 + 1)) ≤ 16 * (16 * 97) = mul-le-mul h l in
      omega arith

-- size³ cells of at most 4,096 are of a size of at most 16
pub size_most : (size : ℕ) → size * size * size ≤ 4096 → size ≤ 16
size_most size h =
    split size 16
    (λ l. l)
    (λ l. let k : 17 ≤ size = omega arith in
    let m : 17 * 17 * 17 ≤ size * size * size = mul-le-mul (mul-le-mul k k) k in
    absurd (omega arith))
