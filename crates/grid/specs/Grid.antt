-- The laws of a chunk's indices (SCOPE 5.1), and of lists that are filled from the front. Assumes nothing.
use Rattle.std.specs.Prelude.{◌≡◌, refl, ℕ, zero, suc, ◌+◌, ◌*◌, ◌/◌, ◌%◌, ◌≤◌, ◌<◌, Bool, true, false, cond, List, [], ◌∷◌, ◌++◌, length, set}
use Rattle.std.specs.Prelude.{get_or, drop, T, ltb}
use Rattle.std.proofs.Common.{sym, ap, ap₂, ◌∙◌, subst, arith, add-mul, mul-le-mul, div-lt_iff_lt-mul, mod-lt, add-one, append_assoc, append-nil}
use Rattle.std.proofs.Common.{length-append, length-drop, length-set, drop_of_length-le, drop-cons, ext_get_or}
use Rattle.std.proofs.Math.ListN.{get_or-append}
use Rattle.std.proofs.lemmas.List.{set_at, get_or_at}
use Rattle.std.proofs.Math.Arith.{digits_lt, digits_div, digits_mod}
use borrow.Author.Tests.{ltb-true, lt-ltb, le-ltb}
use Rattle.grid.specs.Cube.{Cube, cell_index, inside, put_at, see_at, tab, all_of, steps, col_of}

-- an index by its digits to the base size
pub digits : (s x y z : ℕ) → cell_index s x y z ≡ (z * s + y) * s + x
digits s x y z = let e = add-mul (z * s) y s in omega arith

pub index_lt : (s x y z : ℕ) → x < s → y < s → z < s → cell_index s x y z < s * s * s
index_lt s x y z hx hy hz = subst (λ (i : ℕ). i < s * s * s) (sym (digits s x y z)) (digits_lt (digits_lt hz hy) hx)

pub index_x : (s x y z : ℕ) → x < s → cell_index s x y z % s ≡ x
index_x s x y z hx = ap (λ (i : ℕ). i % s) (digits s x y z) ∙ digits_mod (z * s + y) hx

index_up : (s x y z : ℕ) → x < s → cell_index s x y z / s ≡ z * s + y
index_up s x y z hx = ap (λ (i : ℕ). i / s) (digits s x y z) ∙ digits_div (z * s + y) hx

pub index_y : (s x y z : ℕ) → x < s → y < s → cell_index s x y z / s % s ≡ y
index_y s x y z hx hy = ap (λ (i : ℕ). i % s) (index_up s x y z hx) ∙ digits_mod z hy

pub index_z : (s x y z : ℕ) → x < s → y < s → cell_index s x y z / s / s ≡ z
index_z s x y z hx hy = ap (λ (i : ℕ). i / s) (index_up s x y z hx) ∙ digits_div z hy

pub below : (s i : ℕ) → i < s * s * s → i / s / s < s
below zero i h = absurd (omega arith)
below (suc s) i h =
    let p : 0 < suc s = omega arith in
    (div-lt_iff_lt-mul {k = suc s} {x = i / suc s} {y = suc s} p).1 ((div-lt_iff_lt-mul {k = suc s} {x = i} {y = suc s * suc s} p).1 h)

pub below_2 : (s i : ℕ) → i < s * s → i / s < s
below_2 zero i h = absurd (omega arith)
below_2 (suc s) i h = let p : 0 < suc s = omega arith in (div-lt_iff_lt-mul {k = suc s} {x = i} {y = suc s} p).1 h

pub square_most : (s : ℕ) → s ≤ 64 → s * s ≤ 4096
square_most s h = mul-le-mul h h

pub cube_most : (s : ℕ) → s ≤ 64 → s * s * s ≤ 262144
cube_most s h = mul-le-mul (mul-le-mul h h) h

-- no chunk's number of cells overflows
pub ruleset cube = (square_most, cube_most)

pub tab_length : (n : ℕ) (f : ℕ → ℕ) → length (tab n f) ≡ n
unfolding tab
tab_length zero f = refl
tab_length (suc n) f = length-append (tab n f) (f n ∷ []) ∙ (let e = tab_length n f in omega arith)

pub tab_at : (n : ℕ) (f : ℕ → ℕ) (i : ℕ) → i < n → get_or (tab n f) i 0 ≡ f i
unfolding tab
tab_at zero f i h = absurd (omega arith)
tab_at (suc n) f i h = at (λ k. tab_at n f i k) (ltb i n) refl
  where
    at : (i < n → get_or (tab n f) i 0 ≡ f i) → (b : Bool) → ltb i n ≡ b → get_or (tab n f ++ (f n ∷ [])) i 0 ≡ f i
    at q true e = get_or-append (tab n f) (f n ∷ []) 0 i (rw (tab_length n f) (ltb-true i n e)) ∙ q (ltb-true i n e)
    at q false e =
        let k : i ≡ n = (let g = borrow.Author.Tests.ltb-false i n e in omega arith) in
        get_or_at (tab n f) (f n) [] 0 i (tab_length n f ∙ sym k) ∙ ap f (sym k)

-- functions that agree below n
pub tab_same : (n : ℕ) (f g : ℕ → ℕ) → ((i : ℕ) → i < n → f i ≡ g i) → tab n f ≡ tab n g
unfolding tab
tab_same zero f g h = refl
tab_same (suc n) f g h = ap₂ (λ (a : List ℕ) (v : ℕ). a ++ (v ∷ [])) (tab_same n f g (λ i l. h i (omega arith))) (h n (omega arith))

pub all_long : (n id : ℕ) → length (all_of n id) ≡ n
unfolding all_of
all_long n id = tab_length n (λ (i : ℕ). id)

-- the list of a list's elements
pub tab_list : (c : List ℕ) → tab (length c) (λ (k : ℕ). get_or c k 0) ≡ c
tab_list c =
    ext_get_or 0 _ c (tab_length (length c) (λ (k : ℕ). get_or c k 0))
    (λ i h. tab_at (length c) (λ (k : ℕ). get_or c k 0) i (let e = tab_length (length c) (λ (k : ℕ). get_or c k 0) in omega arith))

-- a list of which the first i are filled
pub fill_length : (c : List ℕ) (i : ℕ) (f : ℕ → ℕ) → i ≤ length c → length (tab i f ++ drop i c) ≡ length c
fill_length c i f h = simp (length-append, tab_length, length-drop) (omega arith)

pub fill_none : (c : List ℕ) (f : ℕ → ℕ) → c ≡ tab 0 f ++ drop 0 c
unfolding tab
fill_none c f = refl

pub fill_more : (c : List ℕ) (i : ℕ) (f : ℕ → ℕ) → i < length c → set (tab i f ++ drop i c) i (f i) ≡ tab (i + 1) f ++ drop (i + 1) c
unfolding tab
fill_more c i f h =
    ap (λ (r : List ℕ). set (tab i f ++ r) i (f i)) (drop-cons c i 0 h)
    ∙ set_at (tab i f) (get_or c i 0) (drop (suc i) c) (f i) i (tab_length i f)
    ∙ sym (append_assoc (tab i f) (f i ∷ []) (drop (suc i) c))
    ∙ ap (λ (k : ℕ). tab k f ++ drop k c) (sym (add-one i))

pub fill_all : (c : List ℕ) (f : ℕ → ℕ) (i : ℕ) → i ≡ length c → tab i f ++ drop i c ≡ tab (length c) f
fill_all c f i e = ap (λ (r : List ℕ). tab i f ++ r) (drop_of_length-le c {i = i} (omega arith)) ∙ append-nil (tab i f) ∙ ap (λ (k : ℕ). tab k f) e

pub fill_at : (c : List ℕ) (n i : ℕ) (f : ℕ → ℕ) → i < n → get_or (tab n f ++ drop n c) i 0 ≡ f i
fill_at c n i f h = get_or-append (tab n f) (drop n c) 0 i (rw (tab_length n f) h) ∙ tab_at n f i h

-- one cell
pub put_length : (s x y z v : ℕ) (c : List ℕ) → length (put_at s x y z v c) ≡ length c
unfolding put_at
put_length s x y z v c = both (inside s x y z)
  where
    both : (b : Bool) → length (cond b (set c (cell_index s x y z) v) c) ≡ length c
    both true = length-set c (cell_index s x y z) v
    both false = refl

pub in_all : (s x y z : ℕ) → x < s → y < s → z < s → inside s x y z ≡ true
unfolding inside
in_all s x y z hx hy hz = rw (lt-ltb x s hx, lt-ltb y s hy, lt-ltb z s hz)

pub out_x : (s x y z : ℕ) → s ≤ x → inside s x y z ≡ false
unfolding inside
out_x s x y z h = rw (le-ltb x s h)

pub out_y : (s x y z : ℕ) → x < s → s ≤ y → inside s x y z ≡ false
unfolding inside
out_y s x y z hx h = rw (lt-ltb x s hx, le-ltb y s h)

pub out_z : (s x y z : ℕ) → x < s → y < s → s ≤ z → inside s x y z ≡ false
unfolding inside
out_z s x y z hx hy h = rw (lt-ltb x s hx, lt-ltb y s hy, le-ltb z s h)

-- a cell of the chunk
pub record Inside (size x y z : ℕ) : Type 0 where
  pub x_in : x < size
  pub y_in : y < size
  pub z_in : z < size

pub inside_true : (size x y z : ℕ) → inside size x y z ≡ true → Inside size x y z
unfolding inside
inside_true size x y z e = at (ltb x size) refl (ltb y size) refl (ltb z size) refl e
  where
    at : (a : Bool) → ltb x size ≡ a → (b : Bool) → ltb y size ≡ b → (d : Bool) → ltb z size ≡ d
        → cond a (cond b d false) false ≡ true → Inside size x y z
    at true p true q true r e = record { x_in = ltb-true x size p; y_in = ltb-true y size q; z_in = ltb-true z size r }
    at true p true q false r e = absurd (subst T (sym e) tt)
    at true p false q d r e = absurd (subst T (sym e) tt)
    at false p b q d r e = absurd (subst T (sym e) tt)

-- its place in the slice, and how long the slice is
pub index_below : {s x y z : ℕ} {c : List ℕ} → Cube s c → Inside s x y z → (cell_index s x y z < length c) × (length c ≤ 262144)
index_below h k = let l = index_lt _ _ _ _ k.x_in k.y_in k.z_in in let m = cube_most _ h.most in let e = h.all in (omega arith, omega arith)

pub put_inside : (s x y z v : ℕ) (c : List ℕ) → Inside s x y z → put_at s x y z v c ≡ set c (cell_index s x y z) v
unfolding put_at
put_inside s x y z v c h = rw (in_all s x y z h.x_in h.y_in h.z_in)

pub see_inside : (s x y z : ℕ) (c : List ℕ) → Inside s x y z → see_at s x y z c ≡ get_or c (cell_index s x y z) 0
unfolding see_at
see_inside s x y z c h = rw (in_all s x y z h.x_in h.y_in h.z_in)

-- a level outside, whatever x and z
pub out_level : (s x y z : ℕ) → s ≤ y → inside s x y z ≡ false
unfolding inside
out_level s x y z h = rw (le-ltb y s h) (never (ltb x s))
  where
    never : (b : Bool) → cond b false false ≡ false
    never true = refl
    never false = refl

pub put_out : (s x y z v : ℕ) (c : List ℕ) → s ≤ y → put_at s x y z v c ≡ c
unfolding put_at
put_out s x y z v c h = rw (out_level s x y z h)

pub see_out : (s x y z : ℕ) (c : List ℕ) → s ≤ y → see_at s x y z c ≡ 0
unfolding see_at
see_out s x y z c h = rw (out_level s x y z h)

-- the steps of a loop
pub steps_more : (n : ℕ) (f : ℕ → List ℕ → List ℕ) (c : List ℕ) → f n (steps n f c) ≡ steps (n + 1) f c
unfolding steps
steps_more n f c = ap (λ (k : ℕ). steps k f c) (sym (add-one n))

pub steps_none : (f : ℕ → List ℕ → List ℕ) (c : List ℕ) → c ≡ steps 0 f c
unfolding steps
steps_none f c = refl

pub steps_length : (n : ℕ) (f : ℕ → List ℕ → List ℕ) (c : List ℕ) → ((k : ℕ) (d : List ℕ) → length (f k d) ≡ length d) → length (steps n f c) ≡ length c
unfolding steps
steps_length zero f c h = refl
steps_length (suc n) f c h = h n (steps n f c) ∙ steps_length n f c h

-- steps that do the same
pub steps_same : (n : ℕ) (f g : ℕ → List ℕ → List ℕ) (c : List ℕ) → ((k : ℕ) (d : List ℕ) → k < n → f k d ≡ g k d) → steps n f c ≡ steps n g c
unfolding steps
steps_same zero f g c h = refl
steps_same (suc n) f g c h = h n (steps n f c) (omega arith) ∙ ap (g n) (steps_same n f g c (λ k d l. h k d (omega arith)))

-- the first a steps, then n more
pub steps_split : (a n : ℕ) (f : ℕ → List ℕ → List ℕ) (c : List ℕ) → steps (a + n) f c ≡ steps n (λ (j : ℕ). f (a + j)) (steps a f c)
unfolding steps
steps_split a zero f c = ap (λ (k : ℕ). steps k f c) (let e : a + 0 ≡ a = omega arith in e)
steps_split a (suc n) f c =
    ap (λ (k : ℕ). steps k f c) (let e : a + suc n ≡ suc (a + n) = omega arith in e)
    ∙ ap (f (a + n)) (steps_split a n f c)

-- the column of a cell
pub col_lt : (s i : ℕ) → i < s * s * s → col_of s i < s * s
col_lt zero i h = absurd (omega arith)
col_lt (suc s) i h = let p : 0 < suc s = omega arith in digits_lt (below (suc s) i h) (mod-lt i p)

pub col_x : (s i : ℕ) → 0 < s → col_of s i % s ≡ i % s
col_x s i h = digits_mod (i / s / s) (mod-lt i h)

pub col_z : (s i : ℕ) → 0 < s → col_of s i / s ≡ i / s / s
col_z s i h = digits_div (i / s / s) (mod-lt i h)
