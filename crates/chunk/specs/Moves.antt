-- How an edit moves the non-air count (SCOPE 5.10). Assumes nothing.
use Rattle.std.specs.Prelude.{◌≡◌, refl, ℕ, zero, suc, ◌+◌, ◌-◌, ◌*◌, ◌/◌, ◌%◌, ◌≤◌, ◌<◌, Bool, true, false, ltb, leb, length, set, get_or}
use Rattle.std.proofs.Math.Path.{sym, ap}
use Rattle.std.proofs.Common.{ap₂, ◌∙◌, zero-mul, mul-le-mul, add-one, get_or-set_other, ltb-true, leb-true, leb-false, le-leb}
use native.Mathlib.Omega.{arith}
use mathlib.Core.List.{List, [], ◌∷◌, ◌++◌}
use Rattle.basics.specs.Bools.{pick}
use Rattle.grid.specs.Cube.{cell_index, put_at, see_at, steps}
use Rattle.grid.specs.Grid.{index_lt, index_y, put_length, steps_length, steps_none, steps_more}
pub use Rattle.grid.specs.Grid.{put_inside, see_inside}
use Rattle.grid.specs.Count.{non_air, non_air_count, count_most, non_air_most}
use Rattle.grid_edits.specs.Edits.{clipped_height, lay_column, fill_cells, set_cells}
use Rattle.std.proofs.lemmas.Bool.{lt-leb}
use Rattle.config.specs.declared.refusals.Refusal.{Refusal}
use Rattle.config.specs.Numbers.{number_of}
use Rattle.config.specs.Refusals.{passed, refusal, passed_on, passed_stop, refusal_none}
use Rattle.config.specs.Answers.{accepted, refused_with, is_refused, is_refused_by, not_refused, cells_outcome}
use Rattle.chunk.specs.Calls.{edited}
use Rattle.chunk.specs.Tests.{Inside, CellOk, cell_at_lem, count_ok, count_refusal, count_pass, first_stops}

-- one cell of a list
pub count_set : (c : List ℕ) (i v : ℕ) → i < length c → non_air_count (set c i v) + non_air (get_or c i 0) ≡ non_air_count c + non_air v
unfolding non_air_count
count_set [] i v h = absurd (omega arith)
count_set (a ∷ c) zero v h = omega arith
count_set (a ∷ c) (suc i) v h = let e = count_set c i v (omega arith) in omega arith

-- two cells have one place only where they are one cell
pub index_one_y : (s x y z y' : ℕ) → x < s → y < s → y' < s → cell_index s x y z ≡ cell_index s x y' z → y ≡ y'
index_one_y s x y z y' hx hy hy' e = sym (index_y s x y z hx hy) ∙ ap (λ (i : ℕ). i / s % s) e ∙ index_y s x y' z hx hy'

pub put_count : (s x y z v : ℕ) (c : List ℕ) → length c ≡ s * s * s → Inside s x y z
    → non_air_count (put_at s x y z v c) + non_air (see_at s x y z c) ≡ non_air_count c + non_air v
put_count s x y z v c l h =
    ap₂ (λ (d : List ℕ). λ (k : ℕ). non_air_count d + non_air k) (put_inside s x y z v c h) (see_inside s x y z c h)
    ∙ count_set c (cell_index s x y z) v (let i = index_lt s x y z h.x_in h.y_in h.z_in in omega arith)

-- how many of the lowest h cells of a column are not air
unfoldable pub column_count : ℕ → ℕ → ℕ → ℕ → List ℕ → ℕ
column_count size x z zero c = 0
column_count size x z (suc h) c = column_count size x z h c + non_air (see_at size x h z c)

pub column_count_none : (s x z : ℕ) (c : List ℕ) → column_count s x z 0 c ≡ 0
unfolding column_count
column_count_none s x z c = refl

pub column_count_more : (s x z h : ℕ) (c : List ℕ) → column_count s x z (h + 1) c ≡ column_count s x z h c + non_air (see_at s x h z c)
unfolding column_count
column_count_more s x z h c = ap (λ (k : ℕ). column_count s x z k c) (add-one h)

pub column_count_most : (s x z h : ℕ) (c : List ℕ) → column_count s x z h c ≤ h
unfolding column_count
column_count_most s x z zero c = omega arith
column_count_most s x z (suc h) c = let e = column_count_most s x z h c in let k = non_air_most (see_at s x h z c) in omega arith

pub lay_length : (s x z h id : ℕ) (c : List ℕ) → length (lay_column s x z h id c) ≡ length c
unfolding lay_column
lay_length s x z h id c = steps_length h (λ (y : ℕ). λ (d : List ℕ). put_at s x y z id d) c (λ y d. put_length s x y z id d)

pub lay_none : (s x z id : ℕ) (c : List ℕ) → c ≡ lay_column s x z 0 id c
unfolding lay_column
lay_none s x z id c = steps_none (λ (y : ℕ). λ (d : List ℕ). put_at s x y z id d) c

pub lay_more : (s x z h id : ℕ) (c : List ℕ) → put_at s x h z id (lay_column s x z h id c) ≡ lay_column s x z (h + 1) id c
unfolding lay_column
lay_more s x z h id c = steps_more h (λ (y : ℕ). λ (d : List ℕ). put_at s x y z id d) c

-- a cell above what is laid is as it was
pub lay_above : (s x z h id y : ℕ) (c : List ℕ) → h ≤ y → Inside s x y z → see_at s x y z (lay_column s x z h id c) ≡ see_at s x y z c
unfolding lay_column steps
lay_above s x z zero id y c l i = refl
lay_above s x z (suc h) id y c l i =
    let j : Inside s x h z = (let b = i.y_in in record { x_in = i.x_in; y_in = omega arith; z_in = i.z_in }) in
    ap (see_at s x y z) (put_inside s x h z id (lay_column s x z h id c) j)
    ∙ see_inside s x y z (set (lay_column s x z h id c) (cell_index s x h z) id) i
    ∙ get_or-set_other (lay_column s x z h id c) (cell_index s x h z) (cell_index s x y z) id 0
    (λ e. let q = index_one_y s x y z h i.x_in i.y_in j.y_in e in omega arith)
    ∙ sym (see_inside s x y z (lay_column s x z h id c) i)
    ∙ lay_above s x z h id y c (omega arith) i

pub lay_count :
    (s x z h id : ℕ) (c : List ℕ) → length c ≡ s * s * s → ((y : ℕ) → y < h → Inside s x y z)
    → non_air_count (lay_column s x z h id c) + column_count s x z h c ≡ non_air_count c + h * non_air id
unfolding lay_column steps column_count
lay_count s x z zero id c l i = let e = zero-mul (non_air id) in omega arith
lay_count s x z (suc h) id c l i =
    let p = lay_count s x z h id c l (λ y b. i y (omega arith)) in
    let q = put_count s x h z id (lay_column s x z h id c) (lay_length s x z h id c ∙ l) (i h (omega arith)) in
    let r = ap non_air (lay_above s x z h id h c (omega arith) (i h (omega arith))) in
    omega arith

-- ---- an edit that moves the count from p to q as far as its own cells go

leb_same : (m n m' n' : ℕ) → (m ≤ n → m' ≤ n') → (m' ≤ n' → m ≤ n) → leb m n ≡ leb m' n'
leb_same m n m' n' f g = at (leb m n) refl
  where
    at : (b : Bool) → leb m n ≡ b → b ≡ leb m' n'
    at true e = sym (le-leb m' n' (f (leb-true m n e)))
    at false e = sym (lt-leb m' n' (let h = leb-false m n e in over (leb m' n') refl h))
      where
        over : (b : Bool) → leb m' n' ≡ b → n < m → n' < m'
        over true q h = absurd (let k = g (leb-true m' n' q) in omega arith)
        over false q h = leb-false m' n' q

-- the count's test goes by the difference alone
pub same_ok : (size count b a p q : ℕ) → a + p ≡ b + q → count_ok size count b a ≡ count_ok size count p q
unfolding count_ok
same_ok size count b a p q e =
    let f : count + a - b ≡ count + q - p = omega arith in
    rw (leb_same b (count + a) p (count + q) (λ h. omega arith) (λ h. omega arith), f)

pub same_refusal : (size count b a p q : ℕ) → a + p ≡ b + q → count_refusal size count b a ≡ count_refusal size count p q
unfolding count_refusal
same_refusal size count b a p q e = rw (same_ok size count b a p q e)

pub edit_input :
    (input size count : ℕ) (v c d : List ℕ) (k : ℕ) → k ≡ input → (k ≡ 0 → ⊥) → cells_outcome (refused_with k) c ≡ edited input size count v c d
unfolding edited
edit_input input size count v c d k i h =
    let e = passed_stop input (passed (count_refusal size count (non_air_count c) (non_air_count d)) ∷ []) (λ q. h (i ∙ q)) in
    ap (λ (n : ℕ). cells_outcome (refused_with n) c) (i ∙ sym e) ∙ sym (is_refused _ _ _ (λ q. h (i ∙ sym e ∙ q)))

-- a refusal by the tests of the input
pub edit_refused : (r : Refusal) (input size count : ℕ) (v c d : List ℕ) → number_of r ≡ input
    → cells_outcome (refused_with (number_of r)) c ≡ edited input size count v c d
unfolding edited
edit_refused r input size count v c d i = sym (is_refused_by r _ _ _ (first_stops r input _ i))

module _ (input size count : ℕ) (v c d : List ℕ) (p q : ℕ) (none : input ≡ 0) (moves : non_air_count d + p ≡ non_air_count c + q) where
  second : refusal (passed input ∷ passed (count_refusal size count (non_air_count c) (non_air_count d)) ∷ [])
      ≡ refusal (passed (count_refusal size count p q) ∷ [])
  second =
      passed_on input (passed (count_refusal size count (non_air_count c) (non_air_count d)) ∷ []) none
      ∙ ap (λ (k : ℕ). refusal (passed k ∷ [])) (same_refusal size count (non_air_count c) (non_air_count d) p q moves)

  pub edit_count : (m : ℕ) → m ≡ count_refusal size count p q → (m ≡ 0 → ⊥) → cells_outcome (refused_with m) c ≡ edited input size count v c d
  unfolding edited
  edit_count m i h =
      let e = second ∙ passed_stop (count_refusal size count p q) [] (λ z. h (i ∙ z)) in
      ap (λ (n : ℕ). cells_outcome (refused_with n) c) (i ∙ sym e) ∙ sym (is_refused _ _ _ (λ z. h (i ∙ sym e ∙ z)))

  -- a refusal by the count's test
  pub edit_count_refused : (r : Refusal) → number_of r ≡ count_refusal size count p q
      → cells_outcome (refused_with (number_of r)) c ≡ edited input size count v c d
  unfolding edited
  edit_count_refused r i = sym (is_refused_by r _ _ _ (first_stops r _ [] i ∙ sym second))

  pub edit_done : (m : ℕ) → m ≡ count_refusal size count p q → m ≡ 0 → cells_outcome (accepted (v ++ ((count + q - p) ∷ []))) d ≡ edited input size count v c d
  unfolding edited
  edit_done m i h =
      let e = second ∙ passed_on (count_refusal size count p q) [] (sym i ∙ h) ∙ refusal_none in
      let f : count + q - p ≡ count + non_air_count d - non_air_count c = omega arith in
      ap (λ (k : ℕ). cells_outcome (accepted (v ++ (k ∷ []))) d) f ∙ sym (not_refused _ _ _ e)

-- an edit on cells whose count is right is not refused for it, and the new count is right
pub right_count : (c d : List ℕ) → non_air_count c + non_air_count d - non_air_count c ≡ non_air_count d
right_count c d = omega arith

pub right_passes : (size : ℕ) (c d : List ℕ) → length c ≡ size * size * size → length d ≡ size * size * size
    → count_refusal size (non_air_count c) (non_air_count c) (non_air_count d) ≡ 0
right_passes size c d hc hd =
    let a = count_most c in
    let b = count_most d in
    count_pass size (non_air_count c) (non_air_count c) (non_air_count d) (omega arith) (omega arith) (omega arith)

-- ---- a column's height: at most the size, and above 0 only within

pub height_most : (s x z h : ℕ) → clipped_height s x z h ≤ s
unfolding clipped_height
height_most s x z h = at (ltb x s) (ltb z s) (ltb h s) refl
  where
    at : (a b d : Bool) → ltb h s ≡ d → pick a (pick b (pick d h s) 0) 0 ≤ s
    at true true true e = let l = ltb-true h s e in omega arith
    at true true false e = omega arith
    at true false d e = omega arith
    at false b d e = omega arith

pub height_inside : (s x z h y : ℕ) → y < clipped_height s x z h → Inside s x y z
unfolding clipped_height
height_inside s x z h y l = at (ltb x s) refl (ltb z s) refl l
  where
    at : (a : Bool) → ltb x s ≡ a → (b : Bool) → ltb z s ≡ b → y < pick a (pick b (pick (ltb h s) h s) 0) 0 → Inside s x y z
    at true p true q l' = record { x_in = ltb-true x s p; y_in = (let k = height_most s x z h in omega arith); z_in = ltb-true z s q }
    at true p false q l' = absurd (omega arith)
    at false p b q l' = absurd (omega arith)

-- ---- what a set and a column move

pub set_moves :
    (size x y z id i p q : ℕ) (c : List ℕ) → CellOk size (length c) x y z → i ≡ cell_index size x y z → p ≡ non_air (get_or c i 0) → q ≡ non_air id
    → non_air_count (set_cells size x y z id c) + p ≡ non_air_count c + q
set_moves size x y z id i p q c h ei ep eq =
    let s = count_set c (cell_index size x y z) id (cell_at_lem size (length c) x y z h) in
    let t = ap non_air_count (put_inside size x y z id c h.cell) in
    let u = ep ∙ ap (λ (k : ℕ). non_air (get_or c k 0)) ei in
    omega arith

pub set_lays : (size x y z id i : ℕ) (c : List ℕ) → CellOk size (length c) x y z → i ≡ cell_index size x y z → set c i id ≡ set_cells size x y z id c
set_lays size x y z id i c h ei = ap (λ (k : ℕ). set c k id) ei ∙ sym (put_inside size x y z id c h.cell)

pub fill_moves :
    (size x z height id h p q : ℕ) (c : List ℕ) → length c ≡ size * size * size → h ≡ clipped_height size x z height → p ≡ column_count size x z h c
    → q ≡ h * non_air id
    → non_air_count (fill_cells size x z height id c) + p ≡ non_air_count c + q
unfolding fill_cells
fill_moves size x z height id h p q c l eh ep eq =
    let s = lay_count size x z h id c l (λ y b. height_inside size x z height y (let e = eh in omega arith)) in
    let t = ap (λ (k : ℕ). non_air_count (lay_column size x z k id c)) eh in
    omega arith

pub fill_lays : (size x z height id h : ℕ) (c d : List ℕ) → h ≡ clipped_height size x z height → d ≡ lay_column size x z h id c
    → d ≡ fill_cells size x z height id c
unfolding fill_cells
fill_lays size x z height id h c d eh ed = ed ∙ ap (λ (k : ℕ). lay_column size x z k id c) eh

pub column_small : (h v : ℕ) → h ≤ 64 → v ≤ 1 → h * v ≤ 64
column_small h v a b = mul-le-mul {n₁ = h} {m₁ = v} {n₂ = 64} {m₂ = 1} a b
