-- How many cells of a chunk an edit alters (SCOPE 5.11). Assumes nothing.
use Rattle.std.specs.Prelude.{◌≡◌, refl, ℕ, zero, suc, ◌+◌, ◌*◌, ◌≤◌, ◌<◌, Bool, true, false, cond, not, List, [], ◌∷◌, ◌++◌, length, eqb, count_by}
use Rattle.std.specs.List.{range_with_len}
use Rattle.std.proofs.Common.{sym, ap, ◌∙◌, arith, add-one}
use Rattle.std.proofs.lemmas.List.Sums.{sum_by-append, count_by-le-length}
use Rattle.std.proofs.lemmas.List.FromFn.{length-range_with_len}
use Rattle.grid.specs.Count.{non_air}
use Rattle.grid.specs.Cube.{Cube, see_at}
use Rattle.grid.specs.Differing.{apart, apart_same, differing, differing_same, differing_put}
use Rattle.grid_edits.specs.Edits.{clipped_height, lay_column}
use Rattle.chunk.specs.Tests.{Inside}
use Rattle.chunk.specs.Moves.{column_count, lay_length, lay_none, lay_more, lay_above, height_inside}

-- the lowest h cells of a column lie in the chunk
pub record Tower (size x z h : ℕ) (c : List ℕ) : Type 0 where
  pub cube : Cube size c
  pub within : (y : ℕ) → y < h → Inside size x y z

pub tower_clipped : (size x z height h : ℕ) (c : List ℕ) → Cube size c → h ≡ clipped_height size x z height → Tower size x z h c
tower_clipped size x z height h c k e =
    record {
      cube = k;
      within = λ y b. height_inside size x z height y (let f = e in omega arith);
    }

pub column_altered_none : (s x z id : ℕ) (c : List ℕ) → 0 ≡ differing c (lay_column s x z 0 id c)
column_altered_none s x z id c = sym (differing_same c) ∙ ap (differing c) (lay_none s x z id c)

pub column_altered_more : (s x z h id : ℕ) (c : List ℕ) → length c ≡ s * s * s → Inside s x h z
    → differing c (lay_column s x z h id c) + apart (see_at s x h z c) id ≡ differing c (lay_column s x z (h + 1) id c)
column_altered_more s x z h id c l i =
    let d : List ℕ = lay_column s x z h id c in
    let p = differing_put s x h z id c d l (lay_length s x z h id c ∙ l) i in
    let q = ap (apart (see_at s x h z c)) (lay_above s x z h id h c (omega arith) i) ∙ apart_same (see_at s x h z c) in
    let r = ap (differing c) (lay_more s x z h id c) in
    omega arith

-- how many of the lowest h cells of a column hold another id
abbrev pub column_apart : ℕ → ℕ → ℕ → ℕ → ℕ → List ℕ → ℕ
column_apart size x z h id c = count_by (λ (y : ℕ). not (eqb (see_at size x y z c) id)) (range_with_len 0 h)

range_more : (a n : ℕ) → range_with_len a (suc n) ≡ range_with_len a n ++ ((a + n) ∷ [])
range_more a zero = let e : a + 0 ≡ a = omega arith in rw e
range_more a (suc n) = let e : a + suc n ≡ a + 1 + n = omega arith in rw e (ap (λ (c : List ℕ). a ∷ c) (range_more (a + 1) n))

range_up : (n : ℕ) → range_with_len 0 (suc n) ≡ range_with_len 0 n ++ (n ∷ [])
range_up n = let e : 0 + n ≡ n = omega arith in range_more 0 n ∙ ap (λ (k : ℕ). range_with_len 0 n ++ (k ∷ [])) e

column_apart_more : (s x z h id : ℕ) (c : List ℕ) → column_apart s x z (suc h) id c ≡ column_apart s x z h id c + apart (see_at s x h z c) id
column_apart_more s x z h id c =
    rw (range_up h, sum_by-append (λ (y : ℕ). cond (not (eqb (see_at s x y z c) id)) 1 0) (range_with_len 0 h) (h ∷ []))
    (one (eqb (see_at s x h z c) id) (column_apart s x z h id c))
  where
    one : (b : Bool) (n : ℕ) → n + (0 + cond (not b) 1 0) ≡ n + cond b 0 1
    one true n = omega arith
    one false n = omega arith

pub column_apart_most : (s x z h id : ℕ) (c : List ℕ) → column_apart s x z h id c ≤ h
column_apart_most s x z h id c =
    let m = count_by-le-length (λ (y : ℕ). not (eqb (see_at s x y z c) id)) (range_with_len 0 h) in
    let l = length-range_with_len 0 h in
    omega arith

-- those that are no air are apart from air
pub column_counted : (s x z h : ℕ) (c : List ℕ) → column_apart s x z h 0 c ≡ column_count s x z h c
unfolding column_count
column_counted s x z zero c = refl
column_counted s x z (suc h) c = column_apart_more s x z h 0 c ∙ ap (λ (k : ℕ). k + non_air (see_at s x h z c)) (column_counted s x z h c)

-- those that are apart from an id are those that it alters
pub column_apart_altered : (s x z h id : ℕ) (c : List ℕ) → Tower s x z h c → column_apart s x z h id c ≡ differing c (lay_column s x z h id c)
column_apart_altered s x z zero id c t = column_altered_none s x z id c
column_apart_altered s x z (suc h) id c t =
    let k : Tower s x z h c = record { cube = t.cube; within = λ y b. t.within y (omega arith) } in
    let e = column_apart_more s x z h id c in
    let f = column_apart_altered s x z h id c k in
    let g = column_altered_more s x z h id c t.cube.all (t.within h (omega arith)) in
    let i = ap (λ (n : ℕ). differing c (lay_column s x z n id c)) (add-one h) in
    omega arith
