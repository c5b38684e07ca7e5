-- The refusals of calls on bare cells (SCOPE 10.2, 10.3), and what holds where none answers. Assumes nothing.
use Rattle.std.specs.Prelude.{◌≡◌, ℕ, ◌+◌, ◌-◌, ◌*◌, ◌≤◌, ◌<◌, Bool, true, false, ◌&&◌, leb, eqb, pos, length}
use Rattle.std.proofs.Common.{sym, ◌∙◌, arith}
use mathlib.Core.List.{List, [], ◌∷◌}
use borrow.Author.Tests.{leb-true, eqb-true, le-leb, lt-leb}
use Rattle.basics.specs.Bools.{and_both}
use Rattle.grid.specs.Cube.{Cube, cell_index, inside}
use Rattle.grid.specs.Grid.{index_lt, cube_most}
pub use Rattle.grid.specs.Grid.{Inside, inside_true}
use Rattle.config.specs.declared.refusals.Refusal.{Refusal}
use Rattle.config.specs.Numbers.{number_of, number_some}
use Rattle.config.specs.Refusals.{Test, must, passed, refusal, refusal_zero, passed_zero, passed_on, passed_stop, refusal_none, refusal_pass, refusal_stop}
use Rattle.config.specs.Limits.{size_ok, size_between}

-- 1, by the limit that the settings' size has too, then 6
unfoldable pub chunk_refusal : ℕ → ℕ → ℕ
chunk_refusal size n = refusal (must (size_ok (pos size)) 1 ∷ must (eqb n (size * size * size)) 6 ∷ [])

-- these, then 7 for a cell outside
unfoldable pub cell_refusal : ℕ → ℕ → ℕ → ℕ → ℕ → ℕ
cell_refusal size n x y z = refusal (passed (chunk_refusal size n) ∷ must (inside size x y z) 7 ∷ [])

-- SCOPE 5.10: the count fits the chunk, and still does once it has gone from before to after
unfoldable pub count_ok : ℕ → ℕ → ℕ → ℕ → Bool
count_ok size count before after =
    leb count (size * size * size)
    && (leb before (count + after) && leb (count + after - before) (size * size * size))

unfoldable pub count_refusal : ℕ → ℕ → ℕ → ℕ → ℕ
count_refusal size count before after = refusal (must (count_ok size count before after) 21 ∷ [])

-- ---- how the count's test answers

module _ (size count before after : ℕ) where
  pub count_held : size * size * size < count → count_refusal size count before after ≡ 21
  unfolding count_refusal count_ok
  count_held h = refusal_stop _ 21 [] (rw (lt-leb _ _ h))

  module _ (held : count ≤ size * size * size) where
    pub count_low : count + after < before → count_refusal size count before after ≡ 21
    unfolding count_refusal count_ok
    count_low l = refusal_stop _ 21 [] (rw (le-leb _ _ held, lt-leb _ _ l))

    pub count_high : before ≤ count + after → size * size * size < count + after - before → count_refusal size count before after ≡ 21
    unfolding count_refusal count_ok
    count_high l h = refusal_stop _ 21 [] (rw (le-leb _ _ held, le-leb _ _ l, lt-leb _ _ h))

    pub count_pass : before ≤ count + after → count + after - before ≤ size * size * size → count_refusal size count before after ≡ 0
    unfolding count_refusal count_ok
    count_pass l h = refusal_pass _ 21 [] (rw (le-leb _ _ held, le-leb _ _ l, le-leb _ _ h)) ∙ refusal_none

pub ruleset counts = (count_held, count_low, count_high, count_pass)

-- ---- how a test after those of the chunk answers

pub then_chunk : (size n : ℕ) (b : Bool) (k : ℕ)
    → (chunk_refusal size n ≡ 0 → ⊥) → refusal (passed (chunk_refusal size n) ∷ must b k ∷ []) ≡ chunk_refusal size n
then_chunk size n b k e = passed_stop (chunk_refusal size n) (must b k ∷ []) e

pub then_stop : (size n : ℕ) (b : Bool) (k : ℕ) → chunk_refusal size n ≡ 0 → b ≡ false → refusal (passed (chunk_refusal size n) ∷ must b k ∷ []) ≡ k
then_stop size n b k e f = passed_on (chunk_refusal size n) (must b k ∷ []) e ∙ refusal_stop b k [] f

pub then_pass : (size n : ℕ) (b : Bool) (k : ℕ) → chunk_refusal size n ≡ 0 → b ≡ true → refusal (passed (chunk_refusal size n) ∷ must b k ∷ []) ≡ 0
then_pass size n b k e f = passed_on (chunk_refusal size n) (must b k ∷ []) e ∙ refusal_pass b k [] f ∙ refusal_none

-- a refusal by the tests before
pub first_stops : (r : Refusal) (n : ℕ) (ts : List Test) → number_of r ≡ n → number_of r ≡ refusal (passed n ∷ ts)
first_stops r n ts e = e ∙ sym (passed_stop n ts (λ q. number_some r (e ∙ q)))

-- ---- what holds where none of them answers

pub record Chunk (size n : ℕ) : Type 0 where
  pub least : 1 ≤ size
  pub most : size ≤ 64
  pub all : n ≡ size * size * size

pub chunk_passed : (size n : ℕ) → chunk_refusal size n ≡ 0 → Chunk size n
unfolding chunk_refusal
chunk_passed size n e =
    let p = refusal_zero (size_ok (pos size)) 0 (must (eqb n (size * size * size)) 6 ∷ []) e in
    let q = refusal_zero (eqb n (size * size * size)) 5 [] p.1 in
    let b = size_between (pos size) p.0 in
    let m : size ≡ b.n = cc in
    let lo = b.least in
    let hi = b.most in
    record { least = omega arith; most = omega arith; all = eqb-true n (size * size * size) q.0 }

pub chunk_all : (size n : ℕ) → 0 ≡ chunk_refusal size n → n ≡ size * size * size
chunk_all size n e = (chunk_passed size n (sym e)).all

-- what a test behind those of a chunk needs of them
pub ruleset behind = (first_stops, chunk_all)

pub cube_of : (size : ℕ) (c : List ℕ) → Chunk size (length c) → Cube size c
cube_of size c h = record { most = h.most; all = h.all }

pub record CellOk (size n x y z : ℕ) : Type 0 where
  pub chunk : Chunk size n
  pub cell : Inside size x y z

pub cell_passed : (size n x y z : ℕ) → cell_refusal size n x y z ≡ 0 → CellOk size n x y z
unfolding cell_refusal
cell_passed size n x y z e =
    let p = passed_zero (chunk_refusal size n) (must (inside size x y z) 7 ∷ []) e in
    let q = refusal_zero (inside size x y z) 6 [] p.1 in
    record { chunk = chunk_passed size n p.0; cell = inside_true size x y z q.0 }

-- a cell's place in the slice
pub cell_at_lem : (size n x y z : ℕ) → CellOk size n x y z → cell_index size x y z < n
cell_at_lem size n x y z h =
    let l = index_lt size x y z h.cell.x_in h.cell.y_in h.cell.z_in in let e = h.chunk.all in omega arith

pub chunk_most : (size n : ℕ) → Chunk size n → n ≤ 262144
chunk_most size n h = let l = cube_most size h.most in let e = h.all in omega arith

pub record CountOk (size count before after : ℕ) : Type 0 where
  pub held : count ≤ size * size * size
  pub low : before ≤ count + after
  pub high : count + after - before ≤ size * size * size

pub count_passed : (size count before after : ℕ) → count_refusal size count before after ≡ 0 → CountOk size count before after
unfolding count_refusal count_ok
count_passed size count before after e =
    let p = refusal_zero (count_ok size count before after) 20 [] e in
    let q = and_both (leb count (size * size * size)) (leb before (count + after) && leb (count + after - before) (size * size * size)) p.0 in
    let r = and_both (leb before (count + after)) (leb (count + after - before) (size * size * size)) q.1 in
    record { held = leb-true _ _ q.0; low = leb-true _ _ r.0; high = leb-true _ _ r.1 }
