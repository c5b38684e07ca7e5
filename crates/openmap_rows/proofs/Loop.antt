-- The loops over x, y and z: each turn appends its piece of the text. Assumes nothing.
use mathlib.Core.Path.{◌≡◌, sym, ◌∙◌, ap}
use mathlib.Core.List.{List}
use Prim.Native.Nat.{ℕ, ◌+◌, ◌≤◌, ◌<◌}
use native.Mathlib.Omega.{arith}
use lib.ListN.{length, length-append}
use Rattle.openmap_lines.specs.Text.{each}
use Rattle.openmap_rows.specs.Rows.{each_more, each_none, each_part}
use Rattle.openmap_lines.specs.Appended.{Appended, then, nothing, as_text, same_length}

module _ (o : List ℕ) (p size : ℕ) (f : ℕ → List ℕ) (fits : p + length (each size f) ≤ length o) where
  pub begins : Appended o p (each 0 f) o p
  begins = as_text (sym (each_none f)) (nothing o p)

  -- the text so far fits
  pub so_far : (k : ℕ) → k ≤ size → p + length (each k f) ≤ length o
  so_far k h = let e = each_part k size f h in omega arith

  -- the buffer keeps its length
  pub keeps : (k m : ℕ) (d : List ℕ) → k ≤ size → Appended o p (each k f) d m → length d ≡ length o
  keeps k m d h a = same_length (so_far k h) a

  -- piece k fits behind the pieces before it
  pub fits_next : (k m : ℕ) (d : List ℕ) → k < size → Appended o p (each k f) d m → m + length (f k) ≤ length d
  fits_next k m d h a =
      let e = each_part (k + 1) size f (omega arith) in
      let g : length (each k f) + length (f k) ≡ length (each (k + 1) f) = sym (length-append (each k f) (f k)) ∙ ap length (each_more k f) in
      let l = keeps k m d (omega arith) a in
      omega (arith, a.behind)

  pub goes_on : (k m n : ℕ) (d e : List ℕ) → k < size → Appended o p (each k f) d m → Appended d m (f k) e n → Appended o p (each (k + 1) f) e n
  goes_on k m n d e h a b = as_text (each_more k f) (then (so_far k (omega arith)) a b)
