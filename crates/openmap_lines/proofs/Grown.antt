-- A line that grows at the buffer's start, field by field. Assumes nothing.
use mathlib.Core.Path.{◌≡◌}
use mathlib.Core.List.{List, [], ◌∷◌, ◌++◌, append_assoc}
use Prim.Native.Nat.{ℕ, ◌+◌, ◌^◌, ◌≤◌, ◌<◌}
use native.Mathlib.Omega.{arith}
use lib.ListN.{length, length-append}
use Rattle.text.specs.Decimal.{decimal, decimal_length}
use Rattle.journal_format.specs.Fields.{join_tabs}
use Rattle.openmap_lines.specs.Text.{OK, NO, fields_line, ok_text, no_text}
use Rattle.openmap_lines.specs.Appended.{Appended, then, same_length}

-- o became d: it begins with t, which has at most k bytes, and o has so many
pub record Grown (o : List ℕ) (t : List ℕ) (k : ℕ) (d : List ℕ) (m : ℕ) : Type 0 where
  pub text : Appended o 0 t d m
  pub short : length t ≤ k
  pub space : k ≤ length o

module _ {o t d : List ℕ} {k m : ℕ} (g : Grown o t k d m) where
  fits : 0 + length t ≤ length o
  fits = let s = g.short in let h = g.space in omega arith

  -- u fits behind t
  pub piece_fits : (u : List ℕ) (j : ℕ) → length u ≤ j → k + j ≤ length o → m + length u ≤ length d
  piece_fits u j l h =
      let e = same_length fits g.text in let s = g.short in let b = g.text.behind in omega arith

  pub piece : {u e : List ℕ} {r : ℕ} (j : ℕ) → length u ≤ j → k + j ≤ length o → Appended d m u e r → Grown o (t ++ u) (k + j) e r
  piece {u} {e} {r} j l h a =
      record { text = then fits g.text a; short = (let s = g.short in simp length-append (omega arith)); space = h }

-- a tab and a number of 64 bits
pub field_short : (n : ℕ) → n < 10 ^ 20 → length (9 ∷ decimal n) ≤ 21
field_short n h = let l = decimal_length 19 n h in omega arith

pub ok_is : (a b c d : ℕ) → ((((OK ++ (9 ∷ decimal a)) ++ (9 ∷ decimal b)) ++ (9 ∷ decimal c)) ++ (9 ∷ decimal d)) ++ (10 ∷ []) ≡ ok_text a b c d
unfolding ok_text fields_line join_tabs
ok_is a b c d = simp append_assoc

pub no_is : (a b : ℕ) → ((NO ++ (9 ∷ decimal a)) ++ (9 ∷ decimal b)) ++ (10 ∷ []) ≡ no_text a b
unfolding no_text fields_line join_tabs
no_is a b = simp append_assoc

-- the first line of an opened map is short
pub ok_short : (a b c d : ℕ) → a < 10 ^ 20 → b < 10 ^ 20 → c < 10 ^ 20 → d < 10 ^ 20 → length (ok_text a b c d) ≤ 87
ok_short a b c d ha hb hc hd =
    let la = field_short a ha in
    let lb = field_short b hb in
    let lc = field_short c hc in
    let ld = field_short d hd in
    rw (← ok_is a b c d) (simp length-append (omega arith))
