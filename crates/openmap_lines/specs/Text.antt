-- The lines that the program prints (SCOPE 11.2 to 11.4): its first line, and the rows of a map. Assumes nothing.
use Rattle.std.specs.Prelude.{List, [], ◌∷◌, ◌++◌, ℕ, zero, suc}
use Rattle.text.specs.Decimal.{decimal}
use Rattle.grid.specs.Cube.{see_at}
use Rattle.journal_format.specs.Fields.{join_tabs}
use Rattle.journal_format.specs.Line.{ended}

-- SCOPE 11.4: fields with a tab between neighbours, and the LF
unfoldable pub fields_line : List (List ℕ) → List ℕ
unfolding join_tabs
fields_line fs = ended (join_tabs fs)

-- f 0, f 1, .. as fields
unfoldable pub fields_of : ℕ → (ℕ → List ℕ) → List (List ℕ)
fields_of zero f = []
fields_of (suc n) f = fields_of n f ++ (f n ∷ [])

-- f 0, f 1, .. one behind the other
unfoldable pub each : ℕ → (ℕ → List ℕ) → List ℕ
each zero f = []
each (suc n) f = each n f ++ f n

-- the fixed strings OK and NO
abbrev pub OK : List ℕ
OK = 79 ∷ 75 ∷ []

abbrev pub NO : List ℕ
NO = 78 ∷ 79 ∷ []

-- SCOPE 11.2: OK, then how many lines are whole, edits active, cells nonzero, bytes trailing
unfoldable pub ok_text : ℕ → ℕ → ℕ → ℕ → List ℕ
unfolding fields_line decimal
ok_text lines active count trailing = fields_line (OK ∷ decimal lines ∷ decimal active ∷ decimal count ∷ decimal trailing ∷ [])

-- SCOPE 11.2: a row is the ids along x; c are the cells
unfoldable pub row_text : ℕ → List ℕ → ℕ → ℕ → List ℕ
unfolding fields_line fields_of decimal see_at
row_text size c z y = fields_line (fields_of size (λ x. decimal (see_at size x y z c)))

-- .. a row for each y ..
unfoldable pub layer_text : ℕ → List ℕ → ℕ → List ℕ
unfolding each row_text
layer_text size c z = each size (row_text size c z)

-- .. and so for each z
unfoldable pub map_text : ℕ → List ℕ → List ℕ
unfolding each layer_text
map_text size c = each size (layer_text size c)

-- SCOPE 11.3: NO, then the refusal's number and its line number
unfoldable pub no_text : ℕ → ℕ → List ℕ
unfolding fields_line decimal
no_text number line = fields_line (NO ∷ decimal number ∷ decimal line ∷ [])
