-- SCOPE 12: the one table of the marked examples; that each of them holds is one statement, `proofs/Marked.marked`. A letter's rows stand together.
-- negsuc n is -(n + 1), and nearest n d the f32 nearest to n / d. Assumes nothing.
use Rattle.std.specs.Prelude.{List, [], ◌∷◌, ◌++◌, ◌-◌, ◌^◌, pos, negsuc}
use Rattle.std.specs.Float.{nan}
use Rattle.std.specs.Float.Ieee.{neg}
use Rattle.num_core.specs.Wrap.{mul_w, shift_w}
use Rattle.num_core.specs.Num.{nearest, floor₃₂, to_i32}
use Rattle.noise.specs.Hash.{unit31}
use Rattle.marked_listing.specs.Listing.{listing_text, listing_printed}
use Rattle.marked.specs.Ground.{rows_d, rows_e, rows_f, rows_g, rows_h, rows_i, rows_j}
use Rattle.marked.specs.Example.{Example, float, integer, printed}

-- a: zero, a tie, the last that rounds below 1, the first that rounds to 1
abbrev pub rows_a : List Example
rows_a =
    float (unit31 0) (nearest 0 1)
    ∷ float (unit31 16777217) (nearest 1 (2 ^ 7))
    ∷ float (unit31 2147483583) (nearest (2 ^ 24 - 1) (2 ^ 24))
    ∷ float (unit31 2147483584) (nearest 1 1)
    ∷ []

-- b: two floors and a conversion
abbrev pub rows_b : List Example
rows_b =
    float (floor₃₂ (neg (nearest 1 2))) (neg (nearest 1 1))
    ∷ float (floor₃₂ (neg (nearest 2 1))) (neg (nearest 2 1))
    ∷ integer (to_i32 nan) (pos 0)
    ∷ []

-- c: a shift and a product
abbrev pub rows_c : List Example
rows_c =
    integer (shift_w (negsuc 0) 13) (negsuc 0)
    ∷ integer (mul_w (pos 65536) (pos 65536)) (pos 0)
    ∷ []

-- k: what `report` leaves for the program to print
abbrev pub rows_k : List Example
rows_k = printed listing_printed listing_text ∷ []

-- beside SCOPE 12: more shifts (3.3), of -1 and of both ends of an i32, by 13 and by 16
abbrev pub rows_shift : List Example
rows_shift =
    integer (shift_w (negsuc 0) 16) (negsuc 0)
    ∷ integer (shift_w (negsuc 2147483647) 13) (negsuc 262143)
    ∷ integer (shift_w (negsuc 2147483647) 16) (negsuc 32767)
    ∷ integer (shift_w (pos 2147483647) 13) (pos 262143)
    ∷ integer (shift_w (pos 2147483647) 16) (pos 32767)
    ∷ []

abbrev pub table : List Example
table =
    rows_a ++ (rows_b ++ (rows_c ++ (rows_d ++ (rows_e ++ (rows_f ++ (rows_g ++ (rows_h ++ (rows_i ++ (rows_j ++ (rows_k ++ rows_shift))))))))))
