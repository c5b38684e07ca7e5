-- SCOPE 12 k, as what `report` does: the journal and the text. That the one gives the other is `proofs/Listing.listing_printed_lem`. Assumes nothing.
use Rattle.std.specs.Prelude.{List, [], ◌∷◌, ℕ, take}
use Rattle.openmap_report.specs.Report.{report_does}

-- the journal, with | for tab and an LF behind each but the last: `G|0|4096|256|2|0|128|0`; `S|0|0|0|0`; `C|1|0|2|8`; `U`; `S|1`
abbrev pub listing_journal : List ℕ
listing_journal =
    71 ∷ 9 ∷ 48 ∷ 9 ∷ 52 ∷ 48 ∷ 57 ∷ 54 ∷ 9 ∷ 50 ∷ 53 ∷ 54 ∷ 9 ∷ 50 ∷ 9 ∷ 48 ∷ 9 ∷ 49 ∷ 50 ∷ 56 ∷ 9 ∷ 48 ∷ 10
    ∷ 83 ∷ 9 ∷ 48 ∷ 9 ∷ 48 ∷ 9 ∷ 48 ∷ 9 ∷ 48 ∷ 10
    ∷ 67 ∷ 9 ∷ 49 ∷ 9 ∷ 48 ∷ 9 ∷ 50 ∷ 9 ∷ 56 ∷ 10
    ∷ 85 ∷ 10
    ∷ 83 ∷ 9 ∷ 49
    ∷ []

-- and what the program prints, with an LF behind each: `OK|4|1|7|3`; `0|5`; `5|5`; `5|5`; `5|5`
abbrev pub listing_text : List ℕ
listing_text =
    79 ∷ 75 ∷ 9 ∷ 52 ∷ 9 ∷ 49 ∷ 9 ∷ 55 ∷ 9 ∷ 51 ∷ 10
    ∷ 48 ∷ 9 ∷ 53 ∷ 10
    ∷ 53 ∷ 9 ∷ 53 ∷ 10
    ∷ 53 ∷ 9 ∷ 53 ∷ 10
    ∷ 53 ∷ 9 ∷ 53 ∷ 10
    ∷ []

-- what `report` leaves for the program to print, over borrowed cells c and a buffer o for the text
abbrev pub listing_printed : List ℕ → List ℕ → List ℕ
listing_printed c o = take (report_does listing_journal 48 c o).answer (report_does listing_journal 48 c o).out
