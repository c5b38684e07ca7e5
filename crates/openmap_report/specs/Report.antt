-- What `report` does (SCOPE 11.1 to 11.3): the text, its length and the cells. Assumes nothing.
use Rattle.std.specs.Prelude.{◌&&◌, List, ◌++◌, ℕ, nat_abs, length, take, drop, leb}
use Rattle.basics.specs.Bools.{pick}
use Rattle.journal_format.specs.Written.{written}
use Rattle.journal_open.specs.Opens.{Opening, Opens, Refused, opening_of}
use Rattle.session_calls.specs.Record.{cube}
use Rattle.session_calls.specs.Calls.{Resumed, session_reopen_does}
use Rattle.openmap_report.specs.Text.{report_text}

-- SCOPE 11.1: size³ cells are lent where the first line has a size of at most 16, else all 4,096;
-- 17³ is 4,913, so that a larger size gets 6 from reopening itself, at its place in the order (SCOPE 11.3)
abbrev pub lent_by : Opening → ℕ
lent_by (Opens h n second) = pick (leb (nat_abs h.chunk_size) 16) (cube (nat_abs h.chunk_size)) 4096
lent_by (Refused number line) = 4096

unfoldable pub lent_cells : List ℕ → ℕ → ℕ
unfolding opening_of
lent_cells j held = lent_by (opening_of j held)

-- the answer, the cells and the buffer for the text
pub record Reported : Type 0 where
  pub answer : ℕ
  pub cells : List ℕ
  pub out : List ℕ

abbrev pub reported : ℕ → List ℕ → List ℕ → Reported
reported n c o = record { answer = n; cells = c; out = o }

-- the text at the buffer's start, and its length as the answer; the cells that were not lent stay
abbrev pub told : Resumed → List ℕ → List ℕ → Reported
told r rest o = reported (length (report_text r)) (r.cells ++ rest) (written o 0 (report_text r))

-- with 4,096 cells and 25,000 bytes for the text at least; else the answer is 0 and nothing changes
unfoldable pub report_does : List ℕ → ℕ → List ℕ → List ℕ → Reported
unfolding lent_cells report_text session_reopen_does
report_does j held c o =
    pick (leb 4096 (length c) && leb 25000 (length o))
    (told (session_reopen_does (take (lent_cells j held) c) j held) (drop (lent_cells j held) c) o)
    (reported 0 c o)
