-- What a fresh session and reopening answer at the C boundary (SCOPE 7.2, 9.3). Assumes nothing.
use Rattle.std.specs.Prelude.{◌≡◌, List, ℕ, pos}
use Rattle.std.proofs.Common.{ap, ◌∙◌}
use Rattle.session_calls.specs.declared.Session.{Session}
use Rattle.session_calls.specs.Fresh.{Fresh, Started, Refused as NotStarted}
use Rattle.session_calls.specs.Reopened.{Reopened, Opened, Refused as NotOpened}
use Rattle.session_calls.specs.Calls.{session, Begun, begun, Resumed, resumed}
use Rattle.host_starts.specs.declared.Start.{Start}

-- the record of a refusal: all its numbers are 0, so that every later call refuses it with 21
abbrev pub no_session : Session
no_session =
    session
    (record { seed = 0; sea_level = pos 0; world_height_blocks = pos 0; chunk_size = 0 })
    (record { cx = pos 0; cy = pos 0; cz = pos 0 })
    0
    0
    0

-- a session with the number of its journal's whole lines and trailing bytes
abbrev pub started_in_c : Session → ℕ → ℕ → Start
started_in_c s lines trailing = record { session = s; number = 0; line = 0; lines = lines; trailing = trailing }

-- a refusal: its number and line
abbrev pub not_started : ℕ → ℕ → Start
not_started number line = record { session = no_session; number = number; line = line; lines = 0; trailing = 0 }

-- number, line and values of each case of a fresh session, whose journal is its first line
abbrev pub fresh_start : Fresh → Start
fresh_start (Started s) = started_in_c s 1 0
fresh_start (NotStarted number line) = not_started number line

-- .. and of a reopening
abbrev pub reopen_start : Reopened → Start
reopen_start (Opened s lines trailing) = started_in_c s lines trailing
reopen_start (NotOpened number line) = not_started number line

-- ---- with the buffers after the call

pub record FreshInC : Type 0 where
  pub start : Start
  pub cells : List ℕ
  pub journal : List ℕ

abbrev pub begun_in_c : Start → List ℕ → List ℕ → FreshInC
begun_in_c a c j = record { start = a; cells = c; journal = j }

-- a fresh session, as C sees it
abbrev pub fresh_in_c : Begun → FreshInC
fresh_in_c b = begun_in_c (fresh_start b.answer) b.cells b.journal

pub record ReopenInC : Type 0 where
  pub start : Start
  pub cells : List ℕ

abbrev pub resumed_in_c : Start → List ℕ → ReopenInC
resumed_in_c a c = record { start = a; cells = c }

-- a reopening, as C sees it
abbrev pub reopen_in_c : Resumed → ReopenInC
reopen_in_c b = resumed_in_c (reopen_start b.answer) b.cells

-- ---- laws: an answer in C, of what the library's call answered

pub fresh_in_c_lem : (r : Start) (a : Fresh) (c j : List ℕ) (o : Begun) → r ≡ fresh_start a → begun a c j ≡ o → begun_in_c r c j ≡ fresh_in_c o
fresh_in_c_lem r a c j o e f = ap (λ (u : Start). begun_in_c u c j) e ∙ ap fresh_in_c f

pub reopen_in_c_lem : (r : Start) (a : Reopened) (c : List ℕ) (o : Resumed) → r ≡ reopen_start a → resumed a c ≡ o → resumed_in_c r c ≡ reopen_in_c o
reopen_in_c_lem r a c o e f = ap (λ (u : Start). resumed_in_c u c) e ∙ ap reopen_in_c f
