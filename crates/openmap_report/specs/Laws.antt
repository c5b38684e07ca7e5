-- What the program prints; when it refuses, and with which number (SCOPE 11.3), is in `proofs/Laws`. Assumes nothing.
use Rattle.std.specs.Prelude.{List, ℕ, take}
use Rattle.session_calls.specs.Calls.{session_reopen_does}
use Rattle.openmap_report.specs.Text.{report_text}
use Rattle.openmap_report.specs.Report.{lent_cells}

-- what the program prints for the held bytes of a journal, over these cells
abbrev pub printed : List ℕ → ℕ → List ℕ → List ℕ
printed j held c = report_text (session_reopen_does (take (lent_cells j held) c) j held)
