-- The text of a reopened map, as the program prints it (SCOPE 11.2, 11.3). Assumes nothing.
use Rattle.std.specs.Prelude.{List, ◌++◌, ℕ}
use Rattle.session_calls.specs.Record.{size_of}
use Rattle.session_calls.specs.Calls.{Resumed}
use Rattle.session_calls.specs.Reopened.{Reopened, Opened, Refused}
use Rattle.openmap_lines.specs.Text.{ok_text, no_text, map_text}

-- for each answer of a reopening, with the cells that it left
unfoldable pub answer_text : Reopened → List ℕ → List ℕ
unfolding ok_text map_text no_text
answer_text (Opened s lines trailing) c = ok_text lines s.active s.count trailing ++ map_text (size_of s) c
answer_text (Refused number line) c = no_text number line

unfoldable pub report_text : Resumed → List ℕ
unfolding answer_text
report_text r = answer_text r.answer r.cells
