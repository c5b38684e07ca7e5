-- `cave_rows::judge` meets its contract. Assumes nothing.
use Rattle.std.proofs.Common.{◌≡◌, ℕ, ◌<◌, false, get_or}
use Rattle.cave_rows.specs.Fields.{judged_at}
use Rattle.cave_rows.proofs.judge.Given as goal

abbrev pub invariant-loop-i : goal.invariant-loop-i
invariant-loop-i l = (j : ℕ) → j < l.i → get_or l.flag-items j false ≡ judged_at l.y l.k l.heights l.cuts l.a l.b l.c j
