-- A line more is laid. Assumes nothing.
use Rattle.std.proofs.Common.{◌≡◌, ◌+◌, ◌*◌, arith}
use Rattle.ground_lines.specs.Laws.{lines_none}
use Rattle.ground_rows.proofs.lay_levels.Goals as goal

pub loop-y-init : goal.loop-y-init
loop-y-init c =
    let a = c.args in
    let first = a.z * a.o.size in
    let e : a.z * a.o.size + 0 ≡ a.z * a.o.size = omega arith in
    record { laid = rw e (lines_none a.w a.o first a.cells.now c.requires.6.all); ready = c.requires.4 }
