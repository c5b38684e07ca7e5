use Rattle.std.proofs.Common.{arith}
use Rattle.noise_tables.specs.Places.{told_none, told_more}
use Rattle.noise_tables.proofs.note_octave.Goals as goal

pub loop-i-init : goal.loop-i-init
loop-i-init c = told_none c.args.base c.args.xs.now c.args.floors.now c.args.eases.now

pub loop-i-preserved : goal.loop-i-preserved
loop-i-preserved c =
    let l = c.loop-i in
    told_more c.args.base c.args.xs.now c.args.floors.now c.args.eases.now l.i l.floors l.eases c.entry_of-e.result (omega arith) (omega arith)
    c.entry_of-e.ensures l.invariant
