use Rattle.std.proofs.Common.{ap, arith}
use lib.Ieee.{Float, binary32, add, mul}
use Rattle.noise_tables.specs.Row.{at}
use Rattle.noise_rows.specs.Sums.{added_none, added_one, in_square}
use Rattle.noise_rows.proofs.add_run.Goals as goal

pub loop-i-init : goal.loop-i-init
loop-i-init c = added_none (in_square c.args.k c.args.fy c.args.base c.args.eases.now) c.args.amp c.args.lo c.args.vals.now

pub loop-i-preserved : goal.loop-i-preserved
unfolding in_square
loop-i-preserved c =
    let l = c.loop-i in
    added_one (in_square c.args.k c.args.fy c.args.base c.args.eases.now) c.args.amp c.args.lo l.i c.args.vals.now l.vals _ (omega arith) (omega arith)
    (ap (λ (u : Float). add binary32 (at l.vals l.i) (mul binary32 u c.args.amp)) c.between.ensures) l.invariant
