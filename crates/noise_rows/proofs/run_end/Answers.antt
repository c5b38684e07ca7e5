use Rattle.noise_rows.proofs.Runs.{run_one, run_more}
use Rattle.noise_rows.proofs.run_end.Goals as goal

pub loop-i-init : goal.loop-i-init
loop-i-init c = run_one c.args.base c.args.lo c.args.n c.args.floors.now c.requires.0

pub loop-i-preserved : goal.loop-i-preserved
loop-i-preserved c =
    run_more c.args.base c.args.lo c.args.n c.loop-i.i c.args.floors.now c.loop-i-test.true c.if-floors-base.false c.loop-i.invariant
