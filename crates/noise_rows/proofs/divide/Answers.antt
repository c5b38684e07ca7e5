use Rattle.std.proofs.Common.{ap, arith}
use lib.Ieee.{Float, binary32, div}
use Rattle.noise_rows.specs.Sums.{share_at}
use Rattle.noise_tables.proofs.Fill.{start, step, end}
use Rattle.noise_rows.proofs.divide.Goals as goal

pub loop-i-init : goal.loop-i-init
loop-i-init c = start (share_at c.args.max c.args.vals.now) _

pub loop-i-preserved : goal.loop-i-preserved
unfolding share_at
loop-i-preserved c =
    let l = c.loop-i in
    let old = c.args.vals.now in
    step (share_at c.args.max old) old l.vals l.i _ l.invariant (omega arith)
    (ap (λ (u : Float). div binary32 u c.args.max) (l.invariant.rest l.i (omega arith)))

pub returns : goal.returns
returns c =
    let l = c.loop-i in
    end (share_at c.args.max c.args.vals.now) c.args.vals.now l.vals l.i c.args.n l.invariant c.loop-i-test.false c.requires.1
