use Rattle.std.proofs.Common.{arith}
use Rattle.chunk_groups.specs.Net.{change, net_none, net_then, net_all}
use Rattle.chunk_groups.proofs.batch_change.Goals as goal

pub loop-k-init : goal.loop-k-init
loop-k-init c = let a = c.args in net_none a.size a.edits.now a.cells.now

pub loop-k-preserved : goal.loop-k-preserved
loop-k-preserved c =
    let l = c.loop-k in
    net_then _ _ _ l.k (change l.before l.after) _ l.invariant c.group_change-c.ensures

pub returns : goal.returns
returns c =
    let a = c.args in
    net_all a.size a.edits.now c.loop-k.k a.cells.now _ (omega arith) c.loop-k.invariant
