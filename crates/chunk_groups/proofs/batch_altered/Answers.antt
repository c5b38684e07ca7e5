use Rattle.std.proofs.Common.{◌∙◌, arith}
use Rattle.chunk_groups.specs.Altered.{altered_none, altered_all}
use Rattle.chunk_groups.proofs.batch_altered.Goals as goal

pub loop-k-init : goal.loop-k-init
loop-k-init c = let a = c.args in altered_none a.size a.edits.now a.cells.now

pub returns : goal.returns
returns c =
    let a = c.args in
    c.loop-k.invariant ∙ altered_all a.size a.edits.now c.loop-k.k a.cells.now (omega arith)
