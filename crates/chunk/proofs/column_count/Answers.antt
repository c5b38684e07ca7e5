-- `chunk::column_count` meets its contract: what is apart from air is what is counted. Assumes nothing.
use Rattle.std.proofs.Common.{◌∙◌, arith}
use Rattle.chunk.specs.Altered.{column_counted, column_apart_most}
use Rattle.chunk.proofs.column_count.Goals as goal

pub overflow_cast-result : goal.overflow_cast-result
overflow_cast-result c =
    let a = c.args in
    let m = column_apart_most a.size a.x a.z a.h 0 a.cells.now in
    let k = c.requires.0.most in
    omega arith

pub returns : goal.returns
returns c = let a = c.args in c.column_apart.ensures ∙ column_counted a.size a.x a.z a.h a.cells.now
