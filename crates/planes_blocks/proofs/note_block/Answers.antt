use Rattle.std.proofs.Common.{ℕ, ◌<◌, ap, ◌∙◌, arith, List, length, set}
use Rattle.grid.specs.Cube.{tab}
use Rattle.grid.specs.Grid.{fill_none, fill_more, fill_all}
use Rattle.planes_blocks.specs.Blocks.{block_cell}
use Rattle.planes_blocks.proofs.note_block.Goals as goal

pub loop-j-init : goal.loop-j-init
loop-j-init c = fill_none _ _

pub loop-j-preserved : goal.loop-j-preserved
loop-j-preserved c =
    let l = c.loop-j in
    let f : ℕ → ℕ = block_cell c.args.size in
    ap (λ (v : ℕ). set l.table l.j v) c.block_cell.ensures
    ∙ ap (λ (d : List ℕ). set d l.j (f l.j)) l.invariant
    ∙ fill_more c.args.table.now l.j f (omega arith)

pub returns : goal.returns
returns c =
    let l = c.loop-j in
    let f : ℕ → ℕ = block_cell c.args.size in
    l.invariant ∙ fill_all c.args.table.now f l.j (omega arith) ∙ ap (λ (j : ℕ). tab j f) c.requires.1
