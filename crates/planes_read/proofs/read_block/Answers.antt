-- `planes_read::read_block` meets its contract. The block holds the ids of the positions from m on (`block_put`). Assumes nothing.
use mathlib.Core.Path.{sym, ◌∙◌, subst}
use Prim.Native.Nat.{ℕ}
use lib.ListN.{length}
use borrow.Author.Rules.{rules}
use Rattle.planes_blocks.specs.Blocks.{Span, span_of}
use Rattle.planes_read.specs.Restored.{block_put}
use Rattle.planes_read.proofs.read_block.Goals as goal

pub put_cells-requires : goal.put_cells-requires
put_cells-requires c =
    let a = c.args in
    let n : ℕ = length a.cells.now in
    let there = span_of a.table.now n a.m a.w c.requires.0 c.requires.1 in
    (subst (λ (i : ℕ). Span a.table.now n i a.w) (sym c.first_of-first.ensures) there, search rules)

pub returns : goal.returns
returns c =
    let a = c.args in
    c.put_cells.ensures
    ∙ block_put a.table.now a.bytes.now _ _ a.cells.now (length a.cells.now) _ a.m a.w c.requires.1
    c.first_of-first.ensures
    c.join_bytes.ensures
