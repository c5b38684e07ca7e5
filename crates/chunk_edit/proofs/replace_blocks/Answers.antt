-- `chunk_edit::replace_blocks` meets its contract: past the test both have as many cells as the size says. Assumes nothing.
use Rattle.std.proofs.Common.{sym, ◌∙◌, arith}
use Rattle.grid.specs.Count.{count_most}
use Rattle.chunk.specs.Tests.{chunk_most}
use Rattle.chunk_edit.specs.Calls.{replace_passed}
use Rattle.chunk_edit.proofs.replace_blocks.Goals as goal

pub copy-requires : goal.copy-requires
copy-requires c = let h = replace_passed _ _ _ (sym c.in_ok-refuse_replace.ensures) in h.chunk.all ∙ sym h.new

pub overflow_cast-result : goal.overflow_cast-result
overflow_cast-result c =
    let h = replace_passed _ _ _ (sym c.in_ok-refuse_replace.ensures) in
    omega (arith, chunk_most _ _ h.chunk, count_most c.args.blocks.now, h.chunk.all, h.new)
