-- `planes_write::write_block` meets its contract. The block holds the ids of the positions from m on (`block_put`). Assumes nothing.
use mathlib.Core.Path.{refl, sym, ◌∙◌, subst}
use Prim.Native.Nat.{ℕ}
use lib.ListN.{length}
use Rattle.planes_blocks.specs.Blocks.{Span, span_of}
use Rattle.planes_write.specs.Written.{block_put}
use Rattle.planes_write.proofs.write_block.Goals as goal

pub take_cells-requires : goal.take_cells-requires
take_cells-requires c =
    let a = c.args in
    let n : ℕ = length a.cells.now in (
      subst (λ (i : ℕ). Span a.table.now n i a.w) (sym c.first_of-first.ensures) (span_of a.table.now n a.m a.w c.requires.0 c.requires.1),
      refl,
    )

pub returns : goal.returns
returns c =
    let a = c.args in
    c.put_bytes.ensures
    ∙ block_put a.table.now a.cells.now _ _ a.bytes.now _ a.m a.w c.requires.1
    c.first_of-first.ensures
    c.take_cells.ensures
