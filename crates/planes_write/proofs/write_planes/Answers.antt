-- `planes_write::write_planes` meets its contract: what is written position by position is the planes (`planes_are`). Assumes nothing.
use mathlib.Core.Path.{◌≡◌, sym, ap, ◌∙◌, subst}
use Prim.Native.Nat.{ℕ, ◌*◌}
use native.Mathlib.Omega.{arith}
use mathlib.Core.List.{List}
use lib.ListN.{length}
use Rattle.grid.specs.Cube.{steps}
use Rattle.planes_blocks.specs.Blocks.{Blocks, blocks_of}
use Rattle.planes_write.specs.Writing.{put_cell}
use Rattle.planes_write.specs.Written.{planes_are}
use Rattle.planes_write.proofs.write_planes.Goals as goal

pub write_blocks-requires : goal.write_blocks-requires
write_blocks-requires c =
    let a = c.args in
    let n : ℕ = length a.cells.now in
    let e : length a.bytes.now ≡ 2 * n = (let u = c.requires.bytes in let v = c.requires.cells in omega arith) in
    (subst (λ (t : List ℕ). Blocks t n) (sym c.note_block.ensures) (blocks_of a.size n (length a.bytes.now) c.requires), e)

pub returns : goal.returns
returns c =
    let a = c.args in
    let n : ℕ = length a.cells.now in
    c.write_blocks.ensures
    ∙ ap (λ (t : List ℕ). steps n (put_cell t a.cells.now) a.bytes.now) c.note_block.ensures
    ∙ planes_are a.size a.cells.now a.bytes.now c.requires
