-- `planes_read::read_planes` meets its contract: what is put back position by position is the cells (`cells_are`). Assumes nothing.
use mathlib.Core.Path.{◌≡◌, sym, ap, ◌∙◌, subst}
use Prim.Native.Nat.{ℕ, ◌*◌}
use native.Mathlib.Omega.{arith}
use mathlib.Core.List.{List}
use lib.ListN.{length}
use Rattle.grid.specs.Cube.{steps}
use Rattle.planes_blocks.specs.Blocks.{Blocks, blocks_of}
use Rattle.planes_read.specs.Reading.{put_back}
use Rattle.planes_read.specs.Restored.{cells_are}
use Rattle.planes_read.proofs.read_planes.Goals as goal

pub read_blocks-requires : goal.read_blocks-requires
read_blocks-requires c =
    let a = c.args in
    let n : ℕ = length a.cells.now in
    let e : length a.bytes.now ≡ 2 * n = (let u = c.requires.bytes in let v = c.requires.cells in omega arith) in
    (subst (λ (t : List ℕ). Blocks t n) (sym c.note_block.ensures) (blocks_of a.size n (length a.bytes.now) c.requires), e)

pub returns : goal.returns
returns c =
    let a = c.args in
    let n : ℕ = length a.cells.now in
    c.read_blocks.ensures
    ∙ ap (λ (t : List ℕ). steps n (put_back t n a.bytes.now) a.cells.now) c.note_block.ensures
    ∙ cells_are a.size a.bytes.now a.cells.now c.requires
