use Rattle.std.proofs.Common.{◌≡◌, ℕ, ◌+◌, ◌*◌, sym, ap, ◌∙◌, arith, List}
use Rattle.grid.specs.Cube.{steps}
use Rattle.grid.specs.Grid.{steps_none, steps_split}
use Rattle.planes_write.specs.Writing.{put_cell}
use Rattle.planes_write.proofs.write_blocks.Goals as goal

pub loop-k-init : goal.loop-k-init
loop-k-init c = steps_none _ _

pub loop-k-preserved : goal.loop-k-preserved
loop-k-preserved c =
    let a = c.args in
    let f : ℕ → List ℕ → List ℕ = put_cell a.table.now a.cells.now in
    let m : ℕ = c.loop-k.k * 64 in
    c.write_block-in-loop-k.ensures
    ∙ ap (λ (d : List ℕ). steps 64 (λ (j : ℕ). f (m + j)) d) c.loop-k.invariant
    ∙ sym (steps_split m 64 f a.bytes.now)
    ∙ ap (λ (k : ℕ). steps k f a.bytes.now) (let e : m + 64 ≡ (c.loop-k.k + 1) * 64 = omega arith in e)
