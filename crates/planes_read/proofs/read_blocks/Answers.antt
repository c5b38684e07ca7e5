use Rattle.std.proofs.Common.{◌≡◌, ℕ, ◌+◌, ◌*◌, sym, ap, ap₂, ◌∙◌, arith, List, length}
use Rattle.grid.specs.Cube.{steps}
use Rattle.grid.specs.Grid.{steps_none, steps_split}
use Rattle.planes_read.specs.Reading.{put_back}
use Rattle.planes_read.proofs.read_blocks.Goals as goal

pub loop-k-init : goal.loop-k-init
loop-k-init c = steps_none _ _

pub loop-k-preserved : goal.loop-k-preserved
loop-k-preserved c =
    let a = c.args in
    let l = c.loop-k in
    let g : ℕ → ℕ → List ℕ → List ℕ = λ (k : ℕ). put_back a.table.now k a.bytes.now in
    let n : ℕ = length a.cells.now in
    let m : ℕ = l.k * 64 in
    let long : length l.cells ≡ n = omega arith in
    c.read_block-in-loop-k.ensures
    ∙ ap₂ (λ (k : ℕ) (d : List ℕ). steps 64 (λ (j : ℕ). g k (m + j)) d) long l.invariant
    ∙ sym (steps_split m 64 (g n) a.cells.now)
    ∙ ap (λ (k : ℕ). steps k (g n) a.cells.now) (let e : m + 64 ≡ (l.k + 1) * 64 = omega arith in e)
