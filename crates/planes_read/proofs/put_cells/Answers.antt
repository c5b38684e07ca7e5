use Rattle.std.proofs.Common.{◌≡◌, ℕ, ◌+◌, ◌-◌, ◌*◌, ap, ◌∙◌, arith, List, get_or, set}
use Rattle.grid.specs.Cube.{steps}
use Rattle.grid.specs.Grid.{steps_none, steps_more}
use Rattle.planes_blocks.specs.Blocks.{span_pair}
use Rattle.planes_read.specs.Reading.{put_into}
use Rattle.planes_read.proofs.put_cells.Goals as goal

pub loop-p-init : goal.loop-p-init
loop-p-init c = steps_none _ _

pub loop-p-preserved : goal.loop-p-preserved
unfolding put_into
loop-p-preserved c =
    let a = c.args in
    let j : ℕ = 2 * c.loop-p.p in
    let g : ℕ → List ℕ → List ℕ = put_into a.block.now a.table.now a.first in
    let next : ℕ = a.first + get_or a.table.now j 0 + 1 in
    let id : ℕ = get_or a.block.now (j + 1) 0 in
    let pair = span_pair _ _ a.first a.w j c.requires.0 (omega arith) (omega arith) in
    ap (λ (d : List ℕ). set (g j d) next id) c.loop-p.invariant
    ∙ ap (λ (d : List ℕ). set d next id) (steps_more j g a.cells.now)
    ∙ ap (λ (k : ℕ). set (steps (j + 1) g a.cells.now) k id) pair
    ∙ steps_more (j + 1) g a.cells.now
    ∙ ap (λ (k : ℕ). steps k g a.cells.now) (let e : j + 1 + 1 ≡ 2 * (c.loop-p.p + 1) = omega arith in e)

pub returns-then-w-eq1 : goal.returns-then-w-eq1
unfolding put_into
returns-then-w-eq1 c =
    let a = c.args in
    let g : ℕ → List ℕ → List ℕ = put_into a.block.now a.table.now a.first in
    let p : 2 * c.loop-p.p ≡ a.w - 1 = omega arith in
    ap (g (a.w - 1)) (c.loop-p.invariant ∙ ap (λ (k : ℕ). steps k g a.cells.now) p)
    ∙ steps_more (a.w - 1) g a.cells.now
    ∙ ap (λ (k : ℕ). steps k g a.cells.now) (let e : a.w - 1 + 1 ≡ a.w = omega arith in e)
