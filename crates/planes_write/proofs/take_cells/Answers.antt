use Rattle.std.proofs.Common.{◌≡◌, ℕ, ◌+◌, ◌-◌, ◌*◌, ◌<◌, ap, ◌∙◌, arith, List, ◌++◌, length, get_or, set, drop}
use Rattle.grid.specs.Cube.{tab}
use Rattle.grid.specs.Grid.{fill_none, fill_more}
use Rattle.planes_blocks.specs.Blocks.{span_pair}
use Rattle.planes_write.specs.Writing.{taken_from}
use Rattle.planes_write.proofs.take_cells.Goals as goal

pub loop-p-init : goal.loop-p-init
loop-p-init c = fill_none _ _

pub loop-p-preserved : goal.loop-p-preserved
loop-p-preserved c =
    let a = c.args in
    let b = a.block.now in
    let j : ℕ = 2 * c.loop-p.p in
    let f : ℕ → ℕ = taken_from a.cells.now a.table.now a.first in
    let room : j + 1 < length b = (let w = c.requires.0.wide in omega arith) in
    let pair = span_pair _ _ a.first a.w j c.requires.0 (omega arith) (omega arith) in
    let id : ℕ = get_or a.cells.now (a.first + get_or a.table.now j 0 + 1) 0 in
    ap (λ (d : List ℕ). set (set d j (f j)) (j + 1) id) c.loop-p.invariant
    ∙ ap (λ (d : List ℕ). set d (j + 1) id) (fill_more b j f (omega arith))
    ∙ ap (λ (k : ℕ). set (tab (j + 1) f ++ drop (j + 1) b) (j + 1) (get_or a.cells.now k 0)) pair
    ∙ fill_more b (j + 1) f room
    ∙ ap (λ (k : ℕ). tab k f ++ drop k b) (let e : j + 1 + 1 ≡ 2 * (c.loop-p.p + 1) = omega arith in e)

pub returns-then-w-eq1 : goal.returns-then-w-eq1
returns-then-w-eq1 c =
    let a = c.args in
    let b = a.block.now in
    let j : ℕ = a.w - 1 in
    let f : ℕ → ℕ = taken_from a.cells.now a.table.now a.first in
    let p : 2 * c.loop-p.p ≡ j = omega arith in
    let room : j < length b = (let w = c.requires.0.wide in omega arith) in
    ap (λ (d : List ℕ). set d j (f j)) (c.loop-p.invariant ∙ ap (λ (k : ℕ). tab k f ++ drop k b) p)
    ∙ fill_more b j f room
    ∙ ap (λ (k : ℕ). tab k f ++ drop k b) (let e : j + 1 ≡ a.w = omega arith in e)
