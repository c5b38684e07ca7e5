-- `chunk_groups::group_altered` meets its contract: `altered_inside` is the sum that it makes. Assumes nothing.
use mathlib.Core.Path.{◌≡◌, sym, ap, ap₂, ◌∙◌}
use Prim.Native.Nat.{ℕ, ◌+◌}
use native.Mathlib.Omega.{arith}
use Rattle.grid.specs.Differing.{apart, apart_most, differing, differing_few}
use Rattle.grid_edits.specs.Edits.{group}
use Rattle.chunk_groups.specs.Laid.{laid, group_inside_lem}
use Rattle.chunk_groups.specs.Altered.{altered_outside, altered_inside}
use Rattle.chunk_groups.proofs.group_altered.Goals.{After-apart-2, After-is_inside}
use Rattle.chunk_groups.proofs.group_altered.Goals as goal

pub returns-then-not-is_inside : goal.returns-then-not-is_inside
returns-then-not-is_inside c =
    let a = c.args in
    c.requires.2
    ∙ altered_outside a.size a.edits.now a.k a.cells.now _ c.group_at-g.ensures
    (sym c.is_inside.ensures ∙ c.if-not-is_inside.true)

pub id_after-latest-requires : goal.id_after-latest-requires
id_after-latest-requires c =
    let g = c.group_at-g.result in
    let i = sym c.is_inside.ensures ∙ c.if-not-is_inside.false in
    (c.requires.0, group_inside_lem c.args.size (group g.x g.y g.z g.id) i, omega arith)

pub overflow_add-result : goal.overflow_add-result
overflow_add-result c =
    let a = c.args in
    let m = differing_few a.size a.cells.now (laid a.size a.edits.now a.k a.cells.now) c.requires.0 in
    let k = apart_most c.see-held.result c.group_at-g.result.id in
    omega arith

-- the count of the group's id comes, that of the id before it goes
sum :
    (c : After-apart-2)
    → let a = c.args in
    differing a.cells.now (laid a.size a.edits.now (a.k + 1) a.cells.now) + c.apart-2.result
    ≡ differing a.cells.now (laid a.size a.edits.now a.k a.cells.now) + c.apart.result
sum c =
    let a = c.args in
    let i = (goal.at.After-apart-2 c).After-is_inside in
    let h = c.see-held.ensures in
    altered_inside a.size a.edits.now a.k a.cells.now _ c.apart.result c.apart-2.result
    i.group_at-g.ensures
    (sym i.is_inside.ensures ∙ c.if-not-is_inside.false)
    c.requires.0
    (c.apart.ensures ∙ ap (λ (v : ℕ). apart v i.group_at-g.result.id) h)
    (c.apart-2.ensures ∙ ap₂ (λ (v : ℕ). λ (w : ℕ). apart v w) h c.id_after-latest.ensures)

pub overflow_sub-result : goal.overflow_sub-result
overflow_sub-result c = let m = sum c in omega arith

pub returns : goal.returns
returns c = let m = sum c in omega arith
