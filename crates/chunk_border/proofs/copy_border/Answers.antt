use Rattle.std.proofs.Common.{ℕ, ap, ◌∙◌, arith, List, set, get_or}
use Rattle.grid.specs.Cube.{tab}
use Rattle.grid.specs.Grid.{fill_none, fill_more, fill_all, cube_most}
use Rattle.chunk_border.specs.Border.{border_source, border_of, source_lt}
use Rattle.chunk_border.proofs.copy_border.Goals as goal

pub loop-k-init : goal.loop-k-init
loop-k-init c = fill_none _ _

pub offset_bounds-cells-source : goal.offset_bounds-cells-source
offset_bounds-cells-source c =
    let i = source_lt c.args.face c.args.size c.loop-k.k (omega arith) in
    let m = cube_most _ c.requires.0.most in
    omega arith

pub bounds-cells-source : goal.bounds-cells-source
bounds-cells-source c =
    let i = source_lt c.args.face c.args.size c.loop-k.k (omega arith) in
    omega (arith, c.requires.0.all)

pub loop-k-preserved : goal.loop-k-preserved
loop-k-preserved c =
    let a = c.args in
    let l = c.loop-k in
    let f : ℕ → ℕ = λ (j : ℕ). get_or a.cells.now (border_source a.face a.size j) 0 in
    ap (λ (i : ℕ). set l.border l.k (get_or a.cells.now i 0)) c.source.ensures
    ∙ ap (λ (d : List ℕ). set d l.k (f l.k)) l.invariant
    ∙ fill_more a.border.now l.k f (omega arith)

pub returns : goal.returns
unfolding border_of
returns c =
    let a = c.args in
    let l = c.loop-k in
    let f : ℕ → ℕ = λ (j : ℕ). get_or a.cells.now (border_source a.face a.size j) 0 in
    l.invariant ∙ fill_all a.border.now f l.k (omega arith) ∙ ap (λ (j : ℕ). tab j f) c.requires.1
