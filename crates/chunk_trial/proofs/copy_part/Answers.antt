use Rattle.std.proofs.Common.{ℕ, ◌+◌, ap, ap₂, ◌∙◌, arith, List, get_or, set}
use Rattle.grid.specs.Cube.{tab}
use Rattle.grid.specs.Grid.{fill_none, fill_more, fill_all}
use Rattle.chunk_trial.specs.Trial.{part_of}
use Rattle.chunk_trial.proofs.copy_part.Goals as goal

pub loop-k-init : goal.loop-k-init
loop-k-init c = fill_none _ _

pub loop-k-preserved : goal.loop-k-preserved
loop-k-preserved c =
    let a = c.args in
    let l = c.loop-k in
    ap₂ (λ (d : List ℕ) (v : ℕ). set d l.k v) l.invariant c.id_at.ensures
    ∙ fill_more a.part.now l.k (λ (j : ℕ). get_or a.cells.now (a.start + j) 0) (omega arith)

pub returns : goal.returns
unfolding part_of
returns c =
    let a = c.args in
    let f : ℕ → ℕ = λ (j : ℕ). get_or a.cells.now (a.start + j) 0 in
    c.loop-k.invariant ∙ fill_all a.part.now f c.loop-k.k (omega arith) ∙ ap (λ (n : ℕ). tab n f) c.requires.0
