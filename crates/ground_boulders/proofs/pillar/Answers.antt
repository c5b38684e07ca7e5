-- A block more is a step more. Assumes nothing.
use Rattle.std.proofs.Common.{◌≡◌, ℕ, List, ℤ, ap₂, ◌∙◌, arith}
use mir.Syntax.{w32}
use Rattle.basics.specs.Words.{again, back}
use Rattle.grid.specs.Cube.{put_at, steps}
use Rattle.grid.specs.Grid.{steps_more, steps_none}
use Rattle.ground_boulders.specs.Boulders.{pillar_step, pillar_of}
use Rattle.ground_boulders.proofs.pillar.Goals as goal

pub loop-j-init : goal.loop-j-init
loop-j-init c = steps_none _ _

pub loop-j-preserved : goal.loop-j-preserved
unfolding pillar_step
loop-j-preserved c =
    let l = c.loop-j in
    let a = c.args in
    c.put.ensures
    ∙ ap₂ (λ (u : ℕ) (d : List ℕ). put_at a.size a.x u a.z a.v d) c.local_y-ly.ensures l.invariant
    ∙ steps_more l.j (pillar_step a.size (again w32 a.oy) a.x a.z a.y a.v) a.cells.now

pub returns : goal.returns
unfolding pillar_of
returns c =
    let l = c.loop-j in
    let a = c.args in
    let e : l.j ≡ a.n = omega arith in
    l.invariant ∙ ap₂ (λ (k : ℕ) (u : ℤ). steps k (pillar_step a.size u a.x a.z a.y a.v) a.cells.now) e (back a.oy c.requires.1)
