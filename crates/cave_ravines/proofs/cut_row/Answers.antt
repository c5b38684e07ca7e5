use mathlib.Core.Path.{ap, ◌∙◌}
use native.Mathlib.Omega.{arith}
use mathlib.Core.Bool.{false}
use lib.IntN.{ℤ, pos, ◌+ℤ◌}
use lib.Ieee.{Float}
use Rattle.basics.specs.Lists.{front_more}
use Rattle.basics.specs.Words.{back}
use Rattle.column.specs.Floats.{real}
use Rattle.noise_tables.specs.Row.{at}
use Rattle.ground_cell.specs.Caves.{ravine_with}
use Rattle.cave_ravines.specs.Cuts.{cut_at}
use Rattle.cave_ravines.proofs.cut_row.Goals as goal

pub loop-i-preserved : goal.loop-i-preserved
unfolding cut_at
loop-i-preserved c =
    let l = c.loop-i in
    let a = c.args in
    let x = c.place_at-x.ensures ∙ ap (λ (u : ℤ). real (u +ℤ pos l.i)) (back a.f.ox c.requires.0.x) in
    front_more false (cut_at a.f a.z a.vals.now) l.cut-items l.i _ (omega arith)
    (c.ravine_with.ensures ∙ ap (λ (u : Float). ravine_with (at a.vals.now l.i) u a.z) x) l.invariant
