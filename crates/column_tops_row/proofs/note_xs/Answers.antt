use mathlib.Core.Path.{ap, ◌∙◌}
use native.Mathlib.Omega.{arith}
use lib.IntN.{ℤ, pos, ◌+ℤ◌}
use lib.Ieee.{Float, nan}
use mir.Syntax.{w32}
use Rattle.basics.specs.Lists.{front_more}
use Rattle.basics.specs.Words.{read, back}
use Rattle.column.specs.Floats.{◌+f◌, real}
use Rattle.column_tops_row.specs.Tops.{x_at}
use Rattle.column_tops_row.proofs.note_xs.Goals as goal

pub loop-i-preserved : goal.loop-i-preserved
unfolding x_at
loop-i-preserved c =
    let l = c.loop-i in
    let a = c.args in
    let x = read w32 c.along-wx.type_inv (c.along-wx.ensures ∙ ap (λ (u : ℤ). u +ℤ pos l.i) (back a.o.ox c.requires.0.x)) in
    front_more nan (x_at a.w a.o) l.x-items l.i _ (omega arith) (ap (λ (u : Float). u +f a.w.seed_offset) (c.of_i32.ensures ∙ ap real x)) l.invariant
