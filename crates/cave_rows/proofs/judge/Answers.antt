use mathlib.Core.Path.{◌≡◌, ap, ◌∙◌}
use Prim.Native.Nat.{◌+◌}
use native.Mathlib.Omega.{arith}
use mathlib.Core.Bool.{false}
use lib.IntN.{ℤ, pos}
use lib.ListN.{get_or}
use lib.Ieee.{Float}
use mir.Syntax.{w32}
use Rattle.basics.specs.Lists.{front_more}
use Rattle.basics.specs.Words.{again, back}
use Rattle.column.specs.Floats.{real}
use Rattle.noise_tables.specs.Row.{at}
use Rattle.cave_rows.specs.Fields.{hollow_of, judged_at}
use Rattle.cave_rows.proofs.judge.Goals as goal

pub loop-i-preserved : goal.loop-i-preserved
unfolding judged_at
loop-i-preserved c =
    let a = c.args in
    let l = c.loop-i in
    let x = get_or a.heights.now (a.k + l.i) 0 in
    let e : c.of_i32.result ≡ real (pos x) =
    c.of_i32.ensures
    ∙ ap (λ (u : ℤ). real (again w32 u)) c.from-h.ensures
    ∙ ap real (back (pos x) (let d = c.type_inv.heights (a.k + l.i) in omega arith)) in
    front_more false (judged_at a.y a.k a.heights.now a.cuts.now a.a.now a.b.now a.c.now) l.flag-items l.i _ (omega arith)
    (c.hollow_at.ensures ∙ ap (λ (q : Float). hollow_of (at a.a.now l.i) (at a.b.now l.i) (at a.c.now l.i) a.y q (get_or a.cuts.now l.i false)) e) l.invariant
