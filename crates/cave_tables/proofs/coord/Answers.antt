-- `cave_tables::coord` meets its contract. Assumes nothing.
use mathlib.Core.Path.{◌≡◌, ap, ◌∙◌}
use Prim.Native.Nat.{ℕ, ◌≤◌}
use native.Mathlib.Omega.{arith}
use lib.IntN.{ℤ, pos, ◌+ℤ◌}
use lib.Signed.{mag}
use lib.Ieee.{of_bits, neg}
use mir.Syntax.{w32}
use Rattle.std.proofs.lemmas.Bool.Decides.{nat_tests}
use Rattle.num_core.specs.Num.{nearest}
use Rattle.basics.specs.Words.{again, back}
use Rattle.column.specs.Floats.{real}
use Rattle.cave_tables.specs.Coords.{x_of, y_of, z_of, octave_of, cave_coord}
use Rattle.cave_tables.proofs.coord.Goals as goal

-- 32 bits hold where the chunk begins
place : (o : ℤ) (i : ℕ) → mag o ≤ 1000000 → real (again w32 o +ℤ pos i) ≡ real (o +ℤ pos i)
place o i h = ap (λ (u : ℤ). real (u +ℤ pos i)) (back o h)

pub returns-in-0-to-7 : goal.returns-in-0-to-7
unfolding cave_coord x_of octave_of nearest of_bits neg
returns-in-0-to-7 c =
    let e = c.place_at-x.ensures ∙ place c.args.f.ox c.args.i c.requires.0.x in
    grind (arith, nat_tests, c.octave_at.ensures, e)

pub returns-in-8-to-10 : goal.returns-in-8-to-10
unfolding cave_coord x_of nearest of_bits neg
returns-in-8-to-10 c =
    let e = c.place_at-x-in-8-to-10.ensures ∙ place c.args.f.ox c.args.i c.requires.0.x in
    grind (arith, nat_tests, c.scaled.ensures, e)

pub returns-in-11-to-18 : goal.returns-in-11-to-18
unfolding cave_coord y_of octave_of nearest of_bits neg
returns-in-11-to-18 c =
    let e = c.place_at-y.ensures ∙ place c.args.f.oy c.args.i c.requires.0.y in
    grind (arith, nat_tests, c.octave_at-in-11-to-18.ensures, e)

pub returns-in_default : goal.returns-in_default
unfolding cave_coord z_of octave_of nearest of_bits neg
returns-in_default c =
    let e = c.place_at-z.ensures ∙ place c.args.f.oz c.args.i c.requires.0.z in
    grind (arith, nat_tests, c.octave_at-in_default.ensures, e)
