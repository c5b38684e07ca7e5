-- `planes::refuse_planes` meets its contract: one law for each place at which it stops. Assumes nothing.
use mathlib.Core.Path.{sym, ◌∙◌}
use native.Mathlib.Omega.{arith}
use borrow.Author.Tests.{eq-eqb, ne_eqb}
use Rattle.grid.specs.Grid.{square_most, cube_most}
use Rattle.planes.proofs.Sizes.{power}
use Rattle.planes.proofs.Sizes.{size_stops, cells_stop, bytes_stop, none_stops}
use Rattle.planes.proofs.refuse_planes.Goals as goal

pub returns-then-not-power_size : goal.returns-then-not-power_size
returns-then-not-power_size c = sym (size_stops _ _ _ (sym c.power_size.ensures ∙ c.if-not-power_size.true))

pub overflow_mul-volume : goal.overflow_mul-volume
overflow_mul-volume c = let h = square_most _ (power _ (sym c.power_size.ensures ∙ c.if-not-power_size.false)).most in omega arith

pub overflow_mul-volume-2 : goal.overflow_mul-volume-2
overflow_mul-volume-2 c = let h = cube_most _ (power _ (sym c.power_size.ensures ∙ c.if-not-power_size.false)).most in omega arith

pub returns-then-n-volume : goal.returns-then-n-volume
returns-then-n-volume c =
    let a = sym c.power_size.ensures ∙ c.if-not-power_size.false in
    sym (cells_stop _ _ _ a (ne_eqb _ _ c.if-n-volume.true))

pub overflow_mul-volume-3 : goal.overflow_mul-volume-3
overflow_mul-volume-3 c = let h = cube_most _ (power _ (sym c.power_size.ensures ∙ c.if-not-power_size.false)).most in omega arith

pub returns-then-m-volume : goal.returns-then-m-volume
returns-then-m-volume c =
    let a = sym c.power_size.ensures ∙ c.if-not-power_size.false in
    sym (bytes_stop _ _ _ a (eq-eqb _ _ c.if-n-volume.false) (ne_eqb _ _ c.if-m-volume.true))

pub returns : goal.returns
returns c =
    let a = sym c.power_size.ensures ∙ c.if-not-power_size.false in
    sym (none_stops _ _ _ a (eq-eqb _ _ c.if-n-volume.false) (eq-eqb _ _ c.if-m-volume.false))
