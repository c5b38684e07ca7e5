-- `ground_crown::diff` meets its contract. Assumes nothing.
use mathlib.Core.Path.{sym, ap, ◌∙◌, subst}
use lib.IntN.{pos, ◌-ℤ◌}
use mir.Syntax.{w32}
use mir.Val.{SFits}
use mir.ValLaws.{to_z-of_z}
use Rattle.basics.specs.Words.{again}
use Rattle.ground_crown.proofs.Counts.{diff_read, diff_fits}
use Rattle.ground_crown.proofs.diff.Goals as goal

pub overflow_sub-result : goal.overflow_sub-result
overflow_sub-result c =
    let s = c in
    let a = s.args in
    subst (SFits w32) (sym (diff_read a.i a.r s.requires.0 s.requires.1)) (diff_fits a.i a.r s.requires.0 s.requires.1)

pub returns : goal.returns
returns c =
    let s = c in
    let a = s.args in
    ap (again w32) (diff_read a.i a.r s.requires.0 s.requires.1) ∙ to_z-of_z w32 (pos a.i -ℤ pos a.r) (diff_fits a.i a.r s.requires.0 s.requires.1)
