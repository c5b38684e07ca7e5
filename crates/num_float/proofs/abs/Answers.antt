-- `num_float::abs` meets its contract: std's absolute value is the definition's. Assumes nothing.
use Rattle.std.proofs.Common.{◌≡◌, false, refl, ◌∙◌}
use lib.Ieee.{Float, nan, inf, fin}
use Rattle.std.specs.Float.{float_with_sign}
use Rattle.num_float.specs.Num.{abs₃₂}
use Rattle.num_float.proofs.abs.Goals as goal

same : (x : Float) → float_with_sign false x ≡ abs₃₂ x
unfolding float_with_sign abs₃₂
same nan = refl
same (inf s) = refl
same (fin s m e) = refl

pub returns : goal.returns
returns c = c.abs.ensures.value ∙ same c.args.x
