-- `column::blended_height` meets its contract. Assumes nothing.
use mathlib.Core.Path.{refl, ap, ◌∙◌}
use mir.Syntax.{w32}
use mir.ValLaws.{to_z-of_z}
use Rattle.num_core.specs.Num.{to_i32}
use Rattle.basics.specs.Words.{read}
use Rattle.basics.specs.Paths.{ap₃}
use Rattle.column.specs.Column.{clamp_of, height_of}
use Rattle.column.proofs.blended_height.Goals as goal

pub returns : goal.returns
unfolding height_of
returns c =
    let n = read w32 c.to_i32.type_inv (c.to_i32.ensures ∙ ap to_i32 c.blend.ensures) in
    read w32 c.clamp_i32.type_inv (c.clamp_i32.ensures ∙ ap₃ clamp_of n refl (to_z-of_z w32 c.args.max_height c.ranges.max_height))
