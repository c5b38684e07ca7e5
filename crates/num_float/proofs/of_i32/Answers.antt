-- `num_float::of_i32` meets its contract. Assumes nothing.
use Rattle.std.proofs.Common.{ap, ◌∙◌, w32}
use lib.Ieee.{binary32, of_int}
use mir.ValLaws.{to_z-of_z}
use Rattle.num_float.proofs.of_i32.Goals as goal

pub returns : goal.returns
returns c =
    c.nearest_i32_to_f32.ensures ∙ ap (of_int binary32) (to_z-of_z w32 c.args.n c.ranges.n)
