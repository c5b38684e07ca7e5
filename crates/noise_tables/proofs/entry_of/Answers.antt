-- `noise_tables::entry_of` meets its contract. Assumes nothing.
use mathlib.Core.Path.{ap, ap₂, ◌∙◌}
use lib.Ieee.{Float, binary32, sub}
use mir.Syntax.{w32}
use mir.Val.{of_z}
use Rattle.num_core.proofs.Floor.{floor_again}
use Rattle.noise.specs.Noise.{smooth₃₂, ease₃₂}
use Rattle.noise_tables.specs.Places.{entry_with, entry_of}
use Rattle.noise_tables.proofs.entry_of.Goals as goal

pub returns : goal.returns
unfolding entry_of ease₃₂
returns c =
    let p = c.floor_part-p.ensures in
    ap₂ entry_with
    (c.bits_of-at.ensures ∙ ap (of_z w32) (floor_again c.args.x p.0))
    (c.smooth-ease.ensures ∙ ap (λ (u : Float). smooth₃₂ (sub binary32 c.args.x u)) p.1)
