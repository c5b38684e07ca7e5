-- `cave_ravines::note_cuts` meets its contract. Assumes nothing.
use mathlib.Core.Path.{ap, ◌∙◌}
use lib.IntN.{ℤ, pos, ◌+ℤ◌}
use lib.Ieee.{of_bits}
use Rattle.basics.specs.Words.{back}
use Rattle.num_core.specs.Num.{nearest}
use Rattle.column.specs.Floats.{real}
use Rattle.cave_ravines.specs.Cuts.{cuts_are}
use Rattle.cave_ravines.proofs.note_cuts.Goals as goal

pub returns : goal.returns
unfolding nearest of_bits
returns c =
    let a = c.args in
    let w = c.place_at-v.ensures ∙ ap (λ (u : ℤ). real (u +ℤ pos a.z)) (back a.f.oz c.requires.0.z) in
    cuts_are a.f a.z a.floors.now a.eases.now _ _ _ w c.requires.2 c.fbm_row.ensures c.cut_row.ensures
