-- `column::climate` meets its contract. Assumes nothing.
use mathlib.Core.Path.{ap₂, ◌∙◌}
use lib.Ieee.{of_bits, neg}
use Rattle.num_core.specs.Num.{nearest}
use Rattle.column.specs.Column.{with_climate, climate_of}
use Rattle.column.proofs.climate.Goals as goal

pub returns : goal.returns
unfolding climate_of nearest of_bits neg
returns c = c.with_climate.ensures ∙ ap₂ with_climate c.offset_fbm-temp.ensures c.offset_fbm-moisture.ensures
