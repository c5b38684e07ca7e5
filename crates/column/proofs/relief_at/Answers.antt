-- `column::relief_at` meets its contract. Assumes nothing.
use lib.Ieee.{of_bits, neg}
use Rattle.num_core.specs.Num.{nearest}
use Rattle.column.specs.Column.{relief_of}
use Rattle.column.proofs.relief_at.Goals as goal

pub returns : goal.returns
unfolding relief_of nearest of_bits neg
returns c =
    simp (
      c.offset_fbm-hill_factor.ensures,
      c.offset_fbm-dune.ensures,
      c.plateau-plateau.ensures,
      c.offset_fbm.ensures,
      c.ridges-ridges.ensures,
      c.scaled_fbm-micro.ensures,
      c.scaled_fbm-detail.ensures,
      c.continent-continent.ensures,
    )
