-- `column::heights` meets its contract. Assumes nothing.
use lib.Ieee.{of_bits, neg}
use Rattle.num_core.specs.Num.{nearest}
use Rattle.column.specs.Column.{heights_of}
use Rattle.column.proofs.heights.Goals as goal

pub returns : goal.returns
unfolding heights_of nearest of_bits neg
returns c =
    simp (c.hill_boost-hill.ensures, c.cold_boost-cold.ensures)
