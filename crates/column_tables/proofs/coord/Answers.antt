-- `column_tables::coord` meets its contract. Assumes nothing.
use lib.Ieee.{of_bits, neg}
use native.Mathlib.Omega.{arith}
use Rattle.std.proofs.lemmas.Bool.Decides.{nat_tests}
use Rattle.num_core.specs.Num.{nearest}
use Rattle.column_tables.specs.Coords.{climate_x, relief_x, lowland_x, column_coord}
use Rattle.column_tables.proofs.coord.Goals as goal

pub returns-in-0-to-3 : goal.returns-in-0-to-3
unfolding column_coord climate_x nearest of_bits neg
returns-in-0-to-3 c = grind (arith, nat_tests, c.scaled.ensures)

pub returns-in-4-to-7 : goal.returns-in-4-to-7
unfolding column_coord climate_x nearest of_bits neg
returns-in-4-to-7 c = grind (arith, nat_tests, c.scaled-in-4-to-7.ensures)

pub returns-in-8-to-10 : goal.returns-in-8-to-10
unfolding column_coord climate_x nearest of_bits neg
returns-in-8-to-10 c = grind (arith, nat_tests, c.scaled-in-8-to-10.ensures)

pub returns-in-11-to-13 : goal.returns-in-11-to-13
unfolding column_coord climate_x nearest of_bits neg
returns-in-11-to-13 c = grind (arith, nat_tests, c.scaled-in-11-to-13.ensures)

pub returns-in-14-to-17 : goal.returns-in-14-to-17
unfolding column_coord relief_x nearest of_bits neg
returns-in-14-to-17 c = grind (arith, nat_tests, c.scaled-in-14-to-17.ensures)

pub returns-in-18-to-19 : goal.returns-in-18-to-19
unfolding column_coord relief_x nearest of_bits neg
returns-in-18-to-19 c = grind (arith, nat_tests, c.scaled-in-18-to-19.ensures)

pub returns-in-20-to-23 : goal.returns-in-20-to-23
unfolding column_coord relief_x nearest of_bits neg
returns-in-20-to-23 c = grind (arith, nat_tests, c.scaled-in-20-to-23.ensures)

pub returns-in-24-to-26 : goal.returns-in-24-to-26
unfolding column_coord relief_x nearest of_bits neg
returns-in-24-to-26 c = grind (arith, nat_tests, c.scaled-in-24-to-26.ensures)

pub returns-in-27-to-29 : goal.returns-in-27-to-29
unfolding column_coord lowland_x nearest of_bits neg
returns-in-27-to-29 c = grind (arith, nat_tests, c.scaled-in-27-to-29.ensures)

pub returns-in-30-to-32 : goal.returns-in-30-to-32
unfolding column_coord lowland_x nearest of_bits neg
returns-in-30-to-32 c = grind (arith, nat_tests, c.scaled-in-30-to-32.ensures)

pub returns-in_default : goal.returns-in_default
unfolding column_coord lowland_x nearest of_bits neg
returns-in_default c = grind (arith, nat_tests, c.scaled-in_default.ensures)
