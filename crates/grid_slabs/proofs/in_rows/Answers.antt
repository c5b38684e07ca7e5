-- The two tests are the definition. Assumes nothing.
use borrow.Author.Rules.{rules}
use Rattle.grid_slabs.specs.Rows.{in_rows}
use Rattle.grid_slabs.proofs.in_rows.Goals as goal

pub returns : goal.returns
unfolding in_rows
returns c = search rules
