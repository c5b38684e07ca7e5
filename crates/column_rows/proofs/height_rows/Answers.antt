-- `column_rows::height_rows` meets its contract. Assumes nothing.
use lib.Ieee.{of_bits, neg}
use Rattle.num_core.specs.Num.{nearest}
use Rattle.column_rows.specs.Fields.{detail_row, micro_row}
use Rattle.column_rows.proofs.height_rows.Goals as goal

pub returns : goal.returns
unfolding nearest of_bits neg
returns c =
    let d = c.requires.7 in
    record {
      large = c.continent_row.ensures;
      fine = detail_row c.args.n c.args.xs.now c.args.floors.now c.args.eases.now d c.args.z _ c.fbm_row.ensures;
      finest = micro_row c.args.n c.args.xs.now c.args.floors.now c.args.eases.now d c.args.z _ c.fbm_row-2.ensures;
    }
