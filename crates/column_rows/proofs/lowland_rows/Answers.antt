-- `column_rows::lowland_rows` meets its contract. Assumes nothing.
use mathlib.Core.List.{List}
use lib.Ieee.{Float, of_bits, neg}
use Rattle.num_core.specs.Num.{nearest}
use Rattle.column_rows.specs.Fields.{steps_row, dune_row, hill_row}
use Rattle.column_rows.proofs.lowland_rows.Goals as goal

pub returns : goal.returns
unfolding nearest of_bits neg
returns c =
    record {
      is = λ (xs : List Float) d. record {
        stepped = steps_row c.args.n xs c.args.floors.now c.args.eases.now d c.args.z _ c.fbm_row.ensures;
        dunes = dune_row c.args.n xs c.args.floors.now c.args.eases.now d c.args.z _ c.fbm_row-2.ensures;
        hills = hill_row c.args.n xs c.args.floors.now c.args.eases.now d c.args.z _ c.fbm_row-3.ensures;
      };
    }
