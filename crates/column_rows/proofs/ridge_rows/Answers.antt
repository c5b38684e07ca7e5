-- `column_rows::ridge_rows` meets its contract. Assumes nothing.
use mathlib.Core.List.{List}
use lib.Ieee.{Float, of_bits, neg}
use Rattle.num_core.specs.Num.{nearest}
use Rattle.column_rows.specs.Fields.{ridge1_row, ridge2_row}
use Rattle.column_rows.proofs.ridge_rows.Goals as goal

pub returns : goal.returns
unfolding nearest of_bits neg
returns c =
    record {
      is = λ (xs : List Float) d. record {
        first = ridge1_row c.args.n xs c.args.floors.now c.args.eases.now d c.args.z _ c.fbm_row.ensures;
        second = ridge2_row c.args.n xs c.args.floors.now c.args.eases.now d c.args.z _ c.fbm_row-2.ensures;
      };
    }
