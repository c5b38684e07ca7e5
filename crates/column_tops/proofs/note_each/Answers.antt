use mathlib.Core.Path.{◌∙◌}
use native.Mathlib.Omega.{arith}
use Rattle.ground_cell.specs.Base.{column_height, column_biome}
use Rattle.column_tops_row.specs.Laws.{none, more}
use Rattle.basics.specs.Naturals.{row_fits}
use Rattle.column_tops.proofs.note_each.Goals as goal

pub loop-z-init : goal.loop-z-init
loop-z-init c =
    let a = c.args in
    record { tall = none (column_height a.w a.o) a.heights.now a.o.size; kinds = none (column_biome a.w a.o) a.biomes.now a.o.size }

pub loop-z-preserved : goal.loop-z-preserved
loop-z-preserved c =
    let l = c.loop-z in
    let a = c.args in
    let d = row_fits l.z a.o.size c.loop-z-test.true in
    record {
      tall = c.note_row.ensures.0 ∙ more (column_height a.w a.o) a.heights.now l.heights l.z a.o.size l.invariant.tall (omega arith);
      kinds = c.note_row.ensures.1 ∙ more (column_biome a.w a.o) a.biomes.now l.biomes l.z a.o.size l.invariant.kinds (omega arith);
    }
