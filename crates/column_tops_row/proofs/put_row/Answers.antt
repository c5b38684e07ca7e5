use mathlib.Core.Path.{◌≡◌, ap, ap₂, ◌∙◌}
use mathlib.Core.List.{List}
use Prim.Native.Nat.{ℕ, ◌+◌, ◌*◌}
use lib.ListN.{set}
use Rattle.column.specs.Floats.{real}
use Rattle.column.specs.Column.{surface_of}
use Rattle.column.specs.declared.Column.{Column}
use Rattle.column.specs.declared.Relief.{Relief}
use Rattle.grid.specs.Grid.{steps_none, steps_more}
use Rattle.ground_cell.specs.World.{top_with}
use Rattle.ground_cell.specs.Base.{column_height, column_biome}
use Rattle.ground_cell.specs.declared.world.Top.{Top}
use Rattle.column_tops_row.specs.Tops.{surface_top, note_at}
use Rattle.column_tops_row.specs.Laws.{row_top}
use Rattle.column_tops_row.proofs.put_row.Goals as goal

pub loop-x-init : goal.loop-x-init
loop-x-init c = record { tall = steps_none _ _; kinds = steps_none _ _ }

pub loop-x-preserved : goal.loop-x-preserved
unfolding note_at
loop-x-preserved c =
    let l = c.loop-x in
    let a = c.args in
    let w = a.w in
    let r = c.requires.3 in
    let k = a.z * a.o.size in
    let e : c.top_of-t.result ≡ top_with (column_height w a.o (k + l.x)) (column_biome w a.o (k + l.x)) =
    c.top_of-t.ensures
    ∙ ap₂ (λ (u : Column) (v : Relief). surface_top (surface_of u v (real w.sea_level) w.max_height))
    (c.climate.ensures ∙ r.climates l.x c.loop-x-test.true) (c.relief.ensures ∙ r.reliefs l.x c.loop-x-test.true)
    ∙ row_top w a.o a.z l.x c.loop-x-test.true in
    record {
      tall =
          ap₂ (λ (d : List ℕ) (v : ℕ). set d (k + l.x) v) l.invariant.tall (ap (λ (u : Top). u.height) e)
          ∙ steps_more l.x (note_at (column_height w a.o) k) a.heights.now;
      kinds =
          ap₂ (λ (d : List ℕ) (v : ℕ). set d (k + l.x) v) l.invariant.kinds (ap (λ (u : Top). u.biome) e)
          ∙ steps_more l.x (note_at (column_biome w a.o) k) a.biomes.now;
    }
