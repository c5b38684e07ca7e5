-- `column::get_biome` meets its contract. Assumes nothing.
use mathlib.Core.Path.{ap, ap₂, ◌∙◌}
use lib.Ieee.{Float}
use mir.Syntax.{w32}
use mir.ValLaws.{to_z-of_z}
use Rattle.basics.specs.Paths.{ap₄}
use Rattle.column.specs.Column.{climate_of, relief_of, column_from, column_at, surface_of, biome_and_height}
use Rattle.column.specs.Floats.{◌+f◌, real}
use Rattle.column.proofs.get_biome.Goals as goal

pub returns : goal.returns
unfolding biome_and_height column_at column_from surface_of
returns c =
    let a = c.args in
    let x = c.of_i32.ensures ∙ ap real (to_z-of_z w32 a.wx c.ranges.wx) in
    let z = c.of_i32-2.ensures ∙ ap real (to_z-of_z w32 a.wz c.ranges.wz) in
    let sl = c.of_i32-sl.ensures ∙ ap real (to_z-of_z w32 a.sea_level c.ranges.sea_level) in
    c.surface_of.ensures
    ∙ ap₄ surface_of
    (c.climate.ensures ∙ ap₂ (λ (u v : Float). climate_of (u +f a.seed_offset) (v +f a.seed_offset)) x z)
    (c.relief_at.ensures ∙ ap₂ (λ (u v : Float). relief_of (u +f a.seed_offset) (v +f a.seed_offset)) x z)
    sl (to_z-of_z w32 a.max_height c.ranges.max_height)
