-- `column_rows::continent_row` meets its contract. Assumes nothing.
use mathlib.Core.Path.{ap, ap₂, ◌∙◌}
use native.Mathlib.Omega.{arith}
use lib.ListN.{get_or-replicate}
use lib.Ieee.{Float, nan, of_bits, neg}
use Rattle.num_core.specs.Num.{nearest}
use Rattle.noise.specs.Noise.{fbm2d₃₂}
use Rattle.noise_places.specs.Places.{places_fbm}
use Rattle.noise_tables.specs.Row.{at}
use Rattle.column.specs.Floats.{◌+f◌, ◌*f◌, nat}
use Rattle.column.specs.Column.{scaled_fbm₃₂, continent₃₂}
use Rattle.column_rows.specs.Rows.{offset_row, continent_row, warped}
use Rattle.column_rows.specs.Fields.{warp_x_row, warp_z_row}
use Rattle.column_rows.proofs.continent_row.Goals as goal

pub returns : goal.returns
unfolding places_fbm continent_row continent₃₂ scaled_fbm₃₂ warped offset_row nearest of_bits neg
returns c =
    let d = c.requires.5 in
    let r = c.fbm_places.ensures in
    let wx = c.warp.ensures in
    let wz = c.warp-2.ensures in
    let ox = warp_x_row c.args.n c.args.xs.now c.args.floors.now c.args.eases.now d c.args.z _ c.fbm_row.ensures in
    let oz = warp_z_row c.args.n c.args.xs.now c.args.floors.now c.args.eases.now d c.args.z _ c.fbm_row-2.ensures in
    record {
      long = r.long;
      holds = λ i h.
          r.holds i h
          ∙ ap₂ (λ (u v : Float). fbm2d₃₂ u v 5)
          (wx.holds i h ∙ ap (λ (u : Float). (at c.args.xs.now i +f u *f nat 40) *f nearest 4 1000) (ox.holds i h))
          (wz.holds i h ∙ ap₂ (λ (v u : Float). (v +f u *f nat 40) *f nearest 4 1000) (get_or-replicate 64 i c.args.z nan (omega arith)) (oz.holds i h));
    }
