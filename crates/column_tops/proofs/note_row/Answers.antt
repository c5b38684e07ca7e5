-- `column_tops::note_row` meets its contract. Assumes nothing.
use mathlib.Core.Path.{ap, ap₂, ◌∙◌}
use lib.IntN.{ℤ, pos, ◌+ℤ◌}
use lib.Ieee.{Float}
use mir.Syntax.{w32}
use Rattle.basics.specs.Words.{read, back}
use Rattle.column.specs.Floats.{◌+f◌, real}
use Rattle.column.specs.Column.{climate_of, relief_of}
use Rattle.column_read.specs.Laws.{climate_in_lem, relief_in_lem}
use Rattle.column_tops_row.specs.Tops.{z_at}
use Rattle.column_tops.proofs.note_row.Goals as goal

pub put_row-requires : goal.put_row-requires
unfolding z_at
put_row-requires c =
    let a = c.args in
    let p = c.requires.1 in
    let t = c.requires.3 in
    let wz = read w32 c.along-wz.type_inv (c.along-wz.ensures ∙ ap (λ (u : ℤ). u +ℤ pos a.z) (back a.o.oz p.z)) in
    let vz = ap (λ (u : Float). u +f a.w.seed_offset) (c.of_i32.ensures ∙ ap real wz) in
    let cr = c.climate_rows.ensures.is a.xs.now t.told in
    let hr = c.height_rows.ensures in
    let rr = c.ridge_rows.ensures.is a.xs.now t.told in
    let lr = c.lowland_rows.ensures.is a.xs.now t.told in (
      c.requires.0,
      p,
      c.requires.2,
      record {
        climates = λ i h. climate_in_lem a.o.size _ _ _ _ cr i h ∙ ap₂ climate_of (t.places.holds i h) vz;
        reliefs = λ i h. relief_in_lem a.o.size _ _ _ _ _ _ _ _ _ _ hr rr lr i h ∙ ap₂ relief_of (t.places.holds i h) vz;
      },
      c.requires.4,
      c.requires.5,
    )
