-- `column::surface_of` meets its contract. Assumes nothing.
use mathlib.Core.Path.{◌≡◌, ap, ap₂, ◌∙◌}
use mir.Syntax.{w32}
use mir.ValLaws.{to_z-of_z}
use Rattle.basics.specs.Words.{read}
use Rattle.column.specs.Column.{weights_of, heights_of, dominant_of, height_of, surface, surface_of}
use Rattle.column.specs.declared.Column.{Column}
use Rattle.column.proofs.surface_of.Goals as goal

pub returns : goal.returns
unfolding surface_of
returns c =
    let a = c.args in
    let col : c.heights-c.result ≡ heights_of (weights_of a.climate) a.n a.sl =
    c.heights-c.ensures ∙ ap (λ (u : Column). heights_of u a.n a.sl) c.weights.ensures in
    let h =
    read w32 c.blended_height-height.type_inv
    (c.blended_height-height.ensures ∙ ap₂ height_of col (to_z-of_z w32 a.max_height c.ranges.max_height)) in
    ap₂ surface (c.dominant_biome-biome.ensures ∙ ap dominant_of col) h
