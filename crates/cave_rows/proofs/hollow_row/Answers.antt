-- `cave_rows::hollow_row` meets its contract. Assumes nothing.
use mathlib.Core.Path.{ap, ◌∙◌}
use lib.IntN.{ℤ, pos, ◌+ℤ◌}
use Rattle.basics.specs.Words.{back}
use Rattle.column.specs.Floats.{real}
use Rattle.cave_rows.proofs.Flags.{flags_told}
use Rattle.cave_rows.proofs.hollow_row.Goals as goal

pub returns : goal.returns
returns c =
    let a = c.args in
    let l = c.raise_layers.ensures in
    let h = c.place_at-wy.ensures ∙ ap (λ (u : ℤ). real (u +ℤ pos a.y)) (back a.f.oy c.requires.0.y) in (
      l,
      flags_told a.f a.y a.z a.heights.now a.cuts.now a.floors.now a.eases.now _ _ _ _ _ _ c.requires.2 c.requires.3 h c.requires.5 c.requires.6 l
          c.sum_octaves-a.ensures c.sum_octaves-b.ensures c.sum_octaves-c.ensures c.judge.ensures,
    )
