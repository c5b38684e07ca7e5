-- `square_at` meets its contract. Assumes nothing.
use mathlib.Core.Path.{ap, ap₂, ◌∙◌}
use mir.Syntax.{w32}
use mir.ValLaws.{to_z-of_z}
use Rattle.basics.specs.Words.{read}
use Rattle.noise.specs.Hash.{hash2₃₂}
use Rattle.noise.specs.Noise.{next}
use Rattle.noise_rows.specs.Square.{square_of, square_with}
use Rattle.basics.specs.Paths.{ap₆}
use Rattle.noise_rows.proofs.square_at.Goals as goal

pub returns : goal.returns
unfolding square_of
returns c =
    let x = c.args.ix in
    let y = c.args.iy in
    let ix = to_z-of_z w32 x c.ranges.ix in
    let iy = to_z-of_z w32 y c.ranges.iy in
    let jx = read w32 c.wrapping_add-jx.type_inv (c.wrapping_add-jx.ensures ∙ ap next ix) in
    let jy = read w32 c.wrapping_add-jy.type_inv (c.wrapping_add-jy.ensures ∙ ap next iy) in
    ap₆ square_with ix iy
    (c.hash2-a.ensures ∙ ap₂ hash2₃₂ ix iy) (c.hash2-b.ensures ∙ ap₂ hash2₃₂ jx iy)
    (c.hash2-c.ensures ∙ ap₂ hash2₃₂ ix jy) (c.hash2-d.ensures ∙ ap₂ hash2₃₂ jx jy)
