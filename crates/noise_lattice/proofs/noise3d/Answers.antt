-- `noise3d` meets its contract. Assumes nothing.
use mathlib.Core.Path.{ap, ◌∙◌}
use lib.Ieee.{Float, binary32, sub}
use mir.Syntax.{w32}
use Rattle.noise_lattice.specs.Noise.{smooth₃₂, lerp₃₂, ease₃₂, layer₃₂, noise3d₃₂, next}
use Rattle.basics.specs.Words.{read}
use Rattle.num_core.proofs.Floor.{floor_again}
use Rattle.basics.specs.Paths.{ap₃, ap₅}
use Rattle.noise_lattice.proofs.noise3d.Goals as goal

pub returns : goal.returns
unfolding noise3d₃₂ ease₃₂
returns c =
    let ex = c.smooth-fx.ensures ∙ ap (λ (u : Float). smooth₃₂ (sub binary32 c.args.x u)) c.floor_part-px.ensures.1 in
    let ey = c.smooth-fy.ensures ∙ ap (λ (u : Float). smooth₃₂ (sub binary32 c.args.y u)) c.floor_part-py.ensures.1 in
    let ez = c.smooth-fz.ensures ∙ ap (λ (u : Float). smooth₃₂ (sub binary32 c.args.z u)) c.floor_part-pz.ensures.1 in
    let ix = floor_again c.args.x c.floor_part-px.ensures.0 in
    let iy = floor_again c.args.y c.floor_part-py.ensures.0 in
    let iz = floor_again c.args.z c.floor_part-pz.ensures.0 in
    let jz = read w32 c.wrapping_add-jz.type_inv (c.wrapping_add-jz.ensures ∙ ap next iz) in
    c.lerp.ensures
    ∙ ap₃ lerp₃₂ (c.layer3.ensures ∙ ap₅ layer₃₂ ix iy iz ex ey) (c.layer3-2.ensures ∙ ap₅ layer₃₂ ix iy jz ex ey) ez
