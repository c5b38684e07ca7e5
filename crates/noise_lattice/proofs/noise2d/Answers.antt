-- `noise2d` meets its contract. Assumes nothing.
use mathlib.Core.Path.{ap, ◌∙◌}
use lib.Ieee.{Float, binary32, sub}
use Rattle.noise_hash.specs.Hash.{hash2₃₂}
use Rattle.noise_lattice.specs.Noise.{smooth₃₂, ease₃₂, square₃₂, noise2d₃₂}
use Rattle.num_core.proofs.Floor.{floor_again}
use Rattle.basics.specs.Paths.{ap₄}
use Rattle.noise_lattice.proofs.noise2d.Goals as goal

pub returns : goal.returns
unfolding noise2d₃₂ ease₃₂ square₃₂
returns c =
    let ex = c.smooth-fx.ensures ∙ ap (λ (u : Float). smooth₃₂ (sub binary32 c.args.x u)) c.floor_part-px.ensures.1 in
    let ey = c.smooth-fy.ensures ∙ ap (λ (u : Float). smooth₃₂ (sub binary32 c.args.y u)) c.floor_part-py.ensures.1 in
    c.square.ensures hash2₃₂ (λ x y v f e p. p)
    ∙ ap₄ square₃₂ (floor_again c.args.x c.floor_part-px.ensures.0) (floor_again c.args.y c.floor_part-py.ensures.0) ex ey
