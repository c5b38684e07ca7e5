-- `noise_at` meets its contract. Assumes nothing.
use mathlib.Core.Path.{ap, ap₂, ◌∙◌}
use lib.IntN.{ℤ}
use lib.Ieee.{Float, binary32, sub}
use Rattle.num_core.specs.Num.{floor_i}
use Rattle.num_core.proofs.Floor.{floor_again}
use Rattle.noise.specs.Noise.{smooth₃₂, ease₃₂, square₃₂, noise2d₃₂}
use Rattle.noise_places.proofs.noise_at.Goals as goal

pub returns : goal.returns
unfolding noise2d₃₂ ease₃₂
returns c =
    let x = c.args.x in
    let y = c.args.y in
    let f = c.smooth-fy.ensures ∙ ap (λ (u : Float). smooth₃₂ (sub binary32 y u)) c.floor_part-py.ensures.1 in
    (c.noise_kept.ensures.0 ∙ ap₂ (λ (i : ℤ) (u : Float). square₃₂ (floor_i x) i (ease₃₂ x) u) (floor_again y c.floor_part-py.ensures.0) f, c.noise_kept.ensures.1)
