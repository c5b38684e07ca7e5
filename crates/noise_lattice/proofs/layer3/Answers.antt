-- `layer3` meets its contract. Assumes nothing.
use Rattle.std.proofs.Common.{◌≡◌, ℤ, refl, ◌∙◌, w32, rules}
use mir.ValLaws.{to_z-of_z}
use Rattle.noise_hash.specs.Hash.{hash3₃₂}
use Rattle.noise_lattice.specs.Noise.{layer₃₂}
use Rattle.basics.specs.Words.{again}
use Rattle.basics.specs.Paths.{ap₃, ap₅}
use Rattle.noise_lattice.proofs.layer3.Goals as goal

pub returns : goal.returns
unfolding layer₃₂
returns c =
    let k = again w32 c.args.iz in
    let layer = c.square.ensures (λ (x y : ℤ). hash3₃₂ x y k)
    (λ x y v f e p. let r : v ≡ hash3₃₂ (again w32 x) (again w32 y) k = search rules in r ∙ ap₃ hash3₃₂ (to_z-of_z w32 x f) (to_z-of_z w32 y e) refl) in
    layer
    ∙ ap₅ layer₃₂ (to_z-of_z w32 c.args.ix c.ranges.ix) (to_z-of_z w32 c.args.iy c.ranges.iy) (to_z-of_z w32 c.args.iz c.ranges.iz) refl refl
