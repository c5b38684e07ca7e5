-- `square` meets its contract. Assumes nothing.
use Rattle.std.proofs.Common.{◌≡◌, ℤ, refl, sym, ap, ap₂, ◌∙◌, subst, w32, SFits}
use lib.Ieee.{Float}
use mir.ValLaws.{to_z-of_z}
use Rattle.noise_lattice.specs.Noise.{lerp₃₂, next}
use Rattle.basics.specs.Words.{read, again}
use Rattle.basics.specs.Paths.{ap₃}
use Rattle.noise_lattice.proofs.square.Goals as goal

-- what a hash of a corner answers, for i and j that are x and y
corner : {P : ℤ → ℤ → Float → Type 0} {at : ℤ → ℤ → Float} → ((x y : ℤ) (v : Float) → SFits w32 x → SFits w32 y → P x y v → v ≡ at x y)
    → {x y i j : ℤ} {v : Float} → SFits w32 x → SFits w32 y → again w32 x ≡ i → again w32 y ≡ j → P (again w32 x) (again w32 y) v → v ≡ at i j
corner {at = at} h {x} {y} {v = v} fx fy ex ey p = h (again w32 x) (again w32 y) v (same fx) (same fy) p ∙ ap₂ at ex ey
  where
    same : {x : ℤ} → SFits w32 x → SFits w32 (again w32 x)
    same {x} f = subst (SFits w32) (sym (to_z-of_z w32 x f)) f

pub returns : goal.returns
returns g c = λ at h.
    let fx = c.ranges.ix in
    let fy = c.ranges.iy in
    let gx : SFits w32 c.wrapping_add-jx.result = record { sfits = c.wrapping_add-jx.type_inv } in
    let gy : SFits w32 c.wrapping_add-jy.result = record { sfits = c.wrapping_add-jy.type_inv } in
    let ix = to_z-of_z w32 c.args.ix fx in
    let iy = to_z-of_z w32 c.args.iy fy in
    let jx = read w32 c.wrapping_add-jx.type_inv (c.wrapping_add-jx.ensures ∙ ap next ix) in
    let jy = read w32 c.wrapping_add-jy.type_inv (c.wrapping_add-jy.ensures ∙ ap next iy) in
    let low = c.lerp.ensures ∙ ap₃ lerp₃₂ (corner h fx fy ix iy c.hash.ensures) (corner h gx fy jx iy c.hash-2.ensures) refl in
    let high = c.lerp-2.ensures ∙ ap₃ lerp₃₂ (corner h fx gy ix jy c.hash-3.ensures) (corner h gx gy jx jy c.hash-4.ensures) refl in
    c.lerp-3.ensures ∙ ap₃ lerp₃₂ low high refl
