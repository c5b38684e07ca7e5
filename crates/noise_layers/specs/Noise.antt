-- What is read between the rows of a layer is the noise (SCOPE 3.6). Assumes nothing.
use Rattle.std.specs.Prelude.{◌≡◌, List, ℕ, ◌+◌, ◌*◌, ◌<◌, ℤ, Float}
use Rattle.std.proofs.Math.Path.{refl, ap₂}
use Rattle.std.proofs.Common.{◌∙◌}
use Rattle.basics.specs.Paths.{ap₄}
use Rattle.num_core.specs.Num.{floor_i}
use Rattle.noise.specs.Noise.{ease₃₂, layer₃₂, noise3d₃₂, next}
use Rattle.noise_tables.specs.Row.{at}
use Rattle.noise_tables.specs.Places.{Tells, tells_floor}
use Rattle.noise_layers.specs.Layers.{edge₃₂, whole_at, edge_at, Layer, between_of, octave_at}

module _ (floors : List ℕ) (eases edges : List Float) (x y z : Float) where
  edge_is : (iy iz : ℤ) (base i : ℕ) → Tells floors eases (base + i) x → edge_at iy iz base floors eases i ≡ edge₃₂ (floor_i x) iy iz (ease₃₂ x)
  unfolding edge_at
  edge_is iy iz base i t = ap₂ (λ (u : ℤ) (v : Float). edge₃₂ u iy iz v) (tells_floor t) t.part

  abbrev between : ℤ → ℤ → Float → Float → Float
  between iy iz fy fz =
      between_of (edge₃₂ (floor_i x) iy iz (ease₃₂ x)) (edge₃₂ (floor_i x) (next iy) iz (ease₃₂ x)) (edge₃₂ (floor_i x) iy (next iz) (ease₃₂ x))
      (edge₃₂ (floor_i x) (next iy) (next iz) (ease₃₂ x)) fy fz

  between_is : between (floor_i y) (floor_i z) (ease₃₂ y) (ease₃₂ z) ≡ noise3d₃₂ x y z
  unfolding between_of edge₃₂ noise3d₃₂ layer₃₂
  between_is = refl

  -- octave o at place i of a row whose tables tell of x, y and z
  pub octave_noise : (o n ky kz i : ℕ) → i < n → Layer o n (whole_at floors ky) (whole_at floors kz) floors eases edges
      → Tells floors eases (o * 64 + i) x → Tells floors eases ky y → Tells floors eases kz z
      → octave_at o ky kz eases edges i ≡ noise3d₃₂ x y z
  unfolding octave_at
  octave_noise o n ky kz i h l p q r =
      ap₄ (λ (a b c d : Float). between_of a b c d (at eases ky) (at eases kz))
      (l.a i h ∙ edge_is (whole_at floors ky) (whole_at floors kz) (o * 64) i p)
      (l.b i h ∙ edge_is (next (whole_at floors ky)) (whole_at floors kz) (o * 64) i p)
      (l.c i h ∙ edge_is (whole_at floors ky) (next (whole_at floors kz)) (o * 64) i p)
      (l.d i h ∙ edge_is (next (whole_at floors ky)) (next (whole_at floors kz)) (o * 64) i p)
      ∙ ap₄ between (tells_floor q) (tells_floor r) q.part r.part
      ∙ between_is
