-- The sums by the tables are those of the noise, and the flags those of the caves (SCOPE 4.10). Assumes nothing.
use Rattle.std.specs.Prelude.{◌≡◌, refl, List, Bool, ◌&&◌, ◌||◌, ℕ, ◌+◌, ◌*◌, ◌<◌, ℤ, pos, ◌+ℤ◌, Float}
use Rattle.std.proofs.Math.Path.{ap, ap₂}
use Rattle.std.proofs.Common.{◌∙◌, subst, arith}
use Rattle.std.specs.Float.Ieee.{lt, add, mul}
use Rattle.num_core.specs.Num.{nearest, clamp₃₂}
use Rattle.basics.specs.Paths.{ap₃}
use Rattle.noise.specs.Noise.{octave, octaves, fbm, along3, noise3d₃₂, fbm3d₃₂}
use Rattle.column.specs.Floats.{◌+f◌, ◌-f◌, ◌*f◌, ◌/f◌, nat, real, square}
use Rattle.noise_tables.specs.Places.{Tells, Noted}
use Rattle.noise_layers.specs.Noise.{octave_noise}
use Rattle.noise_tables.specs.Scaled.{scaled_by}
use Rattle.cave_tables.specs.Coords.{x_of, y_of, z_of, cave_coord}
use Rattle.ground_cell.specs.Caves.{spaghetti_cave, large_cavern, ravine_here, ravine_cut, carved}
use Rattle.ground_cell.specs.declared.world.Frame.{Frame}
use Rattle.cave_rows.specs.Layers.{level_at, depth_at, AllLayers}
use Rattle.cave_rows.specs.Fields.{one_of, amp_at, sum_of, sum2_of, sum3_of, hollow_of}

-- sums that are written out
three : (at : Float → Float) → (nat 0 +f at (nat 1) *f nat 1 +f at (nat 2) *f nearest 1 2 +f at (nat 4) *f nearest 1 4) /f nearest 7 4 ≡ fbm at 3
unfolding fbm octaves octave nearest mul add
three at = refl

two : (at : Float → Float) → (nat 0 +f at (nat 1) *f nat 1 +f at (nat 2) *f nearest 1 2) /f nearest 3 2 ≡ fbm at 2
unfolding fbm octaves octave nearest mul add
two at = refl

module _ (f : Frame) (y z : ℕ) (floors : List ℕ) (eases edges : List Float) (hy : y < f.size) (hz : z < f.size)
    (n : Noted f.size 27 (cave_coord f) floors eases) (l : AllLayers y z f.size floors eases edges) where
  level_told : (o : ℕ) → o < 8 → Tells floors eases (level_at o y) (cave_coord f (o + 11) y)
  level_told o h =
      let e : (o + 11) * 64 + y ≡ level_at o y = omega arith in
      subst (λ (u : ℕ). Tells floors eases u (cave_coord f (o + 11) y)) e (n.tells (o + 11) y (omega arith) hy)

  depth_told : (o : ℕ) → o < 8 → Tells floors eases (depth_at o z) (cave_coord f (o + 19) z)
  depth_told o h =
      let e : (o + 19) * 64 + z ≡ depth_at o z = omega arith in
      subst (λ (u : ℕ). Tells floors eases u (cave_coord f (o + 19) z)) e (n.tells (o + 19) z (omega arith) hz)

  -- octave o at cell i is the noise at the octave's coordinates
  one_noise : (i : ℕ) → i < f.size → (o : ℕ) → o < 8
      → one_of o y z eases edges i ≡ noise3d₃₂ (cave_coord f o i) (cave_coord f (o + 11) y) (cave_coord f (o + 19) z)
  one_noise i k o h =
      octave_noise floors eases edges (cave_coord f o i) (cave_coord f (o + 11) y) (cave_coord f (o + 19) z) o f.size (level_at o y) (depth_at o z) i k
      (l.each o h)
      (n.tells o i (omega arith) k) (level_told o h) (depth_told o h)

  abbrev wx : ℕ → Float
  wx i = real (f.ox +ℤ pos i)

  abbrev wy : Float
  wy = real (f.oy +ℤ pos y)

  abbrev wz : Float
  wz = real (f.oz +ℤ pos z)

  field_a : (i : ℕ) → i < f.size
      → sum3_of 0 y z eases edges i /f nearest 7 4
      ≡ fbm3d₃₂ (wx i *f nearest 4 100 +f nat 100) (wy *f nearest 6 100 +f nat 100) (wz *f nearest 4 100 +f nat 100) 3
  unfolding sum_of amp_at nearest mul fbm3d₃₂ along3 cave_coord x_of y_of z_of scaled_by
  field_a i k =
      ap₃ (λ (a b c : Float). (nat 0 +f a *f nat 1 +f b *f nearest 1 2 +f c *f nearest 1 4) /f nearest 7 4)
      (one_noise i k 0 (omega arith)) (one_noise i k 1 (omega arith)) (one_noise i k 2 (omega arith))
      ∙ three (along3 (wx i *f nearest 4 100 +f nat 100) (wy *f nearest 6 100 +f nat 100) (wz *f nearest 4 100 +f nat 100))

  field_b : (i : ℕ) → i < f.size
      → sum3_of 3 y z eases edges i /f nearest 7 4
      ≡ fbm3d₃₂ (wx i *f nearest 4 100 -f nat 200) (wy *f nearest 6 100 -f nat 200) (wz *f nearest 4 100 +f nat 300) 3
  unfolding sum_of amp_at nearest mul fbm3d₃₂ along3 cave_coord x_of y_of z_of scaled_by
  field_b i k =
      ap₃ (λ (a b c : Float). (nat 0 +f a *f nat 1 +f b *f nearest 1 2 +f c *f nearest 1 4) /f nearest 7 4)
      (one_noise i k 3 (omega arith)) (one_noise i k 4 (omega arith)) (one_noise i k 5 (omega arith))
      ∙ three (along3 (wx i *f nearest 4 100 -f nat 200) (wy *f nearest 6 100 -f nat 200) (wz *f nearest 4 100 +f nat 300))

  field_c : (i : ℕ) → i < f.size
      → sum2_of 6 y z eases edges i /f nearest 3 2 ≡ fbm3d₃₂ (wx i *f nearest 15 1000) (wy *f nearest 25 1000) (wz *f nearest 15 1000) 2
  unfolding sum_of amp_at nearest mul fbm3d₃₂ along3 cave_coord x_of y_of z_of scaled_by
  field_c i k =
      ap₂ (λ (a b : Float). (nat 0 +f a *f nat 1 +f b *f nearest 1 2) /f nearest 3 2)
      (one_noise i k 6 (omega arith)) (one_noise i k 7 (omega arith))
      ∙ two (along3 (wx i *f nearest 15 1000) (wy *f nearest 25 1000) (wz *f nearest 15 1000))

  -- a cell that is judged by its sums is judged as the caves' definition says
  pub hollow_is : (i : ℕ) → i < f.size → (h : ℤ) (a b c : Float) (cut : Bool)
      → a ≡ sum3_of 0 y z eases edges i → b ≡ sum3_of 3 y z eases edges i → c ≡ sum2_of 6 y z eases edges i → cut ≡ ravine_here (wx i) wz
      → hollow_of a b c wy (real h) cut ≡ carved (f.ox +ℤ pos i) (f.oy +ℤ pos y) (f.oz +ℤ pos z) h
  unfolding hollow_of carved spaghetti_cave large_cavern ravine_cut
  hollow_is i k h a b c cut p q r e =
      ap (hollow_of a b c wy (real h)) e
      ∙ ap₃
      (λ (u v s : Float).
      lt (square (u -f nearest 1 2) +f square (v -f nearest 1 2)) (nearest 6 1000)
      || lt (nearest 7 10 -f (nat 1 -f clamp₃₂ (wy /f real h) (nat 0) (nat 1)) *f nearest 15 100) s
      || (ravine_here (wx i) wz && lt (real h -f nat 20) wy && lt wy (real h -f nat 1)))
      (ap (λ (u : Float). u /f nearest 7 4) p ∙ field_a i k)
      (ap (λ (u : Float). u /f nearest 7 4) q ∙ field_b i k)
      (ap (λ (u : Float). u /f nearest 3 2) r ∙ field_c i k)
