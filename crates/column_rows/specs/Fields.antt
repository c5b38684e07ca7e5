-- The tables tell of every field of a column's noise (SCOPE 4.2, 4.4), so a sum by them is the noise of that field. Assumes nothing.
use Rattle.std.specs.Prelude.{◌≡◌, List, ℕ, zero, suc, ◌+◌, ◌*◌, ◌≤◌, ◌<◌, Float}
use Rattle.std.proofs.Math.Path.{refl}
use Rattle.std.proofs.Common.{subst, arith}
use Rattle.std.specs.Float.Ieee.{mul, neg}
use Rattle.num_core.specs.Num.{nearest}
use Rattle.noise_tables.specs.Row.{Row}
use Rattle.noise_tables.specs.Places.{Tells}
use Rattle.noise_rows.specs.Sums.{freq_at, Lies, Summed}
use Rattle.column.specs.Floats.{◌+f◌, ◌*f◌, nat}
use Rattle.column.specs.Column.{offset_fbm₃₂, scaled_fbm₃₂}
use Rattle.noise_tables.specs.Scaled.{scaled_by}
use Rattle.column_tables.specs.Coords.{climate_x, relief_x, lowland_x, column_coord, coords_of, Tabled}
use Rattle.column_rows.specs.Rows.{offset_at, scaled_at, offset_row, scaled_row}

below2 : (P : ℕ → Type 0) → P 0 → P 1 → (k : ℕ) → k < 2 → P k
below2 P a b zero h = a
below2 P a b (suc zero) h = b
below2 P a b (suc (suc k)) h = absurd (omega arith)

below3 : (P : ℕ → Type 0) → P 0 → P 1 → P 2 → (k : ℕ) → k < 3 → P k
below3 P a b c zero h = a
below3 P a b c (suc zero) h = b
below3 P a b c (suc (suc zero)) h = c
below3 P a b c (suc (suc (suc k))) h = absurd (omega arith)

below4 : (P : ℕ → Type 0) → P 0 → P 1 → P 2 → P 3 → (k : ℕ) → k < 4 → P k
below4 P a b c d zero h = a
below4 P a b c d (suc zero) h = b
below4 P a b c d (suc (suc zero)) h = c
below4 P a b c d (suc (suc (suc zero))) h = d
below4 P a b c d (suc (suc (suc (suc k)))) h = absurd (omega arith)

module _ (n : ℕ) (xs : List Float) (floors : List ℕ) (eases : List Float) (d : Tabled n xs floors eases) where
  -- octaves of the tables are those of a field where they take x times 1, 2, 4, 8
  lies : (x : ℕ → Float) (first octaves : ℕ) → first + octaves ≤ 36 → ((i k : ℕ) → k < octaves → coords_of xs (first + k) i ≡ x i *f freq_at k)
      → Lies x octaves (first * 64) n floors eases
  lies x first octaves h e = record {
    tells = λ (k i : ℕ) a b.
        let p : (first + k) * 64 + i ≡ first * 64 + k * 64 + i = omega arith in
        subst (λ (j : ℕ). Tells floors eases j (x i *f freq_at k)) p
        (subst (Tells floors eases ((first + k) * 64 + i)) (e i k a) (d.tells (first + k) i (omega arith) b));
  }

  -- of a field whose x is moved, and of one whose x is only scaled
  moved : (z scale dx dz : Float) (first octaves : ℕ) → first + octaves ≤ 36
      → ((i k : ℕ) → k < octaves → coords_of xs (first + k) i ≡ offset_at xs scale dx i *f freq_at k)
      → (vals : List Float) → Summed (z *f scale +f dz) octaves (first * 64) n floors eases vals → Row n (offset_row xs z scale dx dz octaves) vals
  unfolding offset_row offset_fbm₃₂ offset_at
  moved z scale dx dz first octaves h e vals s = s.is (offset_at xs scale dx) (lies (offset_at xs scale dx) first octaves h e)

  unmoved : (z scale : Float) (first octaves : ℕ) → first + octaves ≤ 36
      → ((i k : ℕ) → k < octaves → coords_of xs (first + k) i ≡ scaled_at xs scale i *f freq_at k)
      → (vals : List Float) → Summed (z *f scale) octaves (first * 64) n floors eases vals → Row n (scaled_row xs z scale octaves) vals
  unfolding scaled_row scaled_fbm₃₂ scaled_at
  unmoved z scale first octaves h e vals s = s.is (scaled_at xs scale) (lies (scaled_at xs scale) first octaves h e)

  pub temp_row : (z : Float) (vals : List Float) → Summed (z *f nearest 3 1000 +f nat 100) 4 0 n floors eases vals
      → Row n (offset_row xs z (nearest 3 1000) (nat 100) (nat 100) 4) vals
  unfolding offset_at coords_of column_coord climate_x scaled_by freq_at nearest mul
  temp_row z =
      moved z (nearest 3 1000) (nat 100) (nat 100) 0 4 (omega arith)
      (λ (i : ℕ). below4 (λ (k : ℕ). coords_of xs (0 + k) i ≡ offset_at xs (nearest 3 1000) (nat 100) i *f freq_at k) refl refl refl refl)

  pub moisture_row : (z : Float) (vals : List Float) → Summed (z *f nearest 4 1000 +f nat 300) 4 256 n floors eases vals
      → Row n (offset_row xs z (nearest 4 1000) (neg (nat 200)) (nat 300) 4) vals
  unfolding offset_at coords_of column_coord climate_x scaled_by freq_at nearest mul
  moisture_row z =
      moved z (nearest 4 1000) (neg (nat 200)) (nat 300) 4 4 (omega arith)
      (λ (i : ℕ). below4 (λ (k : ℕ). coords_of xs (4 + k) i ≡ offset_at xs (nearest 4 1000) (neg (nat 200)) i *f freq_at k) refl refl refl refl)

  pub warp_x_row : (z : Float) (vals : List Float) → Summed (z *f nearest 3 1000 +f nat 800) 3 512 n floors eases vals
      → Row n (offset_row xs z (nearest 3 1000) (nat 700) (nat 800) 3) vals
  unfolding offset_at coords_of column_coord climate_x scaled_by freq_at nearest mul
  warp_x_row z =
      moved z (nearest 3 1000) (nat 700) (nat 800) 8 3 (omega arith)
      (λ (i : ℕ). below3 (λ (k : ℕ). coords_of xs (8 + k) i ≡ offset_at xs (nearest 3 1000) (nat 700) i *f freq_at k) refl refl refl)

  pub warp_z_row : (z : Float) (vals : List Float) → Summed (z *f nearest 3 1000 +f nat 100) 3 704 n floors eases vals
      → Row n (offset_row xs z (nearest 3 1000) (nat 900) (nat 100) 3) vals
  unfolding offset_at coords_of column_coord climate_x scaled_by freq_at nearest mul
  warp_z_row z =
      moved z (nearest 3 1000) (nat 900) (nat 100) 11 3 (omega arith)
      (λ (i : ℕ). below3 (λ (k : ℕ). coords_of xs (11 + k) i ≡ offset_at xs (nearest 3 1000) (nat 900) i *f freq_at k) refl refl refl)

  pub detail_row : (z : Float) (vals : List Float) → Summed (z *f nearest 25 1000) 4 896 n floors eases vals → Row n (scaled_row xs z (nearest 25 1000) 4) vals
  unfolding scaled_at coords_of column_coord relief_x scaled_by freq_at nearest mul
  detail_row z =
      unmoved z (nearest 25 1000) 14 4 (omega arith)
      (λ (i : ℕ). below4 (λ (k : ℕ). coords_of xs (14 + k) i ≡ scaled_at xs (nearest 25 1000) i *f freq_at k) refl refl refl refl)

  pub micro_row : (z : Float) (vals : List Float) → Summed (z *f nearest 8 100) 2 1152 n floors eases vals → Row n (scaled_row xs z (nearest 8 100) 2) vals
  unfolding scaled_at coords_of column_coord relief_x scaled_by freq_at nearest mul
  micro_row z =
      unmoved z (nearest 8 100) 18 2 (omega arith)
      (λ (i : ℕ). below2 (λ (k : ℕ). coords_of xs (18 + k) i ≡ scaled_at xs (nearest 8 100) i *f freq_at k) refl refl)

  pub ridge1_row : (z : Float) (vals : List Float) → Summed (z *f nearest 8 1000 +f nat 500) 4 1280 n floors eases vals
      → Row n (offset_row xs z (nearest 8 1000) (nat 500) (nat 500) 4) vals
  unfolding offset_at coords_of column_coord relief_x scaled_by freq_at nearest mul
  ridge1_row z =
      moved z (nearest 8 1000) (nat 500) (nat 500) 20 4 (omega arith)
      (λ (i : ℕ). below4 (λ (k : ℕ). coords_of xs (20 + k) i ≡ offset_at xs (nearest 8 1000) (nat 500) i *f freq_at k) refl refl refl refl)

  pub ridge2_row : (z : Float) (vals : List Float) → Summed (z *f nearest 15 1000 +f nat 200) 3 1536 n floors eases vals
      → Row n (offset_row xs z (nearest 15 1000) (nat 300) (nat 200) 3) vals
  unfolding offset_at coords_of column_coord relief_x scaled_by freq_at nearest mul
  ridge2_row z =
      moved z (nearest 15 1000) (nat 300) (nat 200) 24 3 (omega arith)
      (λ (i : ℕ). below3 (λ (k : ℕ). coords_of xs (24 + k) i ≡ offset_at xs (nearest 15 1000) (nat 300) i *f freq_at k) refl refl refl)

  pub steps_row : (z : Float) (vals : List Float) → Summed (z *f nearest 6 1000 +f nat 600) 3 1728 n floors eases vals
      → Row n (offset_row xs z (nearest 6 1000) (neg (nat 400)) (nat 600) 3) vals
  unfolding offset_at coords_of column_coord lowland_x scaled_by freq_at nearest mul
  steps_row z =
      moved z (nearest 6 1000) (neg (nat 400)) (nat 600) 27 3 (omega arith)
      (λ (i : ℕ). below3 (λ (k : ℕ). coords_of xs (27 + k) i ≡ offset_at xs (nearest 6 1000) (neg (nat 400)) i *f freq_at k) refl refl refl)

  pub dune_row : (z : Float) (vals : List Float) → Summed (z *f nearest 2 100 +f nat 50) 3 1920 n floors eases vals
      → Row n (offset_row xs z (nearest 2 100) (nat 50) (nat 50) 3) vals
  unfolding offset_at coords_of column_coord lowland_x scaled_by freq_at nearest mul
  dune_row z =
      moved z (nearest 2 100) (nat 50) (nat 50) 30 3 (omega arith)
      (λ (i : ℕ). below3 (λ (k : ℕ). coords_of xs (30 + k) i ≡ offset_at xs (nearest 2 100) (nat 50) i *f freq_at k) refl refl refl)

  pub hill_row : (z : Float) (vals : List Float) → Summed (z *f nearest 1 100 +f nat 250) 3 2112 n floors eases vals
      → Row n (offset_row xs z (nearest 1 100) (nat 150) (nat 250) 3) vals
  unfolding offset_at coords_of column_coord lowland_x scaled_by freq_at nearest mul
  hill_row z =
      moved z (nearest 1 100) (nat 150) (nat 250) 33 3 (omega arith)
      (λ (i : ℕ). below3 (λ (k : ℕ). coords_of xs (33 + k) i ≡ offset_at xs (nearest 1 100) (nat 150) i *f freq_at k) refl refl refl)
