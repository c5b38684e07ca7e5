-- A row of columns and the ravines (SCOPE 4.10). Assumes nothing.
use Rattle.std.specs.Prelude.{◌≡◌, refl, List, Bool, false, ℕ, zero, suc, ◌+◌, ◌*◌, ◌≤◌, ◌<◌, pos, ◌+ℤ◌, Float, length, get_or}
use Rattle.std.proofs.Common.{ap, ap₂, ◌∙◌, subst, arith}
use Rattle.std.specs.Float.{binary32}
use Rattle.std.specs.Float.Ieee.{mul}
use Rattle.num_core.specs.Num.{nearest}
use Rattle.noise.specs.Noise.{fbm2d₃₂}
use Rattle.column.specs.Floats.{◌*f◌, real}
use Rattle.noise_tables.specs.Row.{at, Flags}
use Rattle.noise_tables.specs.Places.{Tells, Noted}
use Rattle.noise_rows.specs.Sums.{freq_at, Lies, Summed}
use Rattle.noise_tables.specs.Scaled.{scaled_by}
use Rattle.cave_tables.specs.Coords.{x_of, cave_coord}
use Rattle.ground_cell.specs.Caves.{ravine_with, ravine_here}
use Rattle.ground_cell.specs.declared.world.Frame.{Frame}

-- whether place i of a row at z lies on a ravine, by the larger noise that the row holds
unfoldable pub cut_at : Frame → Float → List Float → ℕ → Bool
cut_at f z vals i = ravine_with (at vals i) (real (f.ox +ℤ pos i)) z

-- which columns of the row at z lie on a ravine
pub record Cuts (f : Frame) (z : ℕ) (cuts : List Bool) : Type 0 where
  pub long : f.size ≤ length cuts
  pub each : (x : ℕ) → x < f.size → get_or cuts x false ≡ ravine_here (real (f.ox +ℤ pos x)) (real (f.oz +ℤ pos z))

-- octaves 8 to 10 of the tables are those of the larger noise
abbrev larger : Frame → ℕ → Float
larger f i = real (f.ox +ℤ pos i) *f nearest 1 100

octave_is : (f : Frame) (i k : ℕ) → k < 3 → cave_coord f (8 + k) i ≡ mul binary32 (larger f i) (freq_at k)
unfolding cave_coord x_of scaled_by freq_at nearest mul
octave_is f i zero h = refl
octave_is f i (suc zero) h = refl
octave_is f i (suc (suc zero)) h = refl
octave_is f i (suc (suc (suc k))) h = absurd (omega arith)

pub row_lies : (f : Frame) (floors : List ℕ) (eases : List Float) → Noted f.size 27 (cave_coord f) floors eases → Lies (larger f) 3 512 f.size floors eases
row_lies f floors eases n = record {
  tells = λ (k i : ℕ) h l.
      let e : (8 + k) * 64 + i ≡ 512 + k * 64 + i = omega arith in
      subst (λ (u : ℕ). Tells floors eases u (mul binary32 (larger f i) (freq_at k))) e
      (subst (Tells floors eases ((8 + k) * 64 + i)) (octave_is f i k h) (n.tells (8 + k) i (omega arith) l));
}

-- a row that is cut by its noise is cut where the ravines are
pub cuts_are : (f : Frame) (z : ℕ) (floors : List ℕ) (eases vals : List Float) (cuts : List Bool) (v : Float) → v ≡ real (f.oz +ℤ pos z)
    → Noted f.size 27 (cave_coord f) floors eases → Summed (v *f nearest 1 100) 3 512 f.size floors eases vals
    → Flags f.size (cut_at f v vals) cuts → Cuts f z cuts
unfolding cut_at ravine_here
cuts_are f z floors eases vals cuts v e n s c = record {
  long = c.long;
  each = λ (x : ℕ) h.
      c.holds x h
      ∙ ap₂ (λ (u w : Float). ravine_with u (real (f.ox +ℤ pos x)) w)
      ((s.is (larger f) (row_lies f floors eases n)).holds x h ∙ ap (λ (w : Float). fbm2d₃₂ (larger f x) (w *f nearest 1 100) 3) e) e;
}
