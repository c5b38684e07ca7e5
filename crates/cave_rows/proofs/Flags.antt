-- The flags of a row that is judged by its sums. Assumes nothing.
use mathlib.Core.Path.{◌≡◌, ap, ◌∙◌}
use mathlib.Core.List.{List}
use mathlib.Core.Bool.{Bool, false}
use Prim.Native.Nat.{ℕ, ◌+◌, ◌*◌, ◌<◌}
use lib.IntN.{pos, ◌+ℤ◌}
use lib.ListN.{get_or}
use lib.Ieee.{Float}
use Rattle.column.specs.Floats.{real}
use Rattle.noise_tables.specs.Row.{at, Row, Flags}
use Rattle.noise_tables.specs.Places.{Noted}
use Rattle.cave_tables.specs.Coords.{cave_coord}
use Rattle.ground_cell.specs.declared.world.Frame.{Frame}
use Rattle.cave_rows.specs.Layers.{AllLayers}
use Rattle.cave_ravines.specs.Cuts.{Cuts}
use Rattle.cave_rows.specs.Fields.{sum2_of, sum3_of, judged_at, Hollow}
use Rattle.cave_rows.specs.Laws.{hollow_is}

pub flags_told : (f : Frame) (y z : ℕ) (heights : List ℕ) (cuts : List Bool) (floors : List ℕ) (eases edges a b c : List Float) (flags : List Bool) (wy : Float)
    → y < f.size → z < f.size → wy ≡ real (f.oy +ℤ pos y) → Cuts f z cuts → Noted f.size 27 (cave_coord f) floors eases
    → AllLayers y z f.size floors eases edges
    → Row f.size (sum3_of 0 y z eases edges) a → Row f.size (sum3_of 3 y z eases edges) b → Row f.size (sum2_of 6 y z eases edges) c
    → Flags f.size (judged_at wy (z * f.size) heights cuts a b c) flags → Hollow f y z heights flags
unfolding judged_at
flags_told f y z heights cuts floors eases edges a b c flags wy hy hz e k n l p q r j = record {
  each = λ (x : ℕ) h.
      j.holds x h
      ∙ ap (λ (u : Float). judged_at u (z * f.size) heights cuts a b c x) e
      ∙ hollow_is f y z floors eases edges hy hz n l x h (pos (get_or heights (z * f.size + x) 0)) (at a x) (at b x) (at c x) (get_or cuts x false)
      (p.holds x h) (q.holds x h) (r.holds x h) (k.each x h);
}
