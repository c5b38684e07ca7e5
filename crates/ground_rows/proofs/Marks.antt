-- The flags of a line outside the levels where caves can be: any will do. Assumes nothing.
use mathlib.Core.Path.{◌≡◌, sym, ap₂, ◌∙◌}
use mathlib.Core.Bool.{Bool, true, false, ◌&&◌, false≢true}
use mathlib.Core.List.{List}
use Prim.Native.Nat.{ℕ, ◌+◌, ◌*◌, ◌≤◌, ◌<◌}
use lib.Dec.{leb, ltb}
use lib.Ieee.{Float}
use lib.ListN.{length, get_or}
use borrow.Author.Tests.{le-leb, lt-ltb}
use Rattle.ground_lines.specs.Lines.{Flagged}
use Rattle.ground_lines.specs.Range.{in_row}
use Rattle.ground_cell.specs.declared.world.Frame.{Frame}
use Rattle.ground_rows.specs.Rows.{Ready}

pub outside : (o : Frame) (y z lo hi from : ℕ) (heights : List ℕ) (cuts : List Bool) (floors : List ℕ) (eases edges : List Float) (flags : List Bool)
    → o.size ≤ length flags → y < o.size → (leb lo y && ltb y hi) ≡ false → Ready o z lo hi from heights cuts floors eases edges → Flagged o y z heights flags
outside o y z lo hi from heights cuts floors eases edges flags h k e r = record {
  long = h;
  each = λ (x : ℕ) m g.
      let p = in_row o.oy (get_or heights (z * o.size + x) 0) r.top o.size y (r.least x m) (r.highest.each x m) k g in
      let a : leb lo y ≡ true = le-leb lo y (rw r.low p.0) in
      let b : ltb y hi ≡ true = lt-ltb y hi (rw r.high p.1) in
      absurd (false≢true (sym e ∙ ap₂ ◌&&◌ a b));
}
