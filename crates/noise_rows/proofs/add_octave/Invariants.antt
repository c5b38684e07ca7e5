-- `add_octave` meets its contract. Assumes nothing.
use Prim.Native.Nat.{◌-◌, ◌≤◌}
use lib.Ieee.{binary32, mul}
use Rattle.noise_rows.specs.Sums.{Added, noise_at}
use Rattle.noise_rows.proofs.add_octave.Given as goal

abbrev pub invariant-loop-i : goal.invariant-loop-i
invariant-loop-i l = (l.i ≤ l.n) × Added (noise_at l.base l.floors l.eases (mul binary32 l.y l.freq)) l.amp 0 l.i l.initial.vals l.vals

abbrev pub decreases-loop-i : goal.decreases-loop-i
decreases-loop-i l = l.n - l.i
