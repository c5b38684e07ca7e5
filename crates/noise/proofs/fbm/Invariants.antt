-- `fbm` meets its contract: the loop has passed `counter` octaves, of each function that the noise's answers agree with. Assumes nothing.
use Rattle.std.proofs.Common.{◌≡◌}
use lib.Ieee.{Float}
use Rattle.noise.specs.Noise.{octaves}
use Rattle.noise.proofs.Loop.{state}
use Rattle.noise.proofs.fbm.Given as goal

abbrev pub invariant-loop : goal.invariant-loop
invariant-loop g l =
    (at : Float → Float) → ((freq val : Float) → goal.F-post g l.noise freq val → val ≡ at freq)
    → octaves at l.counter ≡ state l.val l.amp l.freq l.max
