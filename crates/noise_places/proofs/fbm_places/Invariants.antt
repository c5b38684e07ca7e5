-- `fbm_places` meets its contract: the loop has passed `counter` octaves. Assumes nothing.
use Rattle.noise_places.specs.Places.{along_places}
use Rattle.noise_rows.proofs.Octaves.{Passed}
use Rattle.noise_places.proofs.fbm_places.Given as goal

abbrev pub invariant-loop : goal.invariant-loop
invariant-loop l = Passed l.n (along_places l.xs l.ys) l.counter l.vals l.amp l.freq l.max
