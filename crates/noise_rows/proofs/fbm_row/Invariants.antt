-- `fbm_row` meets its contract: the loop has passed `counter` octaves. Assumes nothing.
use Rattle.noise_rows.proofs.Going.{Going}
use Rattle.noise_rows.proofs.fbm_row.Given as goal

abbrev pub invariant-loop : goal.invariant-loop
invariant-loop l = Going l.y l.octaves l.base l.n l.floors l.eases l.counter l.vals l.amp l.freq l.max l.at
