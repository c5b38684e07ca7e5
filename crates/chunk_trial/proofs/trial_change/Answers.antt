-- `chunk_trial::trial_change` meets its contract. Assumes nothing.
use Prim.Native.Nat.{◌/◌}
use lib.ListN.{length}
use Rattle.chunk_trial.specs.Trial.{net_counted}
use Rattle.chunk_trial.proofs.trial_change.Goals as goal

pub returns : goal.returns
returns c =
    let a = c.args in
    net_counted a.size a.edits.now a.cells.now (length a.edits.now / 4) _ c.requires c.count_non_air.ensures c.trial_count-after.ensures
