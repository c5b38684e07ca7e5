-- `host::pl_committed_len` meets its contract. Assumes nothing.
use mathlib.Core.Path.{ap}
use lib.ListN.{length}
use Rattle.host.proofs.pl_committed_len.Goals as goal

pub returns : goal.returns
returns c = ap length c.committed_prefix-part.ensures
