-- `host::pl_session_fresh` meets its contract. Assumes nothing.
use Rattle.std.proofs.Common.{ap, ◌∙◌}
use Rattle.host_starts.specs.Sessions.{fresh_start, fresh_in_c_lem}
use Rattle.host_starts.specs.Told.{fresh_told_says}
use Rattle.host.proofs.pl_session_fresh.Goals as goal

pub returns : goal.returns
returns c = fresh_in_c_lem _ _ _ _ _ (c.fresh_start.ensures ∙ ap fresh_start (fresh_told_says c.fresh.result)) c.fresh.ensures
