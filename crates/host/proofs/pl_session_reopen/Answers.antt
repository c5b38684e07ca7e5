-- `host::pl_session_reopen` meets its contract. Assumes nothing.
use Rattle.std.proofs.Common.{ap, ◌∙◌}
use Rattle.host_starts.specs.Sessions.{reopen_start, reopen_in_c_lem}
use Rattle.host_starts.specs.Told.{reopening_told_says}
use Rattle.host.proofs.pl_session_reopen.Goals as goal

pub returns : goal.returns
returns c = reopen_in_c_lem _ _ _ _ (c.reopen_start.ensures ∙ ap reopen_start (reopening_told_says c.reopen.result)) c.reopen.ensures
