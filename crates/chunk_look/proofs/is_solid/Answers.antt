-- `chunk_look::is_solid` meets its contract: past the test there are as many cells as the size says. Assumes nothing.
use Rattle.std.proofs.Common.{sym}
use Rattle.chunk.specs.Tests.{chunk_passed}
use Rattle.chunk_look.specs.Calls.{chunk_is_solid_does}
use Rattle.chunk_look.proofs.is_solid.Goals as goal

pub returns : goal.returns
unfolding chunk_is_solid_does
returns c =
    let e = c.in_ok-refuse_chunk.ensures in
    rw (c.count_non_air.ensures, ← e, (chunk_passed _ _ (sym e)).all)
