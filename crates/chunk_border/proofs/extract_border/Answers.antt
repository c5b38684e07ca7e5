-- `chunk_border::extract_border` meets its contract: past the test the lengths are those of the size. Assumes nothing.
use Rattle.std.proofs.Common.{sym}
use Rattle.chunk.specs.Tests.{cube_of}
use Rattle.chunk_border.specs.Border.{border_passed}
use Rattle.chunk_border.proofs.extract_border.Goals as goal

pub copy_border-requires : goal.copy_border-requires
copy_border-requires c =
    let h = border_passed _ _ _ (sym c.in_ok-refuse_border.ensures) in
    (cube_of _ _ h.chunk, h.new)
