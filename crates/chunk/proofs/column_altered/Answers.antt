-- `chunk::column_altered` meets its contract: what is apart from an id is what it alters. Assumes nothing.
use Rattle.std.proofs.Common.{◌∙◌}
use Rattle.chunk.specs.Altered.{column_apart_altered}
use Rattle.chunk.proofs.column_altered.Goals as goal

pub returns : goal.returns
returns c = c.column_apart.ensures ∙ column_apart_altered _ _ _ _ _ _ c.requires
