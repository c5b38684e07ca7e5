-- The ground's slabs from the first to the last are the ground. Assumes nothing.
use Rattle.grid_slabs.specs.Clip.{clip_all}
use Rattle.ground_chunk.specs.Laid.{ground_in}
use Rattle.ground_chunk.proofs.lay_noted.Goals as goal

pub returns : goal.returns
returns c =
    let a = c.args in
    clip_all a.o.size a.cells.now _ (ground_in a.w a.o) c.lay_slabs.ensures
