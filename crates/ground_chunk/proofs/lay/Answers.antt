-- What fills the front of the caches are the tops (`tops_noted`); the front of their tables serves the caves. Assumes nothing.
use mathlib.Core.Path.{◌≡◌, sym}
use native.Mathlib.Omega.{arith}
use lib.ListN.{length}
use lib.Seq.{length-take-le}
use Rattle.grid.specs.Grid.{square_most}
use Rattle.ground_chunk.specs.Laid.{tops_noted}
use Rattle.ground_chunk.proofs.lay.Goals as goal

pub slice_bounds-lay_noted-end-3 : goal.slice_bounds-lay_noted-end-3
slice_bounds-lay_noted-end-3 c =
    let t = c.note_tops in
    let l : length t.new.floors ≡ 2304 = t.auto.floors in
    sym (length-take-le 1728 t.new.floors (omega arith))

pub slice_bounds-lay_noted-end-4 : goal.slice_bounds-lay_noted-end-4
slice_bounds-lay_noted-end-4 c =
    let t = c.note_tops in
    let l : length t.new.eases ≡ 2304 = t.auto.eases in
    sym (length-take-le 1728 t.new.eases (omega arith))

pub lay_noted-requires : goal.lay_noted-requires
lay_noted-requires c =
    let t = c.note_tops in
    let a = c.args in
    let sq = square_most a.o.size c.requires.1.most in
    let lf : length t.new.floors ≡ 2304 = t.auto.floors in
    let le : length t.new.eases ≡ 2304 = t.auto.eases in
    let lh : length t.new.heights ≡ 4096 = t.auto.heights in
    let lb : length t.new.biomes ≡ 4096 = t.auto.biomes in (
      c.requires.0,
      c.requires.1,
      tops_noted a.w a.o t.new.heights t.new.biomes _ _ (omega arith) (omega arith) t.ensures.0 t.ensures.1,
      length-take-le 1728 t.new.floors (omega arith),
      length-take-le 1728 t.new.eases (omega arith),
      c.requires.2,
    )
