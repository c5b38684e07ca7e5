-- `ground_rows::mark_line` meets its contract. Assumes nothing.
use Rattle.ground_rows.proofs.Marks.{outside}
use Rattle.ground_rows.proofs.mark_line.Goals as goal

pub returns : goal.returns
returns c =
    let a = c.args in (
      c.requires.3,
      outside a.o a.y a.z a.lo a.hi a.from a.heights.now a.cuts.now a.floors.now a.eases.now a.edges.now a.flags.now
          c.requires.4.marks c.requires.1 c.if-lo-y.false c.requires.3,
    )
