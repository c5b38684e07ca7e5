use Rattle.std.proofs.Common.{ℕ, rules}
use Rattle.noise_tables.specs.Places.{noted_more}
use Rattle.cave_tables.specs.Coords.{cave_coord}
use Rattle.cave_tables.proofs.note_coords.Goals as goal

pub loop-o-preserved : goal.loop-o-preserved
loop-o-preserved c =
    let f = c.args.f in
    let l = c.loop-o in
    let r = c.fill_row.ensures (cave_coord f l.o-counter) (record { is = λ (i : ℕ) x h p. search rules }) in
    noted_more f.size (cave_coord f) l.o-counter _ l.floors l.eases _ _ c.requires.0.most r.holds c.note_octave.ensures l.invariant
