use Rattle.std.proofs.Common.{ℕ, rules}
use Rattle.noise_tables.specs.Places.{noted_more}
use Rattle.column_tables.specs.Coords.{coords_of}
use Rattle.column_tables.proofs.note_rows.Goals as goal

pub loop-o-preserved : goal.loop-o-preserved
unfolding coords_of
loop-o-preserved c =
    let a = c.args in
    let l = c.loop-o in
    let r = c.fill_row.ensures (coords_of a.xs.now l.o-counter) (record { is = λ (i : ℕ) x h p. search rules }) in
    noted_more a.n (coords_of a.xs.now) l.o-counter _ l.floors l.eases _ _ c.requires.0 r.holds c.note_octave.ensures l.invariant
