use Rattle.std.proofs.Common.{arith}
use lib.Ieee.{of_bits}
use Rattle.num_core.specs.Num.{nearest}
use Rattle.noise_rows.proofs.Going.{going_none, going_more, going_all}
use Rattle.noise_rows.proofs.fbm_row.Goals as goal

pub loop-init : goal.loop-init
unfolding nearest of_bits
loop-init c =
    let a = c.args in
    going_none a.y a.octaves a.base a.n a.floors.now a.eases.now _ c.clear.ensures

pub loop-preserved : goal.loop-preserved
unfolding nearest of_bits
loop-preserved c =
    let a = c.args in
    let l = c.loop in
    going_more a.y a.octaves a.base a.n a.floors.now a.eases.now l.counter l.vals _ l.amp l.freq l.max l.at c.loop-test.true c.add_octave.ensures l.invariant

pub returns : goal.returns
returns c =
    let a = c.args in
    let l = c.loop in
    going_all a.y a.octaves a.base a.n a.floors.now a.eases.now l.counter l.vals _ l.amp l.freq l.max l.at
    c.requires.0 (omega arith) l.invariant c.divide.ensures
