use Rattle.std.proofs.Common.{arith}
use lib.Ieee.{of_bits}
use Rattle.num_core.specs.Num.{nearest}
use Rattle.noise.specs.Noise.{fbm2d₃₂}
use Rattle.noise_places.specs.Places.{along_places, places_fbm}
use Rattle.noise_rows.proofs.Octaves.{passed_none, passed_more, passed_all}
use Rattle.noise_places.proofs.fbm_places.Goals as goal

pub loop-init : goal.loop-init
unfolding nearest of_bits
loop-init c = passed_none c.args.n (along_places c.args.xs.now c.args.ys.now) _ c.clear.ensures

pub loop-preserved : goal.loop-preserved
unfolding nearest of_bits
loop-preserved c =
    let l = c.loop in
    passed_more c.args.n (along_places c.args.xs.now c.args.ys.now) l.counter l.vals _ l.amp l.freq l.max l.invariant c.add_octave_at.ensures

pub returns : goal.returns
unfolding places_fbm along_places fbm2d₃₂
returns c =
    let l = c.loop in
    passed_all c.args.n (along_places c.args.xs.now c.args.ys.now) l.counter c.args.octaves l.vals _ l.amp l.freq l.max
    c.requires.0 (omega arith) l.invariant c.divide.ensures
