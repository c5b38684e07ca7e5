use mathlib.Core.Path.{◌≡◌, ap, ap₂, ◌∙◌}
use Prim.Native.Nat.{◌≤◌}
use native.Mathlib.Omega.{arith}
use lib.Ieee.{Float, binary32, mul, sub}
use mir.Syntax.{w32}
use Rattle.basics.specs.Words.{read}
use Rattle.num_core.proofs.Floor.{floor_again}
use Rattle.noise.specs.Noise.{smooth₃₂, ease₃₂}
use Rattle.noise_rows.specs.Square.{square_of}
use Rattle.noise_rows.specs.Sums.{added_none, added_run, in_square, noise_at}
use Rattle.noise_rows.proofs.Runs.{in_run}
use Rattle.noise_rows.proofs.add_octave.Goals as goal

pub loop-i-init : goal.loop-i-init
loop-i-init c =
    (omega arith, added_none (noise_at c.args.base c.args.floors.now c.args.eases.now (mul binary32 c.args.y c.args.freq)) c.args.amp 0 c.args.vals.now)

pub loop-i-preserved : goal.loop-i-preserved
unfolding ease₃₂
loop-i-preserved c =
    let l = c.loop-i in
    let r = c.run_end-end.ensures in
    let v = mul binary32 c.args.y c.args.freq in
    let py = c.floor_part-py.ensures in
    let fy =
    c.smooth-fy.ensures
    ∙ ap (λ (u : Float). smooth₃₂ (sub binary32 v u)) py.1 in
    let k =
    c.square_at-k.ensures
    ∙ ap₂ square_of (read w32 c.of_bits.type_inv c.of_bits.ensures) (floor_again v py.0) in (
      r.most,
      added_run (in_square _ _ c.args.base c.args.eases.now) (noise_at c.args.base c.args.floors.now c.args.eases.now v) c.args.amp 0
          l.i c.run_end-end.result c.args.vals.now l.vals _ (omega arith) (let a = r.above in omega arith)
          (in_run _ _ v c.args.base l.i c.args.n c.run_end-end.result c.args.floors.now c.args.eases.now k fy r) l.invariant.1 c.add_run.ensures,
    )

pub returns : goal.returns
returns c =
    let l = c.loop-i in
    let h : l.i ≤ c.args.n = l.invariant.0 in
    let e : l.i ≡ c.args.n = (let t = c.loop-i-test.false in omega arith) in
    rw e at l.invariant.1
