use Rattle.openmap_lines.specs.Text.{each, map_text, layer_text}
use Rattle.openmap_rows.proofs.Loop as loops
use Rattle.openmap_lines.specs.Appended.{same_length as kept}
use Rattle.openmap_lines.specs.Appended.{as_text}
use lib.ListN.{length}
use Prim.Native.Nat.{ℕ, ◌+◌, ◌≤◌}
use native.Mathlib.Omega.{arith}
use mathlib.Core.Path.{◌≡◌, ap}
use Rattle.openmap_rows.proofs.put_map.Goals.{Start}
use Rattle.openmap_rows.proofs.put_map.Goals as goal

-- all of it fits
module _ (s : Start) where
  space : s.args.at + length (each s.args.size (layer_text s.args.size s.args.cells.now)) ≤ length s.args.out.now
  unfolding map_text
  space = s.requires.space

pub loop-z-init : goal.loop-z-init
loop-z-init c =
    let s = (goal.at.loop-z-init c).Start in
    loops.begins s.args.out.now s.args.at s.args.size (layer_text s.args.size s.args.cells.now) (space s)

pub put_layer-p-requires : goal.put_layer-p-requires
put_layer-p-requires c =
    let s = (goal.at.put_layer-p-requires c).Start in
    let l = c.loop-z in
    record { cube = s.requires.cube; space = loops.fits_next s.args.out.now s.args.at s.args.size (layer_text s.args.size s.args.cells.now) (space s) l.z l.p l.out (omega arith) l.invariant }

pub loop-z-preserved : goal.loop-z-preserved
loop-z-preserved c =
    let s = (goal.at.loop-z-preserved c).Start in
    let l = c.loop-z in
    let r = c.put_layer-p in
    loops.goes_on s.args.out.now s.args.at s.args.size (layer_text s.args.size s.args.cells.now) (space s) l.z l.p r.result l.out r.new.out (omega arith) l.invariant r.ensures

pub returns : goal.returns
unfolding map_text
returns c =
    let l = c.loop-z in
    let e : l.z ≡ c.args.size = omega arith in
    as_text (ap (λ (n : ℕ). each n (layer_text c.args.size c.args.cells.now)) e) l.invariant
