use Rattle.openmap_lines.specs.Text.{each, layer_text, row_text}
use Rattle.openmap_rows.proofs.Loop as loops
use Rattle.openmap_lines.specs.Appended.{same_length as kept}
use Rattle.openmap_lines.specs.Appended.{as_text}
use lib.ListN.{length}
use Prim.Native.Nat.{ℕ, ◌+◌, ◌≤◌}
use native.Mathlib.Omega.{arith}
use mathlib.Core.Path.{◌≡◌, ap}
use Rattle.openmap_rows.proofs.put_layer.Goals.{Start}
use Rattle.openmap_rows.proofs.put_layer.Goals as goal

-- all of it fits
module _ (s : Start) where
  space : s.args.at + length (each s.args.size (row_text s.args.size s.args.cells.now s.args.z)) ≤ length s.args.out.now
  unfolding layer_text
  space = s.requires.space

pub loop-y-init : goal.loop-y-init
loop-y-init c =
    let s = (goal.at.loop-y-init c).Start in
    loops.begins s.args.out.now s.args.at s.args.size (row_text s.args.size s.args.cells.now s.args.z) (space s)

pub put_row-p-requires : goal.put_row-p-requires
put_row-p-requires c =
    let s = (goal.at.put_row-p-requires c).Start in
    let l = c.loop-y in
    record { cube = s.requires.cube; space = loops.fits_next s.args.out.now s.args.at s.args.size (row_text s.args.size s.args.cells.now s.args.z) (space s) l.y l.p l.out (omega arith) l.invariant }

pub loop-y-preserved : goal.loop-y-preserved
loop-y-preserved c =
    let s = (goal.at.loop-y-preserved c).Start in
    let l = c.loop-y in
    let r = c.put_row-p in
    loops.goes_on s.args.out.now s.args.at s.args.size (row_text s.args.size s.args.cells.now s.args.z) (space s) l.y l.p r.result l.out r.new.out (omega arith) l.invariant r.ensures

pub returns : goal.returns
unfolding layer_text
returns c =
    let l = c.loop-y in
    let e : l.y ≡ c.args.size = omega arith in
    as_text (ap (λ (n : ℕ). each n (row_text c.args.size c.args.cells.now c.args.z)) e) l.invariant
