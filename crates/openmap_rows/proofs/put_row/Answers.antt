use Rattle.openmap_lines.specs.Appended.{same_length as kept}
use Rattle.openmap_lines.specs.Separated.{separated}
use Rattle.openmap_rows.specs.Rows.{id_text, row_is, id_is, row_space}
use Rattle.openmap_lines.specs.Text.{each}
use Rattle.text.specs.Decimal.{decimal}
use Rattle.openmap_rows.proofs.Loop as loops
use Rattle.openmap_lines.specs.Appended.{then, as_text}
use lib.ListN.{length}
use Prim.Native.Nat.{ℕ, ◌+◌, ◌≤◌}
use native.Mathlib.Omega.{arith}
use mathlib.Core.Path.{◌≡◌, ap}
use Rattle.openmap_rows.proofs.put_row.Goals.{Start}
use Rattle.openmap_rows.proofs.put_row.Goals as goal

-- the ids and the LF fit
module _ (s : Start) where
  all : s.args.at + length (each s.args.size (id_text s.args.size s.args.cells.now s.args.z s.args.y)) + 1 ≤ length s.args.out.now
  all = row_space s.args.size s.args.cells.now s.args.z s.args.y s.args.at (length s.args.out.now) s.requires.space

  space : s.args.at + length (each s.args.size (id_text s.args.size s.args.cells.now s.args.z s.args.y)) ≤ length s.args.out.now
  space = let h = all in omega arith

pub loop-x-init : goal.loop-x-init
loop-x-init c =
    let s = (goal.at.loop-x-init c).Start in
    loops.begins s.args.out.now s.args.at s.args.size (id_text s.args.size s.args.cells.now s.args.z s.args.y) (space s)

pub put_separated-p-requires : goal.put_separated-p-requires
put_separated-p-requires c =
    let s = (goal.at.put_separated-p-requires c).Start in
    let l = c.loop-x in
    let e : length (separated l.x (decimal c.see.result)) ≡ length (id_text s.args.size s.args.cells.now s.args.z s.args.y l.x) =
    ap length (id_is s.args.size s.args.cells.now s.args.z s.args.y l.x c.see.result c.see.ensures) in
    let h =
    loops.fits_next s.args.out.now s.args.at s.args.size (id_text s.args.size s.args.cells.now s.args.z s.args.y) (space s) l.x l.p l.out (omega arith) l.invariant in
    omega arith

pub loop-x-preserved : goal.loop-x-preserved
loop-x-preserved c =
    let s = (goal.at.loop-x-preserved c).Start in
    let l = c.loop-x in
    let r = c.see in
    loops.goes_on s.args.out.now s.args.at s.args.size (id_text s.args.size s.args.cells.now s.args.z s.args.y) (space s) l.x l.p c.put_separated-p.result l.out c.put_separated-p.new.out (omega arith) l.invariant
    (as_text (id_is s.args.size s.args.cells.now s.args.z s.args.y l.x r.result r.ensures) c.put_separated-p.ensures)

pub put_byte-requires : goal.put_byte-requires
put_byte-requires c =
    let s = (goal.at.put_byte-requires c).Start in
    let l = c.loop-x in
    let e : l.x ≡ s.args.size = omega arith in
    let k = ap (λ (n : ℕ). length (each n (id_text s.args.size s.args.cells.now s.args.z s.args.y))) e in
    let b = l.invariant.behind in
    let a = all s in
    let g =
    loops.keeps s.args.out.now s.args.at s.args.size (id_text s.args.size s.args.cells.now s.args.z s.args.y) (space s) l.x l.p l.out (omega arith) l.invariant in
    omega arith

pub returns : goal.returns
returns c =
    let s = (goal.at.returns c).Start in
    let l = c.loop-x in
    let e : l.x ≡ s.args.size = omega arith in
    as_text (row_is s.args.size s.args.cells.now s.args.z s.args.y)
    (then (space s) (as_text (ap (λ (n : ℕ). each n (id_text s.args.size s.args.cells.now s.args.z s.args.y)) e) l.invariant) c.put_byte.ensures)
