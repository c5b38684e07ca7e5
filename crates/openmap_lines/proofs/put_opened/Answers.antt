-- `openmap_lines::put_opened` meets its contract. The line grows field by field. Assumes nothing.
use Rattle.openmap_lines.proofs.Grown.{Grown, piece, piece_fits, field_short, ok_is, ok_short}
use Rattle.openmap_lines.specs.Appended.{as_text}
use Rattle.openmap_lines.specs.Text.{OK}
use Rattle.text.specs.Decimal.{decimal}
use native.Mathlib.Omega.{arith}
use Prim.Native.Nat.{◌+◌}
use mathlib.Core.List.{[], ◌∷◌, ◌++◌}
use Rattle.openmap_lines.proofs.put_opened.Goals.{After-put_text-a, After-put_field-b, After-put_field-c, After-put_field-d, After-put_field-e}
use Rattle.openmap_lines.proofs.put_opened.Goals as goal

-- the line so far, behind each call
line0 : (c : After-put_text-a) → Grown c.args.out.now OK 2 c.put_text-a.new.out c.put_text-a.result
line0 c = record { text = c.put_text-a.ensures; short = omega arith; space = (let h = c.requires in omega arith) }

line1 : (c : After-put_field-b) → Grown c.args.out.now (OK ++ (9 ∷ decimal c.args.lines)) (2 + 21) c.put_field-b.new.out c.put_field-b.result
line1 c = piece (line0 (goal.at.After-put_field-b c).After-put_text-a) 21 (field_short c.args.lines (omega arith)) (let h = c.requires in omega arith) c.put_field-b.ensures

line2 : (c : After-put_field-c) → Grown c.args.out.now ((OK ++ (9 ∷ decimal c.args.lines)) ++ (9 ∷ decimal c.args.active)) ((2 + 21) + 21) c.put_field-c.new.out c.put_field-c.result
line2 c = piece (line1 (goal.at.After-put_field-c c).After-put_field-b) 21 (field_short c.args.active (omega arith)) (let h = c.requires in omega arith) c.put_field-c.ensures

line3 : (c : After-put_field-d) → Grown c.args.out.now (((OK ++ (9 ∷ decimal c.args.lines)) ++ (9 ∷ decimal c.args.active)) ++ (9 ∷ decimal c.args.count)) (((2 + 21) + 21) + 21) c.put_field-d.new.out c.put_field-d.result
line3 c = piece (line2 (goal.at.After-put_field-d c).After-put_field-c) 21 (field_short c.args.count (omega arith)) (let h = c.requires in omega arith) c.put_field-d.ensures

line4 : (c : After-put_field-e) → Grown c.args.out.now ((((OK ++ (9 ∷ decimal c.args.lines)) ++ (9 ∷ decimal c.args.active)) ++ (9 ∷ decimal c.args.count)) ++ (9 ∷ decimal c.args.trailing)) ((((2 + 21) + 21) + 21) + 21) c.put_field-e.new.out c.put_field-e.result
line4 c = piece (line3 (goal.at.After-put_field-e c).After-put_field-d) 21 (field_short c.args.trailing (omega arith)) (let h = c.requires in omega arith) c.put_field-e.ensures

pub put_field-b-requires : goal.put_field-b-requires
put_field-b-requires c = piece_fits (line0 (goal.at.put_field-b-requires c).After-put_text-a) (9 ∷ decimal c.args.lines) 21 (field_short c.args.lines (omega arith)) (let h = c.requires in omega arith)

pub put_field-c-requires : goal.put_field-c-requires
put_field-c-requires c = piece_fits (line1 (goal.at.put_field-c-requires c).After-put_field-b) (9 ∷ decimal c.args.active) 21 (field_short c.args.active (omega arith)) (let h = c.requires in omega arith)

pub put_field-d-requires : goal.put_field-d-requires
put_field-d-requires c = piece_fits (line2 (goal.at.put_field-d-requires c).After-put_field-c) (9 ∷ decimal c.args.count) 21 (field_short c.args.count (omega arith)) (let h = c.requires in omega arith)

pub put_field-e-requires : goal.put_field-e-requires
put_field-e-requires c = piece_fits (line3 (goal.at.put_field-e-requires c).After-put_field-d) (9 ∷ decimal c.args.trailing) 21 (field_short c.args.trailing (omega arith)) (let h = c.requires in omega arith)

pub put_byte-requires : goal.put_byte-requires
put_byte-requires c = piece_fits (line4 (goal.at.put_byte-requires c).After-put_field-e) (10 ∷ []) 1 (omega arith) (let h = c.requires in omega arith)

pub returns : goal.returns
returns c =
    let g = piece (line4 (goal.at.returns c).After-put_field-e) 1 (omega arith) (let h = c.requires in omega arith) c.put_byte.ensures in
    (as_text (ok_is c.args.lines c.args.active c.args.count c.args.trailing) g.text, ok_short c.args.lines c.args.active c.args.count c.args.trailing (omega arith) (omega arith) (omega arith) (omega arith))
