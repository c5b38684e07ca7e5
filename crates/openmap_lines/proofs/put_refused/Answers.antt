-- `openmap_lines::put_refused` meets its contract. The line grows field by field. Assumes nothing.
use Rattle.openmap_lines.proofs.Grown.{Grown, piece, piece_fits, field_short, no_is}
use Rattle.openmap_lines.specs.Appended.{as_text}
use Rattle.openmap_lines.specs.Text.{NO}
use Rattle.text.specs.Decimal.{decimal}
use native.Mathlib.Omega.{arith}
use Prim.Native.Nat.{◌+◌}
use mathlib.Core.List.{[], ◌∷◌, ◌++◌}
use Rattle.openmap_lines.proofs.put_refused.Goals.{After-put_text-a, After-put_field-b, After-put_field-c}
use Rattle.openmap_lines.proofs.put_refused.Goals as goal

-- the line so far, behind each call
line0 : (c : After-put_text-a) → Grown c.args.out.now NO 2 c.put_text-a.new.out c.put_text-a.result
line0 c = record { text = c.put_text-a.ensures; short = omega arith; space = (let h = c.requires in omega arith) }

line1 : (c : After-put_field-b) → Grown c.args.out.now (NO ++ (9 ∷ decimal c.args.number)) (2 + 21) c.put_field-b.new.out c.put_field-b.result
line1 c = piece (line0 (goal.at.After-put_field-b c).After-put_text-a) 21 (field_short c.args.number (omega arith)) (let h = c.requires in omega arith) c.put_field-b.ensures

line2 : (c : After-put_field-c) → Grown c.args.out.now ((NO ++ (9 ∷ decimal c.args.number)) ++ (9 ∷ decimal c.args.line)) ((2 + 21) + 21) c.put_field-c.new.out c.put_field-c.result
line2 c = piece (line1 (goal.at.After-put_field-c c).After-put_field-b) 21 (field_short c.args.line (omega arith)) (let h = c.requires in omega arith) c.put_field-c.ensures

pub put_field-b-requires : goal.put_field-b-requires
put_field-b-requires c = piece_fits (line0 (goal.at.put_field-b-requires c).After-put_text-a) (9 ∷ decimal c.args.number) 21 (field_short c.args.number (omega arith)) (let h = c.requires in omega arith)

pub put_field-c-requires : goal.put_field-c-requires
put_field-c-requires c = piece_fits (line1 (goal.at.put_field-c-requires c).After-put_field-b) (9 ∷ decimal c.args.line) 21 (field_short c.args.line (omega arith)) (let h = c.requires in omega arith)

pub put_byte-requires : goal.put_byte-requires
put_byte-requires c = piece_fits (line2 (goal.at.put_byte-requires c).After-put_field-c) (10 ∷ []) 1 (omega arith) (let h = c.requires in omega arith)

pub returns : goal.returns
returns c =
    let g = piece (line2 (goal.at.returns c).After-put_field-c) 1 (omega arith) (let h = c.requires in omega arith) c.put_byte.ensures in
    as_text (no_is c.args.number c.args.line) g.text
