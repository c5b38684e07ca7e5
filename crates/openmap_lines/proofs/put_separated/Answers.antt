-- `openmap_lines::put_separated` meets its contract. The first field has no tab. Assumes nothing.
use Rattle.openmap_lines.specs.Appended.{as_text}
use Rattle.openmap_lines.specs.Separated.{separated, separated_first, separated_later}
use Rattle.text.specs.Decimal.{decimal}
use native.Mathlib.Omega.{arith}
use lib.ListN.{length}
use mathlib.Core.List.{◌∷◌}
use mathlib.Core.Path.{◌≡◌, sym, ap}
use Rattle.openmap_lines.proofs.put_separated.Goals as goal

pub put_number-requires : goal.put_number-requires
put_number-requires c =
    let e : length (separated c.args.x (decimal c.args.n)) ≡ length (decimal c.args.n) =
    ap length (separated_first c.args.x (decimal c.args.n) c.if-x-eq0.true) in
    let h = c.requires in
    omega arith

pub returns-then-x-eq0 : goal.returns-then-x-eq0
returns-then-x-eq0 c =
    let a = c.args in
    as_text (sym (separated_first a.x (decimal a.n) c.if-x-eq0.true)) c.put_number.ensures

pub put_field-requires : goal.put_field-requires
put_field-requires c =
    let e : length (separated c.args.x (decimal c.args.n)) ≡ length (9 ∷ decimal c.args.n) =
    ap length (separated_later c.args.x (decimal c.args.n) c.if-x-eq0.false) in
    let h = c.requires in
    omega arith

pub returns : goal.returns
returns c =
    let a = c.args in
    as_text (sym (separated_later a.x (decimal a.n) c.if-x-eq0.false)) c.put_field.ensures
