-- `openmap_lines::put_field` meets its contract. A tab, then the digits. Assumes nothing.
use native.Mathlib.Omega.{arith}
use Rattle.openmap_lines.specs.Appended.{then}
use Rattle.openmap_lines.proofs.put_field.Goals as goal

pub returns : goal.returns
returns c =
    let h = c.requires in
    then (omega arith) c.put_byte-p.ensures c.put_number.ensures
