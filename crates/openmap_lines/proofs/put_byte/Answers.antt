-- `openmap_lines::put_byte` meets its contract. One byte is set. Assumes nothing.
use mathlib.Core.Path.{refl}
use native.Mathlib.Omega.{arith}
use Rattle.openmap_lines.specs.Appended.{written_one}
use Rattle.openmap_lines.proofs.put_byte.Goals as goal

pub returns : goal.returns
returns c = record { bytes = written_one c.args.out.now c.args.at c.args.b (let h = c.requires in omega arith); behind = refl }
