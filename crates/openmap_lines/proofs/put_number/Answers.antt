-- `openmap_lines::put_number` meets its contract: at most 20 digits, which a line holds. Assumes nothing.
use Rattle.std.proofs.Common.{rules, ◌≡◌, length, arith}
use Rattle.text.specs.Decimal.{decimal_length}
use Rattle.openmap_lines.proofs.put_number.Goals as goal

pub put_number-requires : goal.put_number-requires
put_number-requires c =
    let l = decimal_length 19 c.args.n (omega arith) in
    let e : length c.new-digits.result.items ≡ 0 = search rules in
    record { fits = omega arith }
