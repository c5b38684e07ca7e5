-- `openmap_io::write_some` meets its contract. The part ends where the text does.
use Rattle.std.proofs.Common.{rules, length, ◌-◌, sym, subst, arith}
use Rattle.openmap_io.proofs.Moves.{moved}
use Rattle.openmap_io.specs.Steps.{Reaches, step_reaches}
use Rattle.openmap_io.proofs.write_some.Goals as goal

pub returns : goal.returns
returns g c =
    let now = c.args.text.now in
    let at = c.args.at in
    subst (Reaches at (length now)) (sym c.step_by.ensures)
    (step_reaches at (length now) (length now - at) _ (omega arith) (moved _ _ _ (search rules) c.write_some-answer.ensures.bound))
