-- `openmap_io::read_some` meets its contract. The part ends where the buffer does, and what lies before it is not lent.
use Rattle.std.proofs.Common.{rules, length, ◌-◌, ◌∙◌, sym, subst, arith}
use borrow.Rule.Slice.PartMut.{take_put}
use Rattle.openmap_io.proofs.Moves.{moved_into}
use Rattle.openmap_io.specs.Steps.{Reaches, step_reaches}
use Rattle.openmap_io.proofs.read_some.Goals as goal

pub returns : goal.returns
returns g c =
    let now = c.args.journal.now in
    let at = c.args.at in
    record {
      reaches =
          subst (Reaches at (length now)) (sym c.step_by.ensures)
          (step_reaches at (length now) (length now - at) _ (omega arith) (moved_into (length now - at) c.read-answer.new.buf _ (c.read-answer.auto.buf ∙ search rules) c.read-answer.ensures.bound));
      length_stays = search rules;
      earlier_stay = take_put at (length now - at) now c.read-answer.new.buf (omega arith);
    }
