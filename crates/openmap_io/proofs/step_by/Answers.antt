-- `openmap_io::step_by` meets its contract: by the kind of an error, or by the count.
use Rattle.std.proofs.Common.{rules, ◌≡◌, ◌+◌, ℕ, zero, suc, false, Ok, Some, sym, ap, refl, ◌∙◌}
use denote.Enum.Bare.{same_true, same_false}
use Rattle.std.specs.IoError.{error_kind}
use Rattle.std.specs.contracts.io.ErrorKind.{the_type}
use Rattle.std.specs.declared.io.ErrorKind.{ErrorKind}
use Rattle.std.specs.declared.io.ErrorKind.TheVariants.{Interrupted}
use Rattle.openmap_io.specs.Steps.{Step, step_of, broken, interrupted, went}
use Rattle.openmap_io.proofs.step_by.Goals as goal

went_on : (at n : ℕ) → (n ≡ 0 → ⊥) → ◌≡◌ {A = Step} (Ok (Some (at + n))) (went at n)
went_on at zero h = absurd (h refl)
went_on at (suc n) h = refl

not_again : (k : ErrorKind) → (k ≡ Interrupted → ⊥) → interrupted k ≡ false
not_again Interrupted h = absurd (h refl)
not_again k h = refl

pub returns-in-Err : goal.returns-in-Err
unfolding step_of
returns-in-Err c =
    let e = same_true the_type (search rules) _ _ (sym c.if-eq.ensures) in
    let k : error_kind c.in-Err.error ≡ Interrupted = sym (rw c.in-Err.is at c.kind.ensures) ∙ e in
    sym (ap (step_of c.args.at) c.in-Err.is ∙ ap (λ b. broken c.args.at c.in-Err.error (interrupted b)) k)

pub returns-in-Err-2 : goal.returns-in-Err-2
unfolding step_of
returns-in-Err-2 c =
    let ne = same_false the_type _ _ (sym c.if-eq.ensures) in
    let k : error_kind c.in-Err-2.error ≡ c.kind.result = sym (rw c.in-Err-2.is at c.kind.ensures) in
    sym (ap (step_of c.args.at) c.in-Err-2.is ∙ ap (broken c.args.at c.in-Err-2.error) (not_again _ (λ e. ne (sym k ∙ e))))

pub returns-in-Ok-eq0 : goal.returns-in-Ok-eq0
unfolding step_of
returns-in-Ok-eq0 c = let z : c.in-Ok-eq0.field-0 ≡ 0 = search rules in sym (ap (step_of c.args.at) c.in-Ok-eq0.is ∙ ap (went c.args.at) z)

pub returns-in-Ok : goal.returns-in-Ok
unfolding step_of
returns-in-Ok c = went_on c.args.at c.in-Ok.n (search rules) ∙ sym (ap (step_of c.args.at) c.in-Ok.is)
