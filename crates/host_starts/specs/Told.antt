-- What an answer tells, by the number and line of what refuses, whichever they are; and so what the library's two calls say. Assumes nothing.
use Rattle.std.specs.Prelude.{◌≡◌, refl, ℕ, Result, Ok, Err}
use Rattle.config.specs.Numbers.{number_of}
use Rattle.config.specs.declared.refusals.Refusal.{Refusal}
use Rattle.config.specs.declared.refusals.Refused.{Refused}
use Rattle.session_calls.specs.declared.Session.{Session}
use Rattle.session_calls.specs.declared.Opened.{Opened}
use Rattle.session_calls.specs.Answers.{says_fresh, says_reopened}
use Rattle.session_calls.specs.Fresh as F
use Rattle.session_calls.specs.Reopened as R
use Rattle.host_starts.specs.declared.Cause.{Cause}

-- a refusal of any number and line
abbrev pub cause : ℕ → ℕ → Cause
cause number line = record { number = number; line = line }

-- a fresh session, or the number and line of what refuses it
abbrev pub fresh_told : {E : Type 0} → (E → ℕ) → (E → ℕ) → Result Session E → F.Fresh
fresh_told number line (Ok s) = F.Started s
fresh_told number line (Err e) = F.Refused (number e) (line e)

-- .. and a reopening
abbrev pub reopening_told : {E : Type 0} → (E → ℕ) → (E → ℕ) → Result Opened E → R.Reopened
reopening_told number line (Ok o) = R.Opened o.session o.lines o.trailing
reopening_told number line (Err e) = R.Refused (number e) (line e)

-- ---- laws: of what the library's calls answer they tell what these say

pub fresh_told_says : (a : Result Session Refusal) → fresh_told number_of (λ (r : Refusal). 0) a ≡ says_fresh a
fresh_told_says (Ok s) = refl
fresh_told_says (Err r) = refl

pub reopening_told_says : (a : Result Opened Refused)
    → reopening_told (λ (r : Refused). number_of r.refusal) (λ (r : Refused). r.line) a ≡ says_reopened a
reopening_told_says (Ok o) = refl
reopening_told_says (Err r) = refl
