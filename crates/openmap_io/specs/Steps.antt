-- What reading and writing make of the answers of their calls (SCOPE 11.1, 11.5). Assumes nothing.
use Rattle.std.specs.Prelude.{◌≡◌, refl, Bool, true, false, List, ℕ, zero, suc, ◌+◌, ◌≤◌, length, take, Option, Some, None, Result, Ok, Err, IfOk}
use Rattle.std.proofs.Common.{arith}
use Rattle.std.specs.IoError.{error_kind}
use Rattle.std.specs.declared.io.Error.{Error}
use Rattle.std.specs.declared.io.ErrorKind.{ErrorKind}
use Rattle.std.specs.declared.io.ErrorKind.TheVariants.{Interrupted}
use Rattle.openmap_io.specs.declared.Failure.{Failure}
use Rattle.openmap_io.specs.declared.Failure.TheVariants.{Call, Stuck}

-- what a call that is lent n bytes may answer: how many bytes it moved, at most n, or an error
abbrev pub Moved : ℕ → Result ℕ Error → Type 0
Moved n (Ok k) = k ≤ n
Moved n (Err e) = Unit {0}

-- the kind of the error of a call that a signal interrupted before it moved a byte
abbrev pub interrupted : ErrorKind → Bool
interrupted Interrupted = true
interrupted kind = false

-- how far a reading or a writing is after a call: it goes on at a byte, or the call moved nothing, or it failed
abbrev pub Step : Type 0
Step = Result (Option ℕ) Error

-- such a call is made again; any other that answered an error failed
abbrev pub broken : ℕ → Error → Bool → Step
broken at error true = Ok (Some at)
broken at error false = Err error

-- the next call goes on behind the bytes that this one moved; 0 of them are the end
abbrev pub went : ℕ → ℕ → Step
went at zero = Ok None
went at (suc n) = Ok (Some (at + suc n))

-- by what a call answered, where the part of the buffer that it was lent begins at `at`
unfoldable pub step_of : ℕ → Result ℕ Error → Step
step_of at (Ok n) = went at n
step_of at (Err error) = broken at error (interrupted (error_kind error))

-- SCOPE 11.5: nothing but an answer of 0 is the end of the input: no call that failed or was interrupted is
pub end_is_0 : (at : ℕ) (answer : Result ℕ Error) → step_of at answer ≡ Ok None → ◌≡◌ {A = Result ℕ Error} answer (Ok 0)
unfolding step_of
end_is_0 at (Ok zero) e = refl
end_is_0 at (Ok (suc n)) e = cc
end_is_0 at (Err error) e = no_end (interrupted (error_kind error)) e
  where
    no_end : (b : Bool) → broken at error b ≡ Ok None → ◌≡◌ {A = Result ℕ Error} (Err error) (Ok 0)
    no_end true e = cc
    no_end false e = cc

-- a place to go on at lies within the buffer, and not before the last
abbrev pub Reaches : ℕ → ℕ → Step → Type 0
Reaches at most (Ok (Some next)) = (at ≤ next) × (next ≤ most)
Reaches at most (Ok None) = Unit {0}
Reaches at most (Err error) = Unit {0}

-- a call that moved no more than the part has
pub step_reaches : (at most k : ℕ) (answer : Result ℕ Error) → at + k ≤ most → Moved k answer → Reaches at most (step_of at answer)
unfolding step_of
step_reaches at most k (Ok zero) h m = tt
step_reaches at most k (Ok (suc n)) h m = (omega arith, omega arith)
step_reaches at most k (Err error) h m = again (interrupted (error_kind error))
  where
    again : (b : Bool) → Reaches at most (broken at error b)
    again true = (omega arith, omega arith)
    again false = tt

-- after a call of read: the bytes before `at` are those that were read before
pub record ReadOn (before : List ℕ) (at : ℕ) (s : Step) (after : List ℕ) : Type 0 where
  pub reaches : Reaches at (length before) s
  pub length_stays : length after ≡ length before
  pub earlier_stay : take at after ≡ take at before

-- SCOPE 11.5: what a reading came to, by how its last call left it with `at` bytes read; one that did not get to the end of the input failed
abbrev pub reading_of : ℕ → Step → Result ℕ Failure
reading_of at (Ok (Some next)) = Err Stuck
reading_of at (Ok None) = Ok at
reading_of at (Err error) = Err (Call error)

-- a whole reading lies within the buffer
abbrev pub Held : Result ℕ Failure → List ℕ → Type 0
Held reading bytes = IfOk reading (λ n. n ≤ length bytes)

pub reading_held : (at : ℕ) (s : Step) (bytes : List ℕ) → at ≤ length bytes → Held (reading_of at s) bytes
reading_held at (Ok (Some next)) bytes h = tt
reading_held at (Ok None) bytes h = h
reading_held at (Err error) bytes h = tt
