-- What std says of a call's count, as `Moved`.
use Rattle.std.proofs.Common.{◌≡◌, ℕ, List, length, ◌≤◌, arith}
use Rattle.std.specs.Prelude.{Result, Ok, Err, IfOk}
use Rattle.std.specs.Counts.{IsPrefixLen}
use Rattle.std.specs.declared.io.Error.{Error}
use Rattle.openmap_io.specs.Steps.{Moved}

pub moved : (m k : ℕ) (r : Result ℕ Error) → k ≡ m → IfOk r (λ n. n ≤ k) → Moved m r
moved m k (Ok n) e h = omega arith
moved m k (Err e) _ h = tt

pub moved_into : (m : ℕ) (bytes : List ℕ) (r : Result ℕ Error) → length bytes ≡ m → IfOk r (λ n. IsPrefixLen n bytes) → Moved m r
moved_into m bytes (Ok n) e h = let k = h.0 in omega arith
moved_into m bytes (Err e) _ h = tt
