-- What the calls for the places of a row give. Assumes nothing.
use Rattle.std.specs.Prelude.{◌≡◌, ℕ, ◌<◌, Float}

-- a call for place i, of n, gives w i
pub record Gives (n : ℕ) (post : ℕ → Float → Type 0) (w : ℕ → Float) : Type 0 where
  pub is : (i : ℕ) (x : Float) → i < n → post i x → x ≡ w i
