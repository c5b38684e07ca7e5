-- Rows of numbers and of flags, as lists. Assumes nothing.
use Rattle.std.specs.Prelude.{◌≡◌, List, Bool, false, ℕ, ◌+◌, ◌≤◌, ◌<◌, length, get_or, set, Float}
use Rattle.std.proofs.Common.{◌∙◌, arith, length-set}
use Rattle.std.specs.Float.{nan}
use Rattle.basics.specs.Lists.{front_more}

-- place i of a row
abbrev pub at : List Float → ℕ → Float
at l i = get_or l i nan

-- the first n places of a row hold f 0, f 1, ..
pub record Row (n : ℕ) (f : ℕ → Float) (l : List Float) : Type 0 where
  pub long : n ≤ length l
  pub holds : (i : ℕ) → i < n → at l i ≡ f i

-- the same places by another name
pub row_same : {n : ℕ} {f g : ℕ → Float} {l : List Float} → ((i : ℕ) → i < n → f i ≡ g i) → Row n f l → Row n g l
row_same e r = record { long = r.long; holds = λ (i : ℕ) h. r.holds i h ∙ e i h }

-- the first n flags of a row are g 0, g 1, ..
pub record Flags (n : ℕ) (g : ℕ → Bool) (l : List Bool) : Type 0 where
  pub long : n ≤ length l
  pub holds : (i : ℕ) → i < n → get_or l i false ≡ g i

pub flags_none : (g : ℕ → Bool) (l : List Bool) → Flags 0 g l
flags_none g l = record { long = omega arith; holds = λ (i : ℕ) h. absurd (omega arith) }

pub flags_more : (n : ℕ) (g : ℕ → Bool) (l : List Bool) (v : Bool) → n < length l → v ≡ g n → Flags n g l → Flags (n + 1) g (set l n v)
flags_more n g l v h e r = record { long = (let q = length-set l n v in omega arith); holds = front_more false g l n v h e r.holds }
