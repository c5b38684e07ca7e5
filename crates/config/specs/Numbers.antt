-- The number of each refusal (SCOPE 10.2, 10.3), by which the definitions of the calls speak of it. Assumes nothing.
use Rattle.std.specs.Prelude.{◌≡◌, refl, ℕ, eqb, Result, Ok, Err}
use Rattle.std.proofs.Common.{sym, ◌∙◌, ap}
use Rattle.basics.specs.Bools.{pick}
use Rattle.std.proofs.Math.Option.{Option, some, none}
use Rattle.config.specs.declared.refusals.Refusal.{Refusal}
use Rattle.config.specs.declared.refusals.Refusal.TheVariants as refusal
use Rattle.config.specs.declared.refusals.Refused.{Refused}

abbrev pub number_of : Refusal → ℕ
number_of refusal.Size = 1
number_of refusal.Seed = 2
number_of refusal.SeaLevel = 3
number_of refusal.WorldHeight = 4
number_of refusal.Place = 5
number_of refusal.Length = 6
number_of refusal.Outside = 7
number_of refusal.ManyGroups = 8
number_of refusal.JournalLength = 9
number_of refusal.NoLine = 10
number_of refusal.FirstLine = 11
number_of refusal.LaterLine = 12
number_of refusal.TallyLists = 13
number_of refusal.Record = 21
number_of refusal.UsedBytes = 22
number_of refusal.NothingActive = 23
number_of refusal.Full = 24
number_of refusal.Name = 25
number_of refusal.UnknownName = 26
number_of refusal.ManyNames = 27
number_of refusal.PlanesSize = 28
number_of refusal.PlanesBytes = 29
number_of refusal.Face = 99

-- a refusal that is about no line
abbrev pub at_no_line : Refusal → Refused
at_no_line r = record { refusal = r; line = 0 }

-- what an answer says of a refusal: its number, or 0 where nothing refuses
abbrev pub refusal_in : {A : Type 0} → Result A Refusal → ℕ
refusal_in (Ok a) = 0
refusal_in (Err r) = number_of r

-- ---- no refusal's number is 0, and no two have one number

-- the refusal of a number
abbrev with_number : ℕ → Option Refusal
with_number n =
    pick (eqb n 1) (some refusal.Size)
    (pick (eqb n 2) (some refusal.Seed)
    (pick (eqb n 3) (some refusal.SeaLevel)
    (pick (eqb n 4) (some refusal.WorldHeight)
    (pick (eqb n 5) (some refusal.Place)
    (pick (eqb n 6) (some refusal.Length)
    (pick (eqb n 7) (some refusal.Outside)
    (pick (eqb n 8) (some refusal.ManyGroups)
    (pick (eqb n 9) (some refusal.JournalLength)
    (pick (eqb n 10) (some refusal.NoLine)
    (pick (eqb n 11) (some refusal.FirstLine)
    (pick (eqb n 12) (some refusal.LaterLine)
    (pick (eqb n 13) (some refusal.TallyLists)
    (pick (eqb n 21) (some refusal.Record)
    (pick (eqb n 22) (some refusal.UsedBytes)
    (pick (eqb n 23) (some refusal.NothingActive)
    (pick (eqb n 24) (some refusal.Full)
    (pick (eqb n 25) (some refusal.Name)
    (pick (eqb n 26) (some refusal.UnknownName)
    (pick (eqb n 27) (some refusal.ManyNames)
    (pick (eqb n 28) (some refusal.PlanesSize)
    (pick (eqb n 29) (some refusal.PlanesBytes)
    (pick (eqb n 99) (some refusal.Face)
    none))))))))))))))))))))))

number_back : (r : Refusal) → with_number (number_of r) ≡ some r
number_back refusal.Size = refl
number_back refusal.Seed = refl
number_back refusal.SeaLevel = refl
number_back refusal.WorldHeight = refl
number_back refusal.Place = refl
number_back refusal.Length = refl
number_back refusal.Outside = refl
number_back refusal.ManyGroups = refl
number_back refusal.JournalLength = refl
number_back refusal.NoLine = refl
number_back refusal.FirstLine = refl
number_back refusal.LaterLine = refl
number_back refusal.TallyLists = refl
number_back refusal.Record = refl
number_back refusal.UsedBytes = refl
number_back refusal.NothingActive = refl
number_back refusal.Full = refl
number_back refusal.Name = refl
number_back refusal.UnknownName = refl
number_back refusal.ManyNames = refl
number_back refusal.PlanesSize = refl
number_back refusal.PlanesBytes = refl
number_back refusal.Face = refl

some_none : (r : Refusal) → some r ≡ none → ⊥
some_none r e = cc

pub number_some : (r : Refusal) → number_of r ≡ 0 → ⊥
number_some r e = some_none r (sym (number_back r) ∙ ap with_number e)

some_same : (a b : Refusal) → some a ≡ some b → a ≡ b
some_same a b e = cc

pub number_same : (a b : Refusal) → number_of a ≡ number_of b → a ≡ b
number_same a b e = some_same a b (sym (number_back a) ∙ ap with_number e ∙ number_back b)
