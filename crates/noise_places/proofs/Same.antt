-- What the proofs of the kept square cite. Assumes nothing.
use mathlib.Core.Path.{◌≡◌, refl, sym, ap, ◌∙◌, subst}
use mathlib.Core.Bool.{true}
use lib.Dec.{eqb}
use lib.IntN.{ℤ}
use mir.Syntax.{w32}
use mir.Val.{SFits, of_z, to_z}
use mir.ValLaws.{to_z-of_z}
use borrow.Author.Tests.{eqb-true}
use Rattle.noise_rows.specs.Square.{square_of}
use Rattle.noise_rows.specs.declared.Square.{Square}
use Rattle.noise_places.specs.Places.{Kept}

-- two i32 of the same bits are the same
pub same : (a b : ℤ) → SFits w32 a → SFits w32 b → eqb (of_z w32 a) (of_z w32 b) ≡ true → a ≡ b
same a b h k e = sym (to_z-of_z w32 a h) ∙ ap (to_z w32) (eqb-true (of_z w32 a) (of_z w32 b) e) ∙ to_z-of_z w32 b k

pub kept_of : {k : Square} (x y : ℤ) → k ≡ square_of x y → Kept k
unfolding square_of
kept_of x y e = subst Kept (sym e) (record { is = refl })
