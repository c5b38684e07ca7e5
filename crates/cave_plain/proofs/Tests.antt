-- The tests of a cave in another order than their definition has. Assumes nothing.
use mathlib.Core.Path.{◌≡◌, refl, sym}
use mathlib.Core.Bool.{Bool, true, false, ◌&&◌, ◌||◌, false≢true}
use lib.IntN.{ℤ}
use lib.Ieee.{Float, lt}
use Rattle.column.specs.Floats.{◌-f◌, nat, real}
use Rattle.cave_plain.specs.Caves.{spaghetti_cave, large_cavern, ravine_here, ravine_cut, carved}

last_two : (a b c : Bool) → (b && c) ≡ true → a ≡ (a && b && c)
last_two true true true e = refl
last_two true true false e = sym e
last_two true false c e = sym e
last_two false true true e = refl
last_two false true false e = refl
last_two false false c e = refl

not_last_two : (a b c : Bool) → (b && c) ≡ false → false ≡ (a && b && c)
not_last_two true true true e = sym e
not_last_two true true false e = refl
not_last_two true false c e = refl
not_last_two false true c e = refl
not_last_two false false c e = refl

third : (a b c : Bool) → c ≡ true → true ≡ (a || b || c)
third true b c e = refl
third false true c e = refl
third false false c e = sym e

second : (a b c : Bool) → b ≡ true → true ≡ (a || b || c)
second true b c e = refl
second false true c e = refl
second false false c e = absurd (false≢true e)

first : (a b c : Bool) → b ≡ false → c ≡ false → a ≡ (a || b || c)
first true b c p q = refl
first false false false p q = refl
first false false true p q = sym q
first false true c p q = sym p

-- whether a level may hold a ravine
abbrev pub near : Float → Float → Bool
near y h = lt (h -f nat 20) y && lt y (h -f nat 1)

pub ravine_near : (x y z h : Float) → near y h ≡ true → ravine_here x z ≡ ravine_cut x y z h
unfolding ravine_cut
ravine_near x y z h e = last_two (ravine_here x z) (lt (h -f nat 20) y) (lt y (h -f nat 1)) e

pub ravine_far : (x y z h : Float) → near y h ≡ false → false ≡ ravine_cut x y z h
unfolding ravine_cut
ravine_far x y z h e = not_last_two (ravine_here x z) (lt (h -f nat 20) y) (lt y (h -f nat 1)) e

module _ (wx wy wz h : ℤ) where
  abbrev a : Bool
  a = spaghetti_cave (real wx) (real wy) (real wz)

  abbrev b : Bool
  b = large_cavern (real wx) (real wy) (real wz) (real h)

  abbrev c : Bool
  c = ravine_cut (real wx) (real wy) (real wz) (real h)

  pub by_ravine : c ≡ true → true ≡ carved wx wy wz h
  unfolding carved
  by_ravine e = third a b c e

  pub by_cavern : b ≡ true → true ≡ carved wx wy wz h
  unfolding carved
  by_cavern e = second a b c e

  pub by_spaghetti : b ≡ false → c ≡ false → a ≡ carved wx wy wz h
  unfolding carved
  by_spaghetti p q = first a b c p q
