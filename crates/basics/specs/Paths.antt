-- One function of equal arguments. Assumes nothing.
use Rattle.std.specs.Prelude.{◌≡◌}
use Rattle.std.proofs.Common.{ap, ap₂, ◌∙◌}

-- of three
pub ap₃ : {A B C D : Type 0} (f : A → B → C → D) {a a' : A} {b b' : B} {c c' : C} → a ≡ a' → b ≡ b' → c ≡ c'
    → f a b c ≡ f a' b' c'
ap₃ {A} {B} f {a' = a'} {b' = b'} {c = c} p q r = ap₂ (λ (x : A) (y : B). f x y c) p q ∙ ap (f a' b') r

-- of four
pub ap₄ : {A B C D E : Type 0} (f : A → B → C → D → E) {a a' : A} {b b' : B} {c c' : C} {d d' : D} → a ≡ a' → b ≡ b'
    → c ≡ c' → d ≡ d' → f a b c d ≡ f a' b' c' d'
ap₄ {A} {B} f {a' = a'} {b' = b'} {c = c} {d = d} p q r t = ap₂ (λ (x : A) (y : B). f x y c d) p q ∙ ap₂ (f a' b') r t

-- of five
pub ap₅ : {A B C D E F : Type 0} (f : A → B → C → D → E → F) {a a' : A} {b b' : B} {c c' : C} {d d' : D} {e e' : E}
    → a ≡ a' → b ≡ b' → c ≡ c' → d ≡ d' → e ≡ e' → f a b c d e ≡ f a' b' c' d' e'
ap₅ {A} {B} {C} {D} f {a' = a'} {b' = b'} {c = c} {c' = c'} {d = d} {d' = d'} {e = e} p q r t u =
    ap₂ (λ (x : A) (y : B). f x y c d e) p q ∙ ap₂ (λ (x : C) (y : D). f a' b' x y e) r t ∙ ap (f a' b' c' d') u

-- of six
pub ap₆ : {A B C D E F G : Type 0} (f : A → B → C → D → E → F → G) {a a' : A} {b b' : B} {c c' : C} {d d' : D} {e e' : E} {g g' : F}
    → a ≡ a' → b ≡ b' → c ≡ c' → d ≡ d' → e ≡ e' → g ≡ g' → f a b c d e g ≡ f a' b' c' d' e' g'
ap₆ {A} {B} {C} f {a' = a'} {b' = b'} {c' = c'} {d = d} {e = e} {g = g} p q r t u v =
    ap₃ (λ (x : A) (y : B) (z : C). f x y z d e g) p q r ∙ ap₃ (f a' b' c') t u v
