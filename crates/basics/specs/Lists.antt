-- Laws of lists. Assumes nothing.
use Rattle.std.specs.Prelude.{◌≡◌, refl, List, [], ◌∷◌, Bool, true, false, ◌⊎◌, ℕ, ◌+◌, ◌<◌, ltb, eqb, length, get_or, set}
use Rattle.std.proofs.Common.{sym, ap, ◌∙◌, inl, inr, arith, length-set, get_or-set_same, get_or-set_other, ltb-true, ltb-false, eqb-true}
use Rattle.std.proofs.Math.ListN.{get_or-eq_default}
use Rattle.std.proofs.lemmas.Bool.{eqb-false}
use Rattle.basics.specs.Bools.{by_bool}

-- a list of no length
pub nil : {A : Type 0} (l : List A) → length l ≡ 0 → l ≡ []
nil [] e = refl
nil (x ∷ l) e = absurd (omega arith)

-- the first n places hold g, and then place n too
pub front_more : {A : Type 0} (d : A) (g : ℕ → A) (l : List A) (n : ℕ) (v : A) → n < length l → v ≡ g n → ((i : ℕ) → i < n → get_or l i d ≡ g i)
    → (i : ℕ) → i < n + 1 → get_or (set l n v) i d ≡ g i
front_more d g l n v h e before i k = here (ltb i n) refl
  where
    here : (t : Bool) → ltb i n ≡ t → get_or (set l n v) i d ≡ g i
    here true t =
        let m = ltb-true i n t in
        get_or-set_other l n i v d (λ (q : i ≡ n). omega arith) ∙ before i m
    here false t =
        let m : i ≡ n = (let q = ltb-false i n t in omega arith) in
        ap (λ (u : ℕ). get_or (set l n v) u d) m ∙ get_or-set_same l n v d h ∙ e ∙ ap g (sym m)

-- an element after one was set: it is the one, or what it was
pub set_either : {A : Type 0} (d : A) (l : List A) (j : ℕ) (v : A) (i : ℕ) → ((i ≡ j) × (get_or (set l j v) i d ≡ v)) ⊎ (get_or (set l j v) i d ≡ get_or l i d)
set_either d l j v i = by_bool (eqb i j)
    (λ e. let q : i ≡ j = eqb-true i j e in by_bool (ltb j (length l))
    (λ h. inl (q, ap (λ (k : ℕ). get_or (set l j v) k d) q ∙ get_or-set_same l j v d (ltb-true j _ h)))
    (λ h. let m = length-set l j v in let n = ltb-false j _ h in
    inr (get_or-eq_default (set l j v) d {n = i} (omega arith) ∙ sym (get_or-eq_default l d {n = i} (omega arith)))))
    (λ e. inr (get_or-set_other l j i v d (eqb-false i j e)))
