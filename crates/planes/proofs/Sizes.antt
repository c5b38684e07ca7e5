-- The tests of a size and of two lengths, and what holds where nothing is refused. Assumes nothing.
use Rattle.std.specs.Prelude.{◌≡◌, refl, ℕ, ◌+◌, ◌*◌, Bool, true, false, ◌||◌, eqb}
use Rattle.std.proofs.Common.{sym, ap, ◌∙◌, subst, arith, eqb-true}
use Rattle.std.proofs.lemmas.Bool.{false≢true}
use Rattle.config.specs.Refusals.{refusal_zero, refusal_none, refusal_pass, refusal_stop}
use Rattle.planes.specs.Order.{volume}
use Rattle.planes.specs.Planes.{power_size, powers_below, bits_of, planes_refusal}
use Rattle.planes.specs.Sizes.{Power, Fit}

-- ---- how the tests answer, one behind the other

module _ (size n m : ℕ) where
  pub size_stops : power_size size ≡ false → planes_refusal size n m ≡ 28
  unfolding planes_refusal
  size_stops a = refusal_stop _ 28 _ a

  module _ (a : power_size size ≡ true) where
    pub cells_stop : eqb n (size * size * size) ≡ false → planes_refusal size n m ≡ 6
    unfolding planes_refusal
    cells_stop b = refusal_pass _ 28 _ a ∙ refusal_stop _ 6 _ b

    module _ (b : eqb n (size * size * size) ≡ true) where
      pub bytes_stop : eqb m (2 * (size * size * size)) ≡ false → planes_refusal size n m ≡ 29
      unfolding planes_refusal
      bytes_stop d = refusal_pass _ 28 _ a ∙ refusal_pass _ 6 _ b ∙ refusal_stop _ 29 _ d

      pub none_stops : eqb m (2 * (size * size * size)) ≡ true → planes_refusal size n m ≡ 0
      unfolding planes_refusal
      none_stops d = refusal_pass _ 28 _ a ∙ refusal_pass _ 6 _ b ∙ refusal_pass _ 29 _ d ∙ refusal_none

-- ---- where nothing is refused

-- one more size: it is n, or one of those before
or_n : (size n : ℕ) (before : Bool) → (before ≡ true → Power size) → Power n → (before || eqb size n) ≡ true → Power size
or_n size n true h p e = h refl
or_n size n false h p e = subst Power (sym (eqb-true size n e)) p

pub power : (size : ℕ) → power_size size ≡ true → Power size
unfolding power_size bits_of powers_below
power size =
    or_n size 64 _
    (or_n size 32 _
    (or_n size 16 _
    (or_n size 8 _
    (or_n size 4 _
    (or_n size 2 _
    (or_n size 1 false (λ e. absurd (false≢true e)) (record { is = refl; few = omega arith; most = omega arith }))
    (record { is = refl; few = omega arith; most = omega arith }))
    (record { is = refl; few = omega arith; most = omega arith }))
    (record { is = refl; few = omega arith; most = omega arith }))
    (record { is = refl; few = omega arith; most = omega arith }))
    (record { is = refl; few = omega arith; most = omega arith }))
    (record { is = refl; few = omega arith; most = omega arith })

volume_of : (size : ℕ) → Power size → size * size * size ≡ volume (bits_of size)
volume_of size p = ap (λ (s : ℕ). s * s * s) p.is

pub planes_passed : (size n m : ℕ) → planes_refusal size n m ≡ 0 → Fit size n m
unfolding planes_refusal
planes_passed size n m e =
    let p = refusal_zero (power_size size) 27 _ e in
    let q = refusal_zero (eqb n (size * size * size)) 5 _ p.1 in
    let r = refusal_zero (eqb m (2 * (size * size * size))) 28 _ q.1 in
    record { power = power size p.0; cells = eqb-true n _ q.0; bytes = eqb-true m _ r.0 }

module _ (size n m : ℕ) (fit : Fit size n m) where
  pub cells_all : n ≡ volume (bits_of size)
  cells_all = fit.cells ∙ volume_of size fit.power

  pub bytes_all : m ≡ n + n
  bytes_all = let c = fit.cells in let b = fit.bytes in omega arith
