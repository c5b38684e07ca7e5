-- Which cells of a column lie where caves can be (SCOPE 4.8). Assumes nothing.
use Rattle.std.specs.Prelude.{◌≡◌, refl, Bool, true, false, ◌&&◌, cond, ℕ, zero, suc, ◌+◌, ◌-◌, ◌≤◌, ◌<◌, ltb, ℤ, pos, negsuc, ◌+ℤ◌, ◌-ℤ◌}
use Rattle.std.proofs.Common.{sym, subst, arith, ltb-true, ltb-false, lt-ltb, le-ltb}
use Rattle.std.proofs.lemmas.Bool.{false≢true}
use Rattle.std.specs.Int.Signed.{lt_z}
use Rattle.basics.specs.Integers.{one_less}
use Rattle.basics.specs.Bools.{and_both}
use Rattle.ground_cell.specs.World.{local_or, local_y}
use Rattle.ground_lines.specs.Lines.{below_level}

sunk : (a n y : ℕ) (b : Bool) → ltb y (suc a) ≡ b → lt_z (cond b (negsuc (suc a - suc y)) (pos (y - suc a))) (pos n) ≡ true → y < n + suc a
sunk a n y true t e = let k = ltb-true y (suc a) t in omega arith
sunk a n y false t e = let k = ltb-true (y - suc a) n e in let g = ltb-false y (suc a) t in omega arith

-- a cell below level n is one of the first n - o
below_yes : (o : ℤ) (n y : ℕ) → lt_z (o +ℤ pos y) (pos n) ≡ true → y < local_y 0 o (pos n)
unfolding local_y
below_yes (pos zero) n y e = let k = ltb-true (0 + y) n e in omega arith
below_yes (pos (suc a)) n y e =
    let k = ltb-true (suc a + y) n e in
    rw (le-ltb n (suc a) (omega arith)) (omega arith)
below_yes (negsuc a) n y e = sunk a n y (ltb y (suc a)) refl e

risen : (a y : ℕ) (b : Bool) → ltb y (suc a) ≡ b → lt_z (pos 0) (cond b (negsuc (suc a - suc y)) (pos (y - suc a))) ≡ true → 1 + suc a ≤ y
risen a y true t e = absurd (false≢true e)
risen a y false t e = let k = ltb-true 0 (y - suc a) e in omega arith

none : (a m y : ℕ) (b : Bool) → local_or 0 (cond b (negsuc m) (pos (1 - suc a))) ≤ y
none a m y true = omega arith
none a m y false = omega arith

-- a cell above level 0 is past those below level 1
below_no : (o : ℤ) (y : ℕ) → lt_z (pos 0) (o +ℤ pos y) ≡ true → local_y 0 o (pos 1) ≤ y
unfolding local_y
below_no (pos zero) y e = let k = ltb-true 0 (0 + y) e in omega arith
below_no (pos (suc a)) y e = none a _ y (ltb 1 (suc a))
below_no (negsuc a) y e = risen a y (ltb y (suc a)) refl e

clip_le : (n size y : ℕ) (b : Bool) → ltb n size ≡ b → y < size → n ≤ y → cond b n size ≤ y
clip_le n size y true t p q = q
clip_le n size y false t p q = let k = ltb-false n size t in omega arith

clip_lt : (n size y : ℕ) (b : Bool) → y < size → y < n → y < cond b n size
clip_lt n size y true p q = q
clip_lt n size y false p q = p

-- a cell whose level admits a cave lies in the range that is worked out
pub in_range : (o : ℤ) (h size y : ℕ) → 1 ≤ h → y < size → (lt_z (pos 0) (o +ℤ pos y) && lt_z (o +ℤ pos y) (pos h -ℤ pos 1)) ≡ true
    → (below_level size o 1 ≤ y) × (y < below_level size o (h - 1))
unfolding below_level
in_range o h size y p q e =
    let g = and_both (lt_z (pos 0) (o +ℤ pos y)) (lt_z (o +ℤ pos y) (pos h -ℤ pos 1)) e in
    let low = below_no o y g.0 in
    let high = below_yes o (h - 1) y (subst (λ (u : ℤ). lt_z (o +ℤ pos y) u ≡ true) (one_less h p) g.1) in (
      clip_le (local_y 0 o (pos 1)) size y (ltb (local_y 0 o (pos 1)) size) refl q low,
      clip_lt (local_y 0 o (pos (h - 1))) size y (ltb (local_y 0 o (pos (h - 1))) size) q high,
    )

-- a lower height admits caves on no other levels
lower : (wy : ℤ) (h top : ℕ) → h ≤ top → lt_z wy (pos h) ≡ true → lt_z wy (pos top) ≡ true
lower (pos n) h top p e = let k = ltb-true n h e in lt-ltb n top (omega arith)
lower (negsuc n) h top p e = refl

-- the same for a column of the row whose greatest height is top
pub in_row : (o : ℤ) (h top size y : ℕ) → 1 ≤ h → h ≤ top → y < size → (lt_z (pos 0) (o +ℤ pos y) && lt_z (o +ℤ pos y) (pos h -ℤ pos 1)) ≡ true
    → (below_level size o 1 ≤ y) × (y < below_level size o (top - 1))
in_row o h top size y p q m e =
    let g = and_both (lt_z (pos 0) (o +ℤ pos y)) (lt_z (o +ℤ pos y) (pos h -ℤ pos 1)) e in
    let l = lower (o +ℤ pos y) (h - 1) (top - 1) (omega arith) (subst (λ (u : ℤ). lt_z (o +ℤ pos y) u ≡ true) (one_less h p) g.1) in
    let r = subst (λ (u : ℤ). lt_z (o +ℤ pos y) u ≡ true) (sym (one_less top (omega arith))) l in
    in_range o top size y (omega arith) m (rw g.0 r)
