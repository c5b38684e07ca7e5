-- A boulder (SCOPE 4.11) has at most 5 blocks: its hash is at most 0.006, and a product grows with its factor, rounded too. Assumes nothing.
use Rattle.std.specs.Prelude.{◌≡◌, refl, ℕ, ◌*◌, ◌/◌, ◌≤◌, Bool, true, false, ◌&&◌, ◌||◌, cond, T, ltb, eqb, ℤ, pos, negsuc, Float}
use Rattle.std.proofs.Common.{sym, ap, ◌∙◌, subst, mul-pos, arith, ltb-true, ltb-false, eqb-true}
use Rattle.std.specs.Float.{nan, inf, fin, binary32}
use Rattle.std.specs.Float.Ieee.{round, mul, lt, le, up, down, to_signed}
use Rattle.std.specs.Float.Ieee.Fits.{down_pos}
use Rattle.std.specs.Float.Ieee.Nearest.{div_mono}
use Rattle.std.specs.Float.Ieee.Order.{round_mono}
use Rattle.num_core.specs.Num.{nearest, to_i32}
use Rattle.column.specs.Floats.{◌*f◌, nat}
use Rattle.ground_trees.specs.Signs.{range_length, whole_part, plus, mul_plus, sum_natural}
use Rattle.ground_trees.specs.Features.{boulder_height, boulder_blocks}

-- the f32 nearest to 0.006, and 500.0
limit_is : nearest 6 1000 ≡ fin false 6442451 (negsuc 29)
unfolding nearest
limit_is = refl

factor_is : nat 500 ≡ fin false 125 (pos 2)
unfolding nearest
factor_is = refl

-- their product, rounded
limit_times : round binary32 false (6442451 * 500) 1073741824 ≡ fin false 3 (pos 0)
unfolding round
limit_times = refl

or_le : (a b : ℕ) → (t u : Bool) → ltb a b ≡ t → eqb a b ≡ u → T (t || (u && true)) → a ≤ b
or_le a b true u p q h = let l = ltb-true a b p in omega arith
or_le a b false true p q h = let e = eqb-true a b q in omega arith
or_le a b false false p q h = absurd h

-- the whole part of a number that is at most n * 2 ^ d
whole_most : (x : Float) (n : ℕ) (d : ℤ) → plus x ≡ true → T (le x (fin false n d)) → whole_part x ≤ n * up d / down d
unfolding whole_part to_i32 to_signed le
whole_most nan n d p h = absurd h
whole_most (inf true) n d p h = absurd (subst T (sym p) tt)
whole_most (inf false) n d p h = absurd h
whole_most (fin true m e) n d p h = absurd (subst T (sym p) tt)
whole_most (fin false m e) n d p h =
    let k = or_le (m * up e * down d) (n * up d * down e) _ _ refl refl h in
    let g = div_mono (m * up e) (down e) (n * up d) (down d) (down_pos e) (down_pos d) k in
    omega arith

-- times 500, a number that is at most 0.006 gives at most 3
times_most : (m : ℕ) (e : ℤ) → m * up e * 1073741824 ≤ 6442451 * down e → T (le (round binary32 false (m * up e * 500) (down e * 1)) (fin false 3 (pos 0)))
times_most m e h =
    subst (λ (z : Float). T (le (round binary32 false (m * up e * 500) (down e * 1)) z)) limit_times
    (round_mono binary32 (m * up e * 500) (down e * 1) (6442451 * 500) 1073741824 (mul-pos (down_pos e) (omega arith)) (omega arith) (omega arith))

nan_most : whole_part nan ≤ 3
unfolding whole_part to_i32 to_signed
nan_most = omega arith

part_most : (h : Float) → plus h ≡ true → lt (fin false 6442451 (negsuc 29)) h ≡ false → whole_part (h *f fin false 125 (pos 2)) ≤ 3
unfolding lt mul
part_most nan p e = nan_most
part_most (inf true) p e = absurd (subst T (sym p) tt)
part_most (inf false) p e = absurd (subst T e tt)
part_most (fin true m x) p e = absurd (subst T (sym p) tt)
part_most (fin false m x) p e = whole_most _ 3 (pos 0) (mul_plus (fin false m x) (fin false 125 (pos 2)) refl refl) (times_most m x (ltb-false _ _ e))

-- 2 and at most 3 more
height_most : (h : Float) → plus h ≡ true → lt (nearest 6 1000) h ≡ false → range_length (boulder_height h) ≤ 5
unfolding boulder_height
height_most h p e =
    let k : whole_part (h *f nat 500) ≤ 3 =
    subst (λ (z : Float). whole_part (h *f z) ≤ 3) (sym factor_is) (part_most h p (ap (λ (z : Float). lt z h) (sym limit_is) ∙ e)) in
    subst (λ (z : ℤ). range_length z ≤ 5) (sym (sum_natural 2 500 h p)) (omega arith)

pub boulder_most : (h : Float) → plus h ≡ true → boulder_blocks h ≤ 5
unfolding boulder_blocks
boulder_most h p = go (lt (nearest 6 1000) h) refl
  where
    go : (b : Bool) → lt (nearest 6 1000) h ≡ b → cond b 0 (range_length (boulder_height h)) ≤ 5
    go true e = omega arith
    go false e = height_most h p e
