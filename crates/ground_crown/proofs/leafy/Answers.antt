-- `ground_crown::leafy` meets its contract. Assumes nothing.
use mathlib.Core.Path.{◌≡◌, sym, ap, ap₂, ◌∙◌}
use Prim.Native.Nat.{◌+◌, ◌*◌, ◌≤◌, ◌<◌}
use native.Mathlib.Omega.{arith}
use mathlib.Core.Bool.{true, false}
use lib.IntN.{ℤ}
use lib.Ieee.{of_bits, lt}
use mir.Syntax.{w32}
use mir.ValLaws.{to_z-of_z}
use borrow.Author.Tests.{lt-ltb, le-ltb, eq-eqb, ne_eqb}
use Rattle.num_core.specs.Num.{nearest}
use Rattle.ground_crown.specs.Crown.{square_gap, leaf_hash, has_leaf}
use Rattle.ground_crown.proofs.leafy.Goals as goal

pub returns-then-d-e : goal.returns-then-d-e
unfolding has_leaf nearest of_bits
returns-then-d-e c =
    let a = c.args in
    let e1 : c.square_gap.result ≡ square_gap a.i a.r = c.square_gap.ensures.0 in
    let e2 : c.square_gap-2.result ≡ square_gap a.m a.r = c.square_gap-2.ensures.0 in
    let n1 : square_gap a.i a.r + square_gap a.m a.r < a.r * a.r + 1 = (let t = c.if-d-e.true in omega arith) in
    rw (lt-ltb _ _ n1)

pub returns-then-leaf_hash : goal.returns-then-leaf_hash
unfolding has_leaf nearest of_bits
returns-then-leaf_hash c =
    let a = c.args in
    let e1 : c.square_gap.result ≡ square_gap a.i a.r =
    c.square_gap.ensures.0 in
    let e2 : c.square_gap-2.result ≡ square_gap a.m a.r = c.square_gap-2.ensures.0 in
    let n1 : a.r * a.r + 1 ≤ square_gap a.i a.r + square_gap a.m a.r = (let t = c.if-d-e.false in omega arith) in
    let n2 : square_gap a.i a.r + square_gap a.m a.r ≡ a.r * a.r + 1 = (let t = c.if-d-e-2.true in omega arith) in
    let hh : lt (nearest 6 10) (leaf_hash a.wx a.wz a.r a.l a.i a.m) ≡ true =
    sym (ap (lt (nearest 6 10))
    (c.leaf_hash.ensures
    ∙ ap₂ (λ (u v : ℤ). leaf_hash u v a.r a.l a.i a.m) (to_z-of_z w32 a.wx c.ranges.wx) (to_z-of_z w32 a.wz c.ranges.wz)))
    ∙ c.if-leaf_hash.true in
    rw (le-ltb _ _ n1, eq-eqb _ _ n2, hh)

pub returns-then-d-e-2 : goal.returns-then-d-e-2
unfolding has_leaf nearest of_bits
returns-then-d-e-2 c =
    let a = c.args in
    let e1 : c.square_gap.result ≡ square_gap a.i a.r =
    c.square_gap.ensures.0 in
    let e2 : c.square_gap-2.result ≡ square_gap a.m a.r = c.square_gap-2.ensures.0 in
    let n1 : a.r * a.r + 1 ≤ square_gap a.i a.r + square_gap a.m a.r = (let t = c.if-d-e.false in omega arith) in
    let n2 : square_gap a.i a.r + square_gap a.m a.r ≡ a.r * a.r + 1 = (let t = c.if-d-e-2.true in omega arith) in
    let hh : lt (nearest 6 10) (leaf_hash a.wx a.wz a.r a.l a.i a.m) ≡ false =
    sym (ap (lt (nearest 6 10))
    (c.leaf_hash.ensures
    ∙ ap₂ (λ (u v : ℤ). leaf_hash u v a.r a.l a.i a.m) (to_z-of_z w32 a.wx c.ranges.wx) (to_z-of_z w32 a.wz c.ranges.wz)))
    ∙ c.if-leaf_hash.false in
    rw (le-ltb _ _ n1, eq-eqb _ _ n2, hh)

pub returns : goal.returns
unfolding has_leaf nearest of_bits
returns c =
    let a = c.args in
    let e1 : c.square_gap.result ≡ square_gap a.i a.r = c.square_gap.ensures.0 in
    let e2 : c.square_gap-2.result ≡ square_gap a.m a.r = c.square_gap-2.ensures.0 in
    let n1 : a.r * a.r + 1 ≤ square_gap a.i a.r + square_gap a.m a.r = (let t = c.if-d-e.false in omega arith) in
    let n2 : square_gap a.i a.r + square_gap a.m a.r ≡ a.r * a.r + 1 → ⊥ = λ h. c.if-d-e-2.false (ap₂ ◌+◌ e1 e2 ∙ h) in
    rw (le-ltb _ _ n1, ne_eqb _ _ n2)
