-- `ground_lines::below_level` meets its contract. Assumes nothing.
use mathlib.Core.Path.{sym, ap, ◌∙◌, subst}
use mathlib.Core.Bool.{Bool, cond}
use Prim.Native.Nat.{ℕ, ◌≤◌, ◌<◌}
use native.Mathlib.Omega.{arith}
use lib.Dec.{ltb}
use lib.IntN.{ℤ, pos}
use lib.Signed.{mag}
use borrow.Author.Tests.{lt-ltb, le-ltb}
use Rattle.ground_cell.specs.World.{local_y}
use Rattle.basics.specs.Words.{back}
use Rattle.ground_lines.specs.Lines.{below_level}
use Rattle.ground_lines.proofs.below_level.Goals as goal

pub local_y-n-requires : goal.local_y-n-requires
local_y-n-requires c =
    let h : c.args.level < 65536 = c.requires.1 in
    (subst (λ (u : ℤ). mag u ≤ 1000000) (sym (back c.args.o c.requires.0)) c.requires.0, omega arith)

pub returns-then-n-size : goal.returns-then-n-size
unfolding below_level
returns-then-n-size c =
    let n = c.local_y-n.result in
    let z = c.args.size in
    let e = c.local_y-n.ensures ∙ ap (λ (u : ℤ). local_y 0 u (pos c.args.level)) (back c.args.o c.requires.0) in
    sym (ap (λ (u : ℕ). cond (ltb u z) u z) (sym e) ∙ ap (λ (b : Bool). cond b n z) (lt-ltb n z c.if-n-size.true))

pub returns : goal.returns
unfolding below_level
returns c =
    let n = c.local_y-n.result in
    let z = c.args.size in
    let e = c.local_y-n.ensures ∙ ap (λ (u : ℤ). local_y 0 u (pos c.args.level)) (back c.args.o c.requires.0) in
    sym (ap (λ (u : ℕ). cond (ltb u z) u z) (sym e) ∙ ap (λ (b : Bool). cond b n z) (le-ltb n z c.if-n-size.false))
