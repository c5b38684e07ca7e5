-- `ground_crown::square_gap` meets its contract. Assumes nothing.
use mathlib.Core.Path.{◌≡◌, ap}
use Prim.Native.Nat.{ℕ, ◌+◌, ◌-◌, ◌*◌, ◌≤◌, ◌<◌}
use native.Mathlib.Omega.{arith}
use native.Mathlib.Nat.{mul-le-mul}
use Rattle.ground_crown.specs.Crown.{square_gap}
use Rattle.ground_crown.proofs.square_gap.Goals as goal

pub returns-then-i-r : goal.returns-then-i-r
unfolding square_gap
returns-then-i-r c =
    let a = c.args in
    let h0 : a.i < 65536 = c.requires.0 in
    let h1 : a.r < 65536 = c.requires.1 in
    let p : a.r - a.i ≤ 65535 = omega arith in
    let g : (a.r - a.i) * (a.r - a.i) ≤ 65535 * 65535 = mul-le-mul p p in
    let e : a.r - a.i ≡ a.i - a.r + (a.r - a.i) = (let t = c.if-i-r.true in omega arith) in
    (ap (λ (k : ℕ). k * k) e, omega arith)

pub returns : goal.returns
unfolding square_gap
returns c =
    let a = c.args in
    let h0 : a.i < 65536 = c.requires.0 in
    let h1 : a.r < 65536 = c.requires.1 in
    let p : a.i - a.r ≤ 65535 = omega arith in
    let g : (a.i - a.r) * (a.i - a.r) ≤ 65535 * 65535 = mul-le-mul p p in
    let e : a.i - a.r ≡ a.i - a.r + (a.r - a.i) = (let t = c.if-i-r.false in omega arith) in
    (ap (λ (k : ℕ). k * k) e, omega arith)
