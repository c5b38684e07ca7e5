-- `openmap_report::lent_for` meets its contract. A size within the limits is read back as it was written. Assumes nothing.
use Rattle.session_calls.specs.Record.{cube}
use borrow.Author.Tests.{le-leb, lt-leb}
use native.Mathlib.Nat.{mul-le-mul}
use mir.Val.{of_z, to_z}
use Rattle.config.specs.Limits.{Between, limited}
use mir.ValLaws.{to_z-of_z}
use mir.Val.{Fits}
use mir.Syntax.{w64}
use lib.Signed.{non_neg}
use lib.IntN.{ℤ, nat_abs}
use lib.Dec.{T}
use Prim.Native.Nat.{ℕ, ◌*◌, ◌≤◌, ◌<◌}
use mathlib.Core.Path.{◌≡◌, sym, ap, subst}
use native.Mathlib.Omega.{arith}
use Rattle.openmap_report.proofs.lent_for.Goals.{After-struct_told-1}
use Rattle.openmap_report.proofs.lent_for.Goals as goal

-- the size, read as it was written
module _ (c : After-struct_told-1) where
  size : Between 1 64 c.args.header.chunk_size
  size = (limited c.args.header c.requires).size

  again : to_z w64 (of_z w64 c.args.header.chunk_size) ≡ c.args.header.chunk_size
  again = to_z-of_z w64 c.args.header.chunk_size (record { sfits = (let g = c.struct_told-1.given in omega arith) })

  same : nat_abs (to_z w64 (of_z w64 c.args.header.chunk_size)) ≡ nat_abs c.args.header.chunk_size
  same = ap nat_abs again

  most : nat_abs (to_z w64 (of_z w64 c.args.header.chunk_size)) ≤ 64
  most = rw again (subst (λ (z : ℤ). nat_abs z ≤ 64) (sym size.is) size.most)

pub overflow_cast-size : goal.overflow_cast-size
overflow_cast-size c =
    rw (again c) (subst (λ (z : ℤ). T (non_neg z) × Fits w64 (nat_abs z)) (sym (size c).is) (tt, record { fits = (let m = (size c).most in omega arith) }))

pub overflow_mul-result : goal.overflow_mul-result
overflow_mul-result c =
    let k = most (goal.at.overflow_mul-result c).After-struct_told-1 in
    let m : nat_abs (to_z w64 (of_z w64 c.args.header.chunk_size)) * nat_abs (to_z w64 (of_z w64 c.args.header.chunk_size)) ≤ 64 * 64 = mul-le-mul k k in
    record { fits = omega arith }

pub overflow_mul-result-then-size-le-PRINTED_MOST : goal.overflow_mul-result-then-size-le-PRINTED_MOST
overflow_mul-result-then-size-le-PRINTED_MOST c =
    let k = most (goal.at.overflow_mul-result-then-size-le-PRINTED_MOST c).After-struct_told-1 in
    let n : ℕ = nat_abs (to_z w64 (of_z w64 c.args.header.chunk_size)) in
    let m : n * n * n ≤ 64 * 64 * 64 =
    mul-le-mul (mul-le-mul k k) k in
    record { fits = omega arith }

pub returns-then-size-le-PRINTED_MOST : goal.returns-then-size-le-PRINTED_MOST
returns-then-size-le-PRINTED_MOST c =
    let k : nat_abs (to_z w64 (of_z w64 c.args.header.chunk_size)) ≤ 16 = c.if-size-le-PRINTED_MOST.true in
    let e = same (goal.at.returns-then-size-le-PRINTED_MOST c).After-struct_told-1 in
    let h : nat_abs c.args.header.chunk_size ≤ 16 = omega arith in
    rw (le-leb (nat_abs c.args.header.chunk_size) 16 h) (ap cube e)

pub returns : goal.returns
returns c =
    let k : 16 < nat_abs (to_z w64 (of_z w64 c.args.header.chunk_size)) = c.if-size-le-PRINTED_MOST.false in
    let e = same (goal.at.returns c).After-struct_told-1 in
    let h : 16 < nat_abs c.args.header.chunk_size = omega arith in
    rw (lt-leb (nat_abs c.args.header.chunk_size) 16 h)
