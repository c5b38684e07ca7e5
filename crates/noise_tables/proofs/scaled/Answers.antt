-- `noise_tables::scaled` meets its contract. Assumes nothing.
use mathlib.Core.Path.{sym, ap}
use Prim.Native.Nat.{ℕ}
use native.Mathlib.Omega.{arith}
use lib.Ieee.{of_bits}
use borrow.Author.Tests.{ne_eqb}
use Rattle.num_core.specs.Num.{nearest}
use Rattle.noise_tables.specs.Scaled.{scaled_by}
use Rattle.noise_tables.proofs.scaled.Goals as goal

pub returns-in-0 : goal.returns-in-0
unfolding scaled_by nearest of_bits
returns-in-0 c = sym (ap (λ (k : ℕ). scaled_by k c.args.t) c.in-0.is)

pub returns-in-1 : goal.returns-in-1
unfolding scaled_by nearest of_bits
returns-in-1 c = sym (ap (λ (k : ℕ). scaled_by k c.args.t) c.in-1.is)

pub returns-in-2 : goal.returns-in-2
unfolding scaled_by nearest of_bits
returns-in-2 c = sym (ap (λ (k : ℕ). scaled_by k c.args.t) c.in-2.is)

pub returns-in_default : goal.returns-in_default
unfolding scaled_by nearest of_bits
returns-in_default c = rw (ne_eqb c.args.k 0 (λ e. omega arith), ne_eqb c.args.k 1 (λ e. omega arith), ne_eqb c.args.k 2 (λ e. omega arith))
