-- `planes_blocks::block_cell` meets its contract. y and z are at most 3, so that no product passes 3 · 64². Assumes nothing.
use Prim.Native.Nat.{ℕ, ◌+◌, ◌*◌, ◌/◌, ◌%◌, ◌≤◌}
use native.Mathlib.Omega.{arith}
use native.Mathlib.Nat.{mul-le-mul}
use Rattle.planes_blocks.specs.Blocks.{block_bits}
use Rattle.planes_blocks.proofs.block_cell.Goals as goal

-- what the sums are below
record Low (s j : ℕ) : Type 0 where
  y_row : (j / 2 % 2 + 2 * (j / 16 % 2)) * s ≤ 192
  z_row : (j / 4 % 2 + 2 * (j / 32 % 2)) * s ≤ 192
  z_layer : (j / 4 % 2 + 2 * (j / 32 % 2)) * s * s ≤ 12288

low : (s j : ℕ) → s ≤ 64 → Low s j
low s j h =
    let y : j / 2 % 2 + 2 * (j / 16 % 2) ≤ 3 = omega arith in
    let z : j / 4 % 2 + 2 * (j / 32 % 2) ≤ 3 = omega arith in
    let r = mul-le-mul z h in
    record { y_row = mul-le-mul y h; z_row = r; z_layer = mul-le-mul r h }

pub overflow_mul-result : goal.overflow_mul-result
overflow_mul-result c = let l = low c.args.size c.args.j c.requires in let a = l.y_row in omega arith

pub overflow_add-result : goal.overflow_add-result
overflow_add-result c = let l = low c.args.size c.args.j c.requires in let a = l.y_row in omega arith

pub overflow_mul-result-2 : goal.overflow_mul-result-2
overflow_mul-result-2 c = let l = low c.args.size c.args.j c.requires in let a = l.z_row in omega arith

pub overflow_mul-result-3 : goal.overflow_mul-result-3
overflow_mul-result-3 c = let l = low c.args.size c.args.j c.requires in let a = l.z_layer in omega arith

pub overflow_add-result-2 : goal.overflow_add-result-2
overflow_add-result-2 c = let l = low c.args.size c.args.j c.requires in let a = l.y_row in let b = l.z_layer in omega arith

pub returns : goal.returns
returns c = block_bits c.args.size c.args.j
