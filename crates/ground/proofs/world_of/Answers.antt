-- `ground::world_of` meets its contract. Assumes nothing.
use Rattle.std.proofs.Common.{◌≡◌, ◌≤◌, ℤ, pos, ◌-ℤ◌, sym, ap, ◌∙◌, subst, arith, w32, SFits, to_z, of_z}
use lib.Signed.{mag}
use lib.Ieee.{Float, of_bits}
use mir.ValLaws.{to_z-of_z}
use Rattle.basics.specs.Paths.{ap₃}
use Rattle.num_core.specs.Num.{nearest}
use Rattle.column.specs.Floats.{◌*f◌, nat}
use Rattle.config.specs.Limits.{Between}
use Rattle.basics.specs.Integers.{one_less}
use Rattle.basics.specs.Words.{again, back}
use Rattle.ground.specs.Ground.{world_with, world_of}
use Rattle.ground.proofs.world_of.Goals as goal

-- a height within its limits, and one below it, as 32 bits hold them
module _ (h : ℤ) (b : Between 2 4096 h) where
  same : to_z w32 (of_z w32 h) ≡ h
  same = let m = b.most in back h (subst (λ (u : ℤ). mag u ≤ 1000000) (sym b.is) (omega arith))

  below : SFits w32 (h -ℤ pos 1)
  below =
      let l = b.least in
      let m = b.most in
      subst (SFits w32) (sym (ap (λ (z : ℤ). z -ℤ pos 1) b.is ∙ one_less b.n (omega arith))) (record { sfits = omega arith })

pub overflow_sub-result : goal.overflow_sub-result
overflow_sub-result c =
    let h = c.args.config.world_height_blocks in
    subst (λ (u : ℤ). SFits w32 (u -ℤ pos 1)) (sym (same h c.requires.0)) (below h c.requires.0)

pub returns : goal.returns
unfolding world_of nearest of_bits
returns c =
    let a = c.args.config in
    let h = a.world_height_blocks in
    let sm : mag a.sea_level ≤ 1000000 = (let q = c.requires.1 in omega arith) in
    ap₃ (λ (f : Float) (u v : ℤ). world_with (f *f nat 1000) u v) c.nearest_u32_to_f32-seed_offset.ensures (back a.sea_level sm)
    (ap (again w32) (ap (λ (u : ℤ). u -ℤ pos 1) (same h c.requires.0)) ∙ to_z-of_z w32 (h -ℤ pos 1) (below h c.requires.0))
