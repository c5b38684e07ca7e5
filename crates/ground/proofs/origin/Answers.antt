-- `ground::origin` meets its contract. Assumes nothing.
use Rattle.std.proofs.Common.{◌≡◌, ℤ, pos, ◌*ℤ◌, sym, ap, ◌∙◌, subst, ap₂, arith, w32, w64, SFits, to_z, of_z}
use mir.ValLaws.{to_z-of_z, to_z_pos}
use Rattle.basics.specs.Words.{widened, widen_fits, widen_same, again, back}
use Rattle.ground.proofs.origin.Goals.{Start}
use Rattle.ground.proofs.origin.Goals as goal

raw : (c : Start) → widened c.args.c *ℤ to_z w64 c.args.size ≡ c.args.c *ℤ pos c.args.size
raw c = ap₂ ◌*ℤ◌ (widen_same c.args.c c.ranges.c) (to_z_pos w64 c.args.size (let g = c.requires.0 in omega arith))

product_fits : (c : Start) → SFits w64 (c.args.c *ℤ pos c.args.size)
product_fits c = record { sfits = (let g = c.requires.1 in omega arith) }

product : (c : Start) → to_z w64 (of_z w64 (widened c.args.c *ℤ to_z w64 c.args.size)) ≡ c.args.c *ℤ pos c.args.size
product c = ap (λ (u : ℤ). to_z w64 (of_z w64 u)) (raw c) ∙ to_z-of_z w64 (c.args.c *ℤ pos c.args.size) (product_fits c)

pub overflow_cast-result : goal.overflow_cast-result
overflow_cast-result c = widen_fits c.args.c c.ranges.c

pub overflow_mul-result : goal.overflow_mul-result
overflow_mul-result c = subst (SFits w64) (sym (raw c)) (product_fits c)

pub overflow_cast-result-3 : goal.overflow_cast-result-3
overflow_cast-result-3 c = subst (SFits w32) (sym (product c)) (record { sfits = (let g = c.requires.1 in omega arith) })

pub returns : goal.returns
returns c = ap (again w32) (product c) ∙ back (c.args.c *ℤ pos c.args.size) c.requires.1
