-- `hash2` meets its contract. Assumes nothing.
use mathlib.Core.Path.{ap, ap₂, ◌∙◌}
use lib.IntN.{ℤ, pos}
use mir.Syntax.{w32}
use mir.ValLaws.{to_z-of_z}
use Rattle.num_core.specs.Wrap.{mul_w, add_w, fold_w, low31}
use Rattle.noise_hash.specs.Hash.{unit31, mix2, hash2₃₂}
use Rattle.basics.specs.Words.{read}
use Rattle.noise_hash.proofs.hash2.Goals as goal

pub returns : goal.returns
unfolding hash2₃₂ mix2
returns c =
    let ex = c.wrapping_mul.ensures ∙ ap (λ (u : ℤ). mul_w u (pos 374761393)) (to_z-of_z w32 c.args.x c.ranges.x) in
    let ey = c.wrapping_mul-2.ensures ∙ ap (λ (u : ℤ). mul_w u (pos 668265263)) (to_z-of_z w32 c.args.y c.ranges.y) in
    let e = c.wrapping_add-sum.ensures ∙ ap₂ add_w (read w32 c.wrapping_mul.type_inv ex) (read w32 c.wrapping_mul-2.type_inv ey) in
    c.finish.ensures
    ∙ ap (λ (u : ℤ). unit31 (low31 (fold_w 16 (mul_w (fold_w 13 (add_w u (pos 1376312589))) (pos 1274126177))))) (read w32 c.wrapping_add-sum.type_inv e)
