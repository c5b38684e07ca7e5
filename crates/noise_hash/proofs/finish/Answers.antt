-- `finish` meets its contract. Assumes nothing.
use mathlib.Core.Path.{ap, ap₂, ◌∙◌}
use lib.IntN.{ℤ, pos}
use mir.Syntax.{w32}
use mir.ValLaws.{to_z-of_z}
use Rattle.num_core.specs.Wrap.{mul_w, add_w, fold_w, low31}
use Rattle.noise_hash.specs.Hash.{unit31}
use Rattle.basics.specs.Words.{read}
use Rattle.noise_hash.proofs.finish.Goals as goal

pub returns : goal.returns
returns c =
    let e5 = c.wrapping_add.ensures ∙ ap (λ (u : ℤ). add_w u (pos 1376312589)) (to_z-of_z w32 c.args.sum c.ranges.sum) in
    let e4 = c.fold-h.ensures ∙ ap (fold_w 13) (read w32 c.wrapping_add.type_inv e5) in
    let e3 = c.wrapping_mul.ensures ∙ ap₂ mul_w (read w32 c.fold-h.type_inv e4) (to_z-of_z w32 c.args.by c.ranges.by) in
    let e2 = c.fold.ensures ∙ ap (fold_w 16) (read w32 c.wrapping_mul.type_inv e3) in
    c.unit.ensures ∙ ap unit31 (c.low_bits.ensures ∙ ap low31 (read w32 c.fold.type_inv e2))
