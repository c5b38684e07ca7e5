-- `ground::frame_of` meets its contract. Assumes nothing.
use Rattle.std.proofs.Common.{ℤ, pos, ◌*ℤ◌, ap, ◌∙◌, arith, w32}
use mir.ValLaws.{to_z-of_z}
use Rattle.basics.specs.Words.{read}
use Rattle.basics.specs.Paths.{ap₃}
use Rattle.ground.specs.Ground.{frame_with, frame_of}
use Rattle.ground.proofs.frame_of.Goals as goal

pub returns : goal.returns
unfolding frame_of
returns c =
    let a = c.args in
    let size = a.config.chunk_size in
    ap₃ (λ (x y z : ℤ). frame_with x y z size)
    (read w32 c.origin-ox.type_inv (c.origin-ox.ensures ∙ ap (λ (u : ℤ). u *ℤ pos size) (to_z-of_z w32 a.pos.cx (record { sfits = omega arith }))))
    (read w32 c.origin-oy.type_inv (c.origin-oy.ensures ∙ ap (λ (u : ℤ). u *ℤ pos size) (to_z-of_z w32 a.pos.cy (record { sfits = omega arith }))))
    (read w32 c.origin-oz.type_inv (c.origin-oz.ensures ∙ ap (λ (u : ℤ). u *ℤ pos size) (to_z-of_z w32 a.pos.cz (record { sfits = omega arith }))))
