-- `ground_trees::tree::place_tree` meets its contract. Assumes nothing.
use mathlib.Core.Path.{◌≡◌, sym, subst}
use Prim.Native.Nat.{◌≤◌}
use mathlib.Core.Bool.{true}
use lib.IntN.{ℤ}
use lib.Signed.{mag}
use lib.Ieee.{Float}
use Rattle.basics.specs.Words.{back}
use Rattle.ground_trees.specs.Signs.{plus, hash2_plus}
use Rattle.ground_trees.specs.Features.{variety_of}
use Rattle.ground_trees.proofs.tree.place_tree.Goals as goal

pub plant-requires : goal.plant-requires
unfolding variety_of
plant-requires c =
    let a = c.args in
    let v : plus c.variety-v.result ≡ true =
    subst (λ (f : Float). plus f ≡ true) (sym c.variety-v.ensures) (hash2_plus _ _) in
    (c.requires.0, c.requires.1, c.requires.2, subst (λ (u : ℤ). mag u ≤ 1000000) (sym (back a.oy c.requires.3)) c.requires.3, c.requires.5, v)
