-- `ground_boulders::boulder_column` meets its contract. Assumes nothing.
use mathlib.Core.Path.{◌≡◌, sym, subst}
use Prim.Native.Nat.{◌≤◌}
use mathlib.Core.Bool.{true}
use lib.IntN.{ℤ}
use lib.Signed.{mag}
use lib.Ieee.{Float}
use Rattle.basics.specs.Words.{back}
use Rattle.ground_cell.specs.World.{Near}
use Rattle.ground_boulders.specs.Signs.{plus, hash2_plus}
use Rattle.ground_boulders.specs.Boulders.{boulder_hash}
use Rattle.ground_boulders.proofs.boulder_column.Goals as goal

pub boulder_at-requires : goal.boulder_at-requires
unfolding boulder_hash
boulder_at-requires c =
    let o = c.args.o in
    let p : Near o = c.requires.1 in
    let h : plus c.boulder_hash-h.result ≡ true =
    subst (λ (f : Float). plus f ≡ true) (sym c.boulder_hash-h.ensures) (hash2_plus _ _) in
    (c.requires.0, subst (λ (u : ℤ). mag u ≤ 1000000) (sym (back o.oy p.y)) p.y, c.requires.2, h)
