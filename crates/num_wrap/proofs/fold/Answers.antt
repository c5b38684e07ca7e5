-- `num_wrap::fold` meets its contract. Assumes nothing.
use Rattle.std.proofs.Common.{◌^◌, ℤ, ap, w32, to_z, of_z}
use lib.Bits.{bit_xor}
use lib.Signed.{shr_z}
use Rattle.num_wrap.specs.Wrap.{fold_w}
use mir.ValLaws.{to_z-of_z}
use Rattle.num_wrap.proofs.fold.Goals as goal

pub returns : goal.returns
unfolding fold_w
returns g c =
    ap (λ (u : ℤ). to_z w32 (bit_xor (of_z w32 c.args.h) (of_z w32 (shr_z u (2 ^ g.row.K))))) (to_z-of_z w32 c.args.h c.ranges.h)
