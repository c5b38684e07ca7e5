-- `num_wrap::low_bits` meets its contract. Assumes nothing.
use Rattle.std.proofs.Common.{ℕ, ◌%◌, ◌^◌, ap, ◌∙◌, w32, of_z}
use lib.Bits.{and_mask}
use Rattle.num_wrap.specs.Wrap.{low31}
use mir.ValLaws.{to_z-of_z}
use Rattle.num_wrap.proofs.low_bits.Goals as goal

pub returns : goal.returns
unfolding low31
returns c =
    and_mask c.cast_unsigned.result 31
    ∙ ap (λ (x : ℕ). x % 2 ^ 31) (c.cast_unsigned.ensures ∙ ap (of_z w32) (to_z-of_z w32 c.args.h c.ranges.h))
