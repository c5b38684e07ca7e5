-- SCOPE 12: each of the marked examples holds, by computation but for the listing and the low world. Assumes nothing.
use Rattle.std.specs.Prelude.{refl}
use Rattle.std.specs.Float.Ieee.{of_int, div, neg, to_signed}
use Rattle.num_core.specs.Wrap.{mod_z, wrap_w, mul_w}
use Rattle.num_core.specs.Num.{nearest, floor₃₂, to_i32}
use Rattle.noise.specs.Hash.{unit31}
use Rattle.marked_listing.specs.Listing.{listing_text, listing_printed}
use Rattle.marked_listing.proofs.Listing.{listing_printed_lem}
use Rattle.marked.proofs.Ground.{holds_d, holds_e, holds_f, holds_g, holds_h, holds_i, holds_j}
use Rattle.marked.specs.Example.{printed, AllHold, end, ◌and◌, both}
use Rattle.marked.specs.Marked.{rows_a, rows_b, rows_c, rows_k, rows_shift, table}

holds_a : AllHold rows_a
unfolding unit31 of_int div nearest
holds_a = refl and refl and refl and refl and end

holds_b : AllHold rows_b
unfolding floor₃₂ to_i32 to_signed of_int neg nearest
holds_b = refl and refl and refl and end

holds_c : AllHold rows_c
unfolding mul_w wrap_w mod_z
holds_c = refl and refl and end

holds_k : AllHold rows_k
holds_k = ◌and◌ {e = printed listing_printed listing_text} listing_printed_lem end

holds_shift : AllHold rows_shift
holds_shift = refl and refl and refl and refl and refl and end

-- every entry of the table holds
pub marked : AllHold table
marked =
    both holds_a
    (both holds_b
    (both holds_c
    (both holds_d
    (both holds_e
    (both holds_f
    (both holds_g
    (both holds_h
    (both holds_i
    (both holds_j
    (both holds_k holds_shift))))))))))
