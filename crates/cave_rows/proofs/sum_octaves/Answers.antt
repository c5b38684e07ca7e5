use mathlib.Core.Path.{◌≡◌, refl, sym, ap, ap₂, ◌∙◌}
use mathlib.Core.List.{List}
use Prim.Native.Nat.{ℕ, ◌+◌}
use native.Mathlib.Omega.{arith}
use lib.Ieee.{Float, nan, of_bits}
use lib.ListN.{get_or-replicate}
use Rattle.std.proofs.Common.{add-one}
use Rattle.num_core.specs.Num.{nearest}
use Rattle.column.specs.Floats.{◌+f◌, ◌*f◌}
use Rattle.noise_layers.specs.Layers.{row_more}
use Rattle.cave_rows.specs.Fields.{one_of, amp_at, sum_of}
use Rattle.cave_rows.proofs.sum_octaves.Goals as goal

-- one octave more
sum_more : (k o y z : ℕ) (eases edges : List Float) (i : ℕ)
    → sum_of (k + 1) o y z eases edges i ≡ sum_of k o y z eases edges i +f one_of (o + k) y z eases edges i *f amp_at k
unfolding sum_of
sum_more k o y z eases edges i = rw add-one

amp_more : (k : ℕ) → amp_at (k + 1) ≡ amp_at k *f nearest 1 2
unfolding amp_at
amp_more k = rw add-one

pub loop-k-init : goal.loop-k-init
unfolding sum_of amp_at nearest of_bits
loop-k-init c = record {
  row = record { long = omega arith; holds = λ (i : ℕ) h. get_or-replicate 64 i _ nan (omega arith) };
  half = refl;
}

pub loop-k-preserved : goal.loop-k-preserved
unfolding row_more nearest of_bits
loop-k-preserved c =
    let a = c.args in
    let l = c.loop-k in
    let r = c.add_row.ensures in
    record {
      row = record {
        long = r.long;
        holds = λ (i : ℕ) h.
            r.holds i h
            ∙ ap₂ (λ (u v : Float). u +f one_of (a.o + l.k) a.y a.z a.eases.now a.edges.now i *f v) (l.invariant.row.holds i h) l.invariant.half
            ∙ sym (sum_more l.k a.o a.y a.z a.eases.now a.edges.now i);
      };
      half = ap (λ (u : Float). u *f nearest 1 2) l.invariant.half ∙ sym (amp_more l.k);
    }
