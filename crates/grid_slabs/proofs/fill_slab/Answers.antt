-- What `fill` wrote over the slab's cells is the block, and the cells before and behind stay. Assumes nothing.
use Rattle.std.proofs.Common.{◌≡◌, ℕ, ◌+◌, ◌*◌, ◌≤◌, List, length, replicate, arith, rules}
use Rattle.std.proofs.lemmas.List.{places}
use borrow.Rule.Slice.PartMut.{put_mid}
use Rattle.grid.specs.Cube.{all_of}
use Rattle.grid_slabs.specs.Filled.{Filled, slab_clip}
use Rattle.grid_slabs.specs.Parts.{slab_end}
use Rattle.grid_slabs.proofs.fill_slab.Goals as goal

filled : (n from k m id : ℕ) (c v : List ℕ) → length c ≡ n → from + k ≤ n → m ≡ k → v ≡ replicate m id
    → Filled (λ (j : ℕ). id) n from (from + k) c (put_mid from m c v)
filled n from k m id c v l h d e = rw (e, d) record {
  all = search (rules, places);
  each = λ i p t. search (rules, places);
  kept = λ i t. search (rules, places);
}

pub returns : goal.returns
unfolding all_of
returns c =
    let a = c.args in
    let r = c.requires in
    let n = a.size * a.size * a.size in
    slab_clip (λ (j : ℕ). a.id) a.size a.z a.cells.now _ r.0
    (filled n (a.z * (a.size * a.size)) (a.size * a.size) _ a.id a.cells.now _ r.1.all (slab_end a.size a.z r.0) (omega arith) (search rules))
