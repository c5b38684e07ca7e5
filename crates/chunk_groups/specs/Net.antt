-- By how much an edit moves the non-air count (SCOPE 5.10). Assumes nothing.
use Rattle.std.specs.Prelude.{◌≡◌, true, false, List, ℕ, ◌+◌, ◌*◌, ◌/◌, ◌≤◌, length}
use Rattle.std.proofs.Common.{ap, arith}
use Rattle.grid.specs.Cube.{Cube, see_at}
use Rattle.grid.specs.Count.{non_air, non_air_count, non_air_most}
use Rattle.chunk.specs.Moves.{put_count}
use Rattle.grid_edits.specs.Edits.{Group, group_inside, batch_groups, inside_groups, batch_cells}
use Rattle.journal_write.specs.Groups.{group_of}
use Rattle.chunk_groups.specs.Laid.{laid, laid_none, laid_group, laid_outside, laid_cube, laid_all, group_inside_lem}
use Rattle.chunk_groups.specs.declared.Change.{Change}

-- from cells c to cells d the nonzero ones go as from before to after, both at most m
pub record Net (c d : List ℕ) (m : ℕ) (r : Change) : Type 0 where
  pub moves : non_air_count d + r.before ≡ non_air_count c + r.after
  pub most_before : r.before ≤ m
  pub most_after : r.after ≤ m

abbrev pub change : ℕ → ℕ → Change
change before after = record { before = before; after = after }

-- a group outside changes nothing
pub net_outside : (size : ℕ) (ns : List ℕ) (k : ℕ) (c : List ℕ) (g : Group) → g ≡ group_of ns (4 * k) → group_inside size g ≡ false
    → Net (laid size ns k c) (laid size ns (k + 1) c) 1 (change 0 0)
net_outside size ns k c g e i =
    let f = ap non_air_count (laid_outside size ns k c g e i) in
    record { moves = omega arith; most_before = omega arith; most_after = omega arith }

-- a group in the chunk takes its cell from what it holds to the group's id
pub net_inside : (size : ℕ) (ns : List ℕ) (k : ℕ) (c : List ℕ) (g : Group) (r : Change) → g ≡ group_of ns (4 * k) → group_inside size g ≡ true → Cube size c
    → r.before ≡ non_air (see_at size g.x g.y g.z (laid size ns k c)) → r.after ≡ non_air g.id
    → Net (laid size ns k c) (laid size ns (k + 1) c) 1 r
net_inside size ns k c g r e i h p q =
    let d : List ℕ = laid size ns k c in
    let f = ap non_air_count (laid_group size ns k c g e) in
    let m = put_count size g.x g.y g.z g.id d (laid_cube size ns k c h).all (group_inside_lem size g i) in
    let a = non_air_most (see_at size g.x g.y g.z d) in
    let b = non_air_most g.id in
    record { moves = omega arith; most_before = omega arith; most_after = omega arith }

-- ---- group after group

pub net_none : (size : ℕ) (ns c : List ℕ) → Net c (laid size ns 0 c) 0 (change 0 0)
net_none size ns c =
    let e = ap non_air_count (laid_none size ns c) in record { moves = omega arith; most_before = omega arith; most_after = omega arith }

pub net_then : (c d e : List ℕ) (m : ℕ) (q r : Change) → Net c d m q → Net d e 1 r → Net c e (m + 1) (change (q.before + r.before) (q.after + r.after))
net_then c d e m q r a b =
    record {
      moves = omega (arith, a.moves, b.moves);
      most_before = omega (arith, a.most_before, b.most_before);
      most_after = omega (arith, a.most_after, b.most_after);
    }

pub net_all : (size : ℕ) (ns : List ℕ) (k : ℕ) (c : List ℕ) (r : Change) → k ≡ length ns / 4
    → Net c (laid size ns k c) k r → Net c (batch_cells size (inside_groups size (batch_groups ns)) c) (length ns / 4) r
net_all size ns k c r e n =
    let f = ap non_air_count (laid_all size ns k c e) in
    record {
      moves = omega (arith, n.moves);
      most_before = omega (arith, n.most_before);
      most_after = omega (arith, n.most_after);
    }
