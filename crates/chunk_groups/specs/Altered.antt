-- How many cells the groups of a batch alter (SCOPE 5.11). Assumes nothing.
use Rattle.std.specs.Prelude.{◌≡◌, true, false, List, ℕ, ◌+◌, ◌*◌, ◌/◌, length}
use Rattle.std.proofs.Common.{sym, ap, ◌∙◌, arith}
use Rattle.grid.specs.Cube.{Cube, see_at}
use Rattle.grid.specs.Differing.{apart, differing, differing_same, differing_put}
use Rattle.grid_edits.specs.Edits.{Group, group_inside, batch_groups, inside_groups, batch_cells}
use Rattle.journal_write.specs.Groups.{group_of}
use Rattle.chunk_groups.specs.Laid.{laid, laid_none, laid_group, laid_outside, laid_cube, laid_all, group_inside_lem}

pub altered_none : (size : ℕ) (ns c : List ℕ) → 0 ≡ differing c (laid size ns 0 c)
altered_none size ns c = sym (differing_same c) ∙ ap (differing c) (laid_none size ns c)

-- a group outside alters nothing
pub altered_outside : (size : ℕ) (ns : List ℕ) (k : ℕ) (c : List ℕ) (g : Group) → g ≡ group_of ns (4 * k) → group_inside size g ≡ false
    → differing c (laid size ns k c) ≡ differing c (laid size ns (k + 1) c)
altered_outside size ns k c g e i = ap (differing c) (laid_outside size ns k c g e i)

-- a group in the chunk counts p where its id is not the one in c, instead of q where the id before it was not
pub altered_inside : (size : ℕ) (ns : List ℕ) (k : ℕ) (c : List ℕ) (g : Group) (p q : ℕ) → g ≡ group_of ns (4 * k) → group_inside size g ≡ true → Cube size c
    → p ≡ apart (see_at size g.x g.y g.z c) g.id
    → q ≡ apart (see_at size g.x g.y g.z c) (see_at size g.x g.y g.z (laid size ns k c))
    → differing c (laid size ns (k + 1) c) + q ≡ differing c (laid size ns k c) + p
altered_inside size ns k c g p q e i h ep eq =
    let d : List ℕ = laid size ns k c in
    let f = ap (differing c) (laid_group size ns k c g e) in
    let m = differing_put size g.x g.y g.z g.id c d h.all (laid_cube size ns k c h).all (group_inside_lem size g i) in
    omega arith

pub altered_all : (size : ℕ) (ns : List ℕ) (k : ℕ) (c : List ℕ) → k ≡ length ns / 4
    → differing c (laid size ns k c) ≡ differing c (batch_cells size (inside_groups size (batch_groups ns)) c)
altered_all size ns k c e = ap (differing c) (laid_all size ns k c e)
