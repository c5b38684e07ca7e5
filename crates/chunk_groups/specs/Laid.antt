-- The cells of a chunk with the first groups of a batch laid on (SCOPE 5.6), and what a cell holds then. Assumes nothing.
use Rattle.std.specs.Prelude.{◌≡◌, refl, true, false, ◌&&◌, List, [], ◌∷◌, ℕ, zero, suc, ◌+◌, ◌*◌, ◌/◌, ◌%◌, ◌≤◌, ltb, length, set, drop}
use Rattle.std.proofs.Common.{sym, ap, ◌∙◌, arith, get_or-set_same, get_or-set_other}
use Rattle.std.proofs.lemmas.Bool.{false≢true}
use Rattle.std.proofs.Math.Dec.{eqb}
use borrow.Author.Tests.{ltb-true, ltb-false, eqb-true, eq-eqb}
use Rattle.basics.specs.Bools.{pick, by_bool, and_both}
use Rattle.grid.specs.Cube.{Cube, cell_index, inside, put_at, see_at, steps}
use Rattle.grid.specs.Grid.{index_lt, index_x, index_y, index_z, out_x, out_y, out_z, put_length, steps_length, steps_none, steps_more}
use Rattle.chunk.specs.Tests.{Inside}
use Rattle.chunk.specs.Moves.{put_inside, see_inside}
use Rattle.grid_edits.specs.Edits.{Group, batch_groups, group_inside, inside_groups, put_group, batch_cells}
use Rattle.journal_write.specs.Groups.{group_of, groups_last}
use Rattle.journal_write.proofs.Groups.{groups_step}

-- the first k groups of the batch ns
unfoldable pub laid : ℕ → List ℕ → ℕ → List ℕ → List ℕ
laid size ns k c = steps k (λ (j : ℕ). λ (d : List ℕ). put_group size (group_of ns (4 * j)) d) c

pub laid_none : (size : ℕ) (ns : List ℕ) (c : List ℕ) → c ≡ laid size ns 0 c
unfolding laid
laid_none size ns c = steps_none _ c

pub laid_more : (size : ℕ) (ns : List ℕ) (k : ℕ) (c : List ℕ) → put_group size (group_of ns (4 * k)) (laid size ns k c) ≡ laid size ns (k + 1) c
unfolding laid
laid_more size ns k c = steps_more k (λ (j : ℕ). λ (d : List ℕ). put_group size (group_of ns (4 * j)) d) c

pub laid_length : (size : ℕ) (ns : List ℕ) (k : ℕ) (c : List ℕ) → length (laid size ns k c) ≡ length c
unfolding laid
laid_length size ns k c =
    steps_length k (λ (j : ℕ). λ (d : List ℕ). put_group size (group_of ns (4 * j)) d) c
    (λ j d. put_length size (group_of ns (4 * j)).x (group_of ns (4 * j)).y (group_of ns (4 * j)).z (group_of ns (4 * j)).id d)

pub laid_cube : (size : ℕ) (ns : List ℕ) (k : ℕ) (c : List ℕ) → Cube size c → Cube size (laid size ns k c)
laid_cube size ns k c h = record { most = h.most; all = laid_length size ns k c ∙ h.all }

-- ---- all groups

-- what is laid and what is left to lay make the whole
rest : (size : ℕ) (ns : List ℕ) (k : ℕ) (c : List ℕ) → 4 * k ≤ length ns
    → batch_cells size (batch_groups (drop (4 * k) ns)) (laid size ns k c) ≡ batch_cells size (batch_groups ns) c
unfolding laid steps batch_cells
rest size ns zero c h = refl
rest size ns (suc k) c h =
    let d : List ℕ = laid size ns k c in
    let e : 4 * suc k ≡ 4 * k + 4 = omega arith in
    ap (λ (i : ℕ). batch_cells size (batch_groups (drop i ns)) (put_group size (group_of ns (4 * k)) d)) e
    ∙ sym (ap (λ (gs : List Group). batch_cells size gs d) (groups_step ns (4 * k) (omega arith)))
    ∙ rest size ns k c (omega arith)

-- groups outside change nothing
outside_false : (size : ℕ) (g : Group) → group_inside size g ≡ false → inside size g.x g.y g.z ≡ false
outside_false size g e =
    by_bool (ltb g.x size)
    (λ p. by_bool (ltb g.y size)
    (λ q. by_bool (ltb g.z size)
    (λ r. absurd (false≢true (sym e ∙ rw (p, q, r))))
    (λ r. out_z size g.x g.y g.z (ltb-true _ _ p) (ltb-true _ _ q) (ltb-false _ _ r)))
    (λ q. out_y size g.x g.y g.z (ltb-true _ _ p) (ltb-false _ _ q)))
    (λ p. out_x size g.x g.y g.z (ltb-false _ _ p))

pub put_outside : (size : ℕ) (g : Group) (c : List ℕ) → group_inside size g ≡ false → put_group size g c ≡ c
unfolding put_at
put_outside size g c e = rw (outside_false size g e)

-- group k laid on, by itself: one in the chunk, and one outside
pub laid_group : (size : ℕ) (ns : List ℕ) (k : ℕ) (c : List ℕ) (g : Group) → g ≡ group_of ns (4 * k)
    → put_group size g (laid size ns k c) ≡ laid size ns (k + 1) c
laid_group size ns k c g e = ap (λ (a : Group). put_group size a (laid size ns k c)) e ∙ laid_more size ns k c

pub laid_outside : (size : ℕ) (ns : List ℕ) (k : ℕ) (c : List ℕ) (g : Group) → g ≡ group_of ns (4 * k) → group_inside size g ≡ false
    → laid size ns k c ≡ laid size ns (k + 1) c
laid_outside size ns k c g e i = sym (put_outside size g (laid size ns k c) i) ∙ laid_group size ns k c g e

inside_same : (size : ℕ) (gs : List Group) (c : List ℕ) → batch_cells size gs c ≡ batch_cells size (inside_groups size gs) c
unfolding batch_cells inside_groups
inside_same size [] c = refl
inside_same size (g ∷ gs) c =
    by_bool (group_inside size g)
    (λ e. rw e (inside_same size gs (put_group size g c)))
    (λ e. rw e (ap (batch_cells size gs) (put_outside size g c e) ∙ inside_same size gs c))

-- a batch laid on whole
pub laid_all : (size : ℕ) (ns : List ℕ) (k : ℕ) (c : List ℕ) → k ≡ length ns / 4 → laid size ns k c ≡ batch_cells size (inside_groups size (batch_groups ns)) c
unfolding batch_cells
laid_all size ns k c e =
    sym (ap (λ (gs : List Group). batch_cells size gs (laid size ns k c)) (groups_last ns (4 * k) (omega arith)))
    ∙ rest size ns k c (omega arith)
    ∙ inside_same size (batch_groups ns) c

-- ---- one cell

-- the id of cell (x, y, z) once a group is laid on, where it was v
unfoldable pub id_over : Group → ℕ → ℕ → ℕ → ℕ → ℕ
id_over g x y z v = pick (eqb g.x x && (eqb g.y y && eqb g.z z)) g.id v

-- two cells in the chunk have one place only where they are one cell
index_one :
    (s x y z x' y' z' : ℕ) → Inside s x y z → Inside s x' y' z' → cell_index s x y z ≡ cell_index s x' y' z'
    → (eqb x' x && (eqb y' y && eqb z' z)) ≡ true
index_one s x y z x' y' z' h k e =
    let p : x' ≡ x = sym (index_x s x' y' z' k.x_in) ∙ sym (ap (λ (i : ℕ). i % s) e) ∙ index_x s x y z h.x_in in
    let q : y' ≡ y = sym (index_y s x' y' z' k.x_in k.y_in) ∙ sym (ap (λ (i : ℕ). i / s % s) e) ∙ index_y s x y z h.x_in h.y_in in
    let r : z' ≡ z = sym (index_z s x' y' z' k.x_in k.y_in) ∙ sym (ap (λ (i : ℕ). i / s / s) e) ∙ index_z s x y z h.x_in h.y_in in
    rw (eq-eqb x' x p, eq-eqb y' y q, eq-eqb z' z r)

pub group_inside_lem : (size : ℕ) (g : Group) → group_inside size g ≡ true → Inside size g.x g.y g.z
group_inside_lem size g e =
    let a = and_both (ltb g.x size) _ e in
    let b = and_both (ltb g.y size) _ a.1 in
    record { x_in = ltb-true _ _ a.0; y_in = ltb-true _ _ b.0; z_in = ltb-true _ _ b.1 }

module _ (s x y z : ℕ) (d : List ℕ) (l : length d ≡ s * s * s) (h : Inside s x y z) where
  see_same : (v : ℕ) → see_at s x y z (put_at s x y z v d) ≡ v
  see_same v =
      ap (see_at s x y z) (put_inside s x y z v d h)
      ∙ see_inside s x y z (set d (cell_index s x y z) v) h
      ∙ get_or-set_same d (cell_index s x y z) v 0 (let i = index_lt s x y z h.x_in h.y_in h.z_in in omega arith)

  see_other : (g : Group) → (eqb g.x x && (eqb g.y y && eqb g.z z)) ≡ false → see_at s x y z (put_group s g d) ≡ see_at s x y z d
  see_other g e =
      by_bool (group_inside s g)
      (λ i. let k = group_inside_lem s g i in
      ap (see_at s x y z) (put_inside s g.x g.y g.z g.id d k)
      ∙ see_inside s x y z (set d (cell_index s g.x g.y g.z) g.id) h
      ∙ get_or-set_other d (cell_index s g.x g.y g.z) (cell_index s x y z) g.id 0
      (λ q. false≢true (sym e ∙ index_one s x y z g.x g.y g.z h k q))
      ∙ sym (see_inside s x y z d h))
      (λ i. ap (see_at s x y z) (put_outside s g d i))

  -- the latest group on a cell says what it holds
  pub see_put : (g : Group) → see_at s x y z (put_group s g d) ≡ id_over g x y z (see_at s x y z d)
  unfolding id_over
  see_put g =
      by_bool (eqb g.x x && (eqb g.y y && eqb g.z z))
      (λ e.
      let a = and_both (eqb g.x x) _ e in
      let b = and_both (eqb g.y y) _ a.1 in
      rw (e, eqb-true g.x x a.0, eqb-true g.y y b.0, eqb-true g.z z b.1) (see_same g.id))
      (λ e. rw e (see_other g e))
