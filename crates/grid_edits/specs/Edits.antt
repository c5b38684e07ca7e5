-- What an edit does to a chunk's cells (SCOPE 5.4 to 5.6). Assumes nothing.
use Rattle.std.specs.Prelude.{ℕ, ◌%◌, Bool, ◌&&◌, List, [], ◌∷◌, ltb}
use Rattle.grid.specs.Cube.{put_at, steps}
use Rattle.basics.specs.Bools.{pick}

-- SCOPE 5.4: one cell; outside nothing changes, and the calls refuse it before
abbrev pub set_cells : ℕ → ℕ → ℕ → ℕ → ℕ → List ℕ → List ℕ
set_cells size x y z id c = put_at size x y z id c

-- SCOPE 5.5: how many cells are filled, at most the size, and 0 where x or z lies outside
unfoldable pub clipped_height : ℕ → ℕ → ℕ → ℕ → ℕ
clipped_height size x z height = pick (ltb x size) (pick (ltb z size) (pick (ltb height size) height size) 0) 0

-- the lowest h cells of a column, from y = 0 upward
unfoldable pub lay_column : ℕ → ℕ → ℕ → ℕ → ℕ → List ℕ → List ℕ
lay_column size x z h id c = steps h (λ (y : ℕ). λ (d : List ℕ). put_at size x y z id d) c

unfoldable pub fill_cells : ℕ → ℕ → ℕ → ℕ → ℕ → List ℕ → List ℕ
unfolding lay_column clipped_height
fill_cells size x z height id c = lay_column size x z (clipped_height size x z height) id c

-- One group of a batch.
pub record Group : Type 0 where
  pub x : ℕ
  pub y : ℕ
  pub z : ℕ
  pub id : ℕ

abbrev pub group : ℕ → ℕ → ℕ → ℕ → Group
group x y z id = record { x = x; y = y; z = z; id = id }

-- SCOPE 5.6: the numbers by fours, ids modulo 65,536; a rest of one to three is dropped
unfoldable pub batch_groups : List ℕ → List Group
batch_groups [] = []
batch_groups (x ∷ []) = []
batch_groups (x ∷ y ∷ []) = []
batch_groups (x ∷ y ∷ z ∷ []) = []
batch_groups (x ∷ y ∷ z ∷ id ∷ ns) = group x y z (id % 65536) ∷ batch_groups ns

abbrev pub group_inside : ℕ → Group → Bool
group_inside size g = ltb g.x size && (ltb g.y size && ltb g.z size)

-- those in the chunk
unfoldable pub inside_groups : ℕ → List Group → List Group
inside_groups size [] = []
inside_groups size (g ∷ gs) = pick (group_inside size g) (g ∷ inside_groups size gs) (inside_groups size gs)

abbrev pub put_group : ℕ → Group → List ℕ → List ℕ
put_group size g c = put_at size g.x g.y g.z g.id c

-- the groups laid on in their order
unfoldable pub batch_cells : ℕ → List Group → List ℕ → List ℕ
batch_cells size [] c = c
batch_cells size (g ∷ gs) c = batch_cells size gs (put_group size g c)
