-- A group that repeats its cell's id is written (SCOPE 5.6, 13). Assumes nothing.
use Rattle.std.specs.Prelude.{◌≡◌, List, [], ◌∷◌, ℕ, ◌+◌, ◌-◌, ◌*◌, ◌%◌, ◌≤◌, ◌<◌, length, set}
use Rattle.std.proofs.Math.Path.{refl, sym, ap}
use Rattle.std.proofs.Common.{◌∙◌, mod-eq_of_lt}
use native.Mathlib.Omega.{arith}
use Rattle.std.proofs.lemmas.List.{set-get_or}
use borrow.Author.Tests.{lt-ltb}
use Rattle.config.specs.Answers.{accepted, cells_outcome}
use Rattle.grid.specs.Cube.{cell_index, see_at}
use Rattle.chunk.specs.Tests.{Inside, chunk_refusal, count_refusal, count_pass}
use Rattle.chunk.specs.Calls.{edited}
use Rattle.chunk.specs.Moves.{put_inside, see_inside, edit_done}
use Rattle.grid_edits.specs.Edits.{group, batch_groups, inside_groups, put_group, batch_cells}
use Rattle.chunk_batch.specs.Calls.{groups_do, chunk_batch_does}

-- a count that no edit moves is right where it fits the chunk
count_kept : (size count : ℕ) → count ≤ size * size * size → count_refusal size count 0 0 ≡ 0
count_kept size count h = count_pass size count 0 0 h (omega arith) (omega arith)

module _ (size count x y z : ℕ) (c : List ℕ) (i : Inside size x y z) where
  -- a cell's own id put into it
  put_own : (v : ℕ) → v ≡ see_at size x y z c → put_group size (group x y z v) c ≡ c
  put_own v e =
      put_inside size x y z v c i
      ∙ ap (set c (cell_index size x y z)) (e ∙ see_inside size x y z c i)
      ∙ set-get_or c (cell_index size x y z) 0

  one_inside : (v : ℕ) → inside_groups size (group x y z v ∷ []) ≡ group x y z v ∷ []
  unfolding inside_groups
  one_inside v = rw (lt-ltb x size i.x_in, lt-ltb y size i.y_in, lt-ltb z size i.z_in)

  one_group : (v : ℕ) → v ≡ see_at size x y z c → chunk_refusal size (length c) ≡ 0 → count ≤ size * size * size
      → groups_do size count c (group x y z v ∷ []) ≡ cells_outcome (accepted (1 ∷ count ∷ [])) c
  unfolding batch_cells
  one_group v e n h =
      let f : count + 0 - 0 ≡ count = omega arith in
      ap (edited (chunk_refusal size (length c)) size count (1 ∷ []) c) (put_own v e)
      ∙ sym (edit_done (chunk_refusal size (length c)) size count (1 ∷ []) c c 0 0 n refl 0 (sym (count_kept size count h)) refl)
      ∙ ap (λ (k : ℕ). cells_outcome (accepted (1 ∷ k ∷ [])) c) f

  -- a group that puts into a cell the id that it holds is written, though neither cells nor count change
  pub equal_written : see_at size x y z c < 65536 → chunk_refusal size (length c) ≡ 0 → count ≤ size * size * size
      → chunk_batch_does size count c (x ∷ y ∷ z ∷ see_at size x y z c ∷ []) ≡ cells_outcome (accepted (1 ∷ count ∷ [])) c
  unfolding chunk_batch_does batch_groups
  equal_written w n h =
      ap (groups_do size count c) (one_inside (see_at size x y z c % 65536))
      ∙ one_group (see_at size x y z c % 65536) (mod-eq_of_lt w) n h
