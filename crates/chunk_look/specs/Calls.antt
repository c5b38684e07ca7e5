-- What each call that looks at bare cells answers (SCOPE 5.3). The contracts cite these definitions. Assumes nothing.
use Rattle.std.specs.Prelude.{◌≡◌, ℕ, zero, suc, ◌*◌, List, [], ◌∷◌, eqb, length, get_or}
use Rattle.grid.specs.Cube.{cell_index}
use Rattle.grid.specs.Count.{non_air_count}
use Rattle.std.proofs.Common.{sym}
use Rattle.config.specs.Answers.{Answer, accepted, refused_with, never_both, unless_refused}
use Rattle.chunk.specs.Replies.{yes}
use Rattle.chunk.specs.Tests.{chunk_refusal, cell_refusal}

-- the id of a cell
unfoldable pub chunk_get_does : ℕ → List ℕ → ℕ → ℕ → ℕ → Answer
chunk_get_does size c x y z = unless_refused (cell_refusal size (length c) x y z) (accepted (get_or c (cell_index size x y z) 0 ∷ [])) refused_with

-- whether it is air
unfoldable pub chunk_is_air_does : ℕ → List ℕ → ℕ → ℕ → ℕ → Answer
chunk_is_air_does size c x y z =
    unless_refused (cell_refusal size (length c) x y z) (accepted (yes (eqb (get_or c (cell_index size x y z) 0) 0) ∷ [])) refused_with

-- by what the first answers of the cell
module _ (size : ℕ) (c : List ℕ) (x y z : ℕ) where
  pub air_where : (id : ℕ) → accepted (id ∷ []) ≡ chunk_get_does size c x y z → accepted (yes (eqb id 0) ∷ []) ≡ chunk_is_air_does size c x y z
  unfolding chunk_get_does chunk_is_air_does
  air_where id = at (cell_refusal size (length c) x y z) (get_or c (cell_index size x y z) 0)
    where
      at : (n v : ℕ) → accepted (id ∷ []) ≡ unless_refused n (accepted (v ∷ [])) refused_with
          → accepted (yes (eqb id 0) ∷ []) ≡ unless_refused n (accepted (yes (eqb v 0) ∷ [])) refused_with
      at zero v e = let q : id ≡ v = cc in rw q
      at (suc n) v e = absurd (never_both (id ∷ []) (suc n) 0 e)

  pub no_air_where : (k : ℕ) → refused_with k ≡ chunk_get_does size c x y z → refused_with k ≡ chunk_is_air_does size c x y z
  unfolding chunk_get_does chunk_is_air_does
  no_air_where k = at (cell_refusal size (length c) x y z) (get_or c (cell_index size x y z) 0)
    where
      at : (n v : ℕ) → refused_with k ≡ unless_refused n (accepted (v ∷ [])) refused_with
          → refused_with k ≡ unless_refused n (accepted (yes (eqb v 0) ∷ [])) refused_with
      at zero v e = absurd (never_both (v ∷ []) k 0 (sym e))
      at (suc n) v e = e

-- whether all are air, and whether none is
unfoldable pub chunk_is_empty_does : ℕ → List ℕ → Answer
chunk_is_empty_does size c = unless_refused (chunk_refusal size (length c)) (accepted (yes (eqb (non_air_count c) 0) ∷ [])) refused_with

unfoldable pub chunk_is_solid_does : ℕ → List ℕ → Answer
chunk_is_solid_does size c = unless_refused (chunk_refusal size (length c)) (accepted (yes (eqb (non_air_count c) (size * size * size)) ∷ [])) refused_with
