-- What a tally says of its lists, whatever the order of the ids (SCOPE 5.9). Assumes nothing.
use Rattle.std.specs.Prelude.{◌≡◌, ℕ, ◌<◌, List, [], ◌∷◌, length, get_or, drop}
use Rattle.config.specs.Answers.{Answer, accepted, refused_with, unless_refused}
use Rattle.chunk_tally.specs.Ids.{id_count, present_ids}
use Rattle.chunk_tally.specs.Tally.{tally_refusal}

-- the place of an id in a list
pub record Place (ids : List ℕ) (n v : ℕ) : Type 0 where
  pub at : ℕ
  pub within : at < n
  pub holds : get_or ids at 0 ≡ v

-- what holds of the first n places of the lists; nothing here says in which order the ids stand
pub record Listing (c ids counts : List ℕ) (n : ℕ) : Type 0 where
  pub nonzero : (i : ℕ) → i < n → 0 < get_or ids i 0
  pub present : (i : ℕ) → i < n → 0 < id_count c (get_or ids i 0)
  pub counted : (i : ℕ) → i < n → get_or counts i 0 ≡ id_count c (get_or ids i 0)
  pub once : (i j : ℕ) → i < n → j < n → get_or ids i 0 ≡ get_or ids j 0 → i ≡ j
  pub every : (v : ℕ) → 0 < v → v < 65536 → 0 < id_count c v → Place ids n v

-- of a list only the first n places are written
pub record Past (before after : List ℕ) (n : ℕ) : Type 0 where
  pub long : length after ≡ length before
  pub past : drop n after ≡ drop n before

pub record Tallied (size : ℕ) (c : List ℕ) (a : Answer) (ids counts ids' counts' : List ℕ) : Type 0 where
  pub answer : a ≡ unless_refused (tally_refusal size c (length ids) (length counts)) (accepted (length (present_ids c) ∷ [])) refused_with
  pub listing : tally_refusal size c (length ids) (length counts) ≡ 0 → Listing c ids' counts' (length (present_ids c))
  pub ids_past : tally_refusal size c (length ids) (length counts) ≡ 0 → Past ids ids' (length (present_ids c))
  pub counts_past : tally_refusal size c (length ids) (length counts) ≡ 0 → Past counts counts' (length (present_ids c))
  pub ids_kept : (tally_refusal size c (length ids) (length counts) ≡ 0 → ⊥) → ids' ≡ ids
  pub counts_kept : (tally_refusal size c (length ids) (length counts) ≡ 0 → ⊥) → counts' ≡ counts
