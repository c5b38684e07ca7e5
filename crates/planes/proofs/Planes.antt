-- What the two calls do where nothing is refused, and where something is. Assumes nothing.
use Rattle.std.specs.Prelude.{◌≡◌, ℕ, List, [], length}
use Rattle.config.specs.Answers.{accepted, refused_with, is_refused, not_refused, cells_outcome}
use Rattle.planes.specs.Planes.{planes_of, cells_of, bits_of, planes_refusal, planes_outcome, to_planes_does, from_planes_does}

-- an accepted call, and a refused one, which changes nothing
module _ (size : ℕ) (c b : List ℕ) where
  pub to_accepted : planes_refusal size (length c) (length b) ≡ 0 → to_planes_does size c b ≡ planes_outcome (accepted []) (planes_of (bits_of size) c)
  unfolding to_planes_does
  to_accepted e = not_refused _ _ _ e

  pub to_refused : (planes_refusal size (length c) (length b) ≡ 0 → ⊥)
      → to_planes_does size c b ≡ planes_outcome (refused_with (planes_refusal size (length c) (length b))) b
  unfolding to_planes_does
  to_refused e = is_refused _ _ _ e

  pub from_accepted : planes_refusal size (length c) (length b) ≡ 0 → from_planes_does size b c ≡ cells_outcome (accepted []) (cells_of (bits_of size) b)
  unfolding from_planes_does
  from_accepted e = not_refused _ _ _ e

  pub from_refused : (planes_refusal size (length c) (length b) ≡ 0 → ⊥)
      → from_planes_does size b c ≡ cells_outcome (refused_with (planes_refusal size (length c) (length b))) c
  unfolding from_planes_does
  from_refused e = is_refused _ _ _ e
