-- Each of the two calls undoes the other, for every buffer (SCOPE 5.12). Assumes nothing.
use Rattle.std.specs.Prelude.{◌≡◌, ℕ, ◌+◌, List, [], length}
use Rattle.std.proofs.Common.{sym, ap, ap₂, ◌∙◌}
use Rattle.config.specs.Answers.{accepted, CellsOutcome, cells_outcome}
use Rattle.planes.specs.Order.{volume}
use Rattle.planes.specs.Planes.{bits_of, planes_of, cells_of, planes_refusal, PlanesOutcome, planes_outcome}
use Rattle.planes.specs.Planes.{to_planes_does, from_planes_does, Bytes}
use Rattle.planes.proofs.Planes.{to_accepted, from_accepted}
use Rattle.planes.proofs.Undo.{planes_length, cells_length, cells_planes, planes_cells}
use Rattle.planes.specs.Sizes.{Fit}
use Rattle.planes.proofs.Sizes.{planes_passed, cells_all, bytes_all}

module _ (size : ℕ) (c b : List ℕ) (fine : planes_refusal size (length c) (length b) ≡ 0) where
  fit : Fit size (length c) (length b)
  fit = planes_passed size (length c) (length b) fine

  all : length c ≡ volume (bits_of size)
  all = cells_all size (length c) (length b) fit

  twice : length b ≡ volume (bits_of size) + volume (bits_of size)
  twice = bytes_all size (length c) (length b) fit ∙ ap₂ (λ (n m : ℕ). n + m) all all

  -- what was copied out comes back, into any cells of the same number
  pub restored : (d : List ℕ) → length d ≡ length c → from_planes_does size (to_planes_does size c b).bytes d ≡ cells_outcome (accepted []) c
  restored d e =
      let k : ℕ = bits_of size in
      let l : length (planes_of k c) ≡ length b = planes_length k c ∙ sym twice in
      ap (λ (q : PlanesOutcome). from_planes_does size q.bytes d) (to_accepted size c b fine)
      ∙ from_accepted size d (planes_of k c) (ap₂ (planes_refusal size) e l ∙ fine)
      ∙ ap (cells_outcome (accepted [])) (cells_planes k c all)

  -- and what was restored gives the same bytes
  pub copied_again : (d : List ℕ) → length d ≡ length b → Bytes b → to_planes_does size (from_planes_does size b c).cells d ≡ planes_outcome (accepted []) b
  copied_again d e s =
      let k : ℕ = bits_of size in
      let l : length (cells_of k b) ≡ length c = cells_length k b ∙ sym all in
      ap (λ (q : CellsOutcome). to_planes_does size q.cells d) (from_accepted size c b fine)
      ∙ to_accepted size (cells_of k b) d (ap₂ (planes_refusal size) l e ∙ fine)
      ∙ ap (planes_outcome (accepted [])) (planes_cells k b twice s)
