-- `host_answers::extract_border` meets its contract. Assumes nothing.
use Rattle.std.proofs.Common.{◌≡◌, refl, sym, ap, ℕ, List, Result, Ok, Err}
use Rattle.std.proofs.lemmas.Result.{err_from_is_err_and}
use Rattle.std.proofs.Math.Option.{Option, some, none}
use Rattle.config.specs.Numbers.{number_of}
use Rattle.config.specs.declared.refusals.Refusal.{Refusal}
use Rattle.config.specs.declared.refusals.Refusal.TheVariants as refusal
use Rattle.chunk_border.specs.declared.Face.{Face}
use Rattle.chunk_border.specs.Faces.{face_of, face_or}
use Rattle.host_answers.specs.Answers.{answer, border_answered, border_in_c_does, border_in_c_lem}
use Rattle.host_answers.proofs.extract_border.Goals as goal

no_face : (f : Option Face) (r : Refusal) → ◌≡◌ {A = Result Face Refusal} (Err r) (face_or f) → (f ≡ none) × (r ≡ refusal.Face)
no_face none r e = (refl, (let q : r ≡ refusal.Face = cc in q))
no_face (some face) r e = cc

a_face : (f : Option Face) (face : Face) → ◌≡◌ {A = Result Face Refusal} (Ok face) (face_or f) → f ≡ some face
a_face none face e = cc
a_face (some g) face e = let q : face ≡ g = cc in sym (ap some q)

-- a number without a face: 99, and the border is as it was
refused_face : (n size : ℕ) (c b : List ℕ) (r : Refusal) → ◌≡◌ {A = Result Face Refusal} (Err r) (face_or (face_of n))
    → border_answered (answer (number_of r) 0 0) b ≡ border_in_c_does n size c b
unfolding border_in_c_does
refused_face n size c b r e = let q = no_face _ _ e in rw (q.0, q.1) refl

pub returns-in_err-face : goal.returns-in_err-face
returns-in_err-face c =
    let p = err_from_is_err_and c.from_residual.result c.from_residual.ensures.1 in
    rw (p.1, p.2) (refused_face _ _ _ _ _ c.in_err-face.ensures)

pub returns : goal.returns
returns c = border_in_c_lem _ _ _ _ _ _ _ _ (a_face _ _ c.in_ok-face.ensures) refl c.extract_border.ensures
