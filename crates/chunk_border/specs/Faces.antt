-- The faces by their numbers. Assumes nothing.
use Rattle.std.specs.Prelude.{ℕ, zero, suc, Result, Ok, Err}
use Rattle.std.proofs.Math.Option.{Option, some, none}
use Rattle.config.specs.declared.refusals.Refusal.{Refusal}
use Rattle.config.specs.declared.refusals.Refusal.TheVariants as refusal
use Rattle.chunk_border.specs.declared.Face.{Face}
use Rattle.chunk_border.specs.declared.Face.TheVariants.{PosX, NegX, PosY, NegY, PosZ, NegZ}

-- SCOPE 5.8, 10.6: a face is a number, 0 to 5 in the order of the Rust
abbrev pub face_of : ℕ → Option Face
face_of zero = some PosX
face_of (suc zero) = some NegX
face_of (suc (suc zero)) = some PosY
face_of (suc (suc (suc zero))) = some NegY
face_of (suc (suc (suc (suc zero)))) = some PosZ
face_of (suc (suc (suc (suc (suc zero))))) = some NegZ
face_of (suc (suc (suc (suc (suc (suc n)))))) = none

-- a number that names none is refused
abbrev pub face_or : Option Face → Result Face Refusal
face_or (some face) = Ok face
face_or none = Err refusal.Face
