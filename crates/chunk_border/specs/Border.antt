-- What `extract_border` does (SCOPE 5.8). Assumes nothing.
use Rattle.std.specs.Prelude.{◌≡◌, refl, ℕ, zero, suc, ◌-◌, ◌*◌, ◌/◌, ◌%◌, ◌<◌, List, [], ◌∷◌, eqb, length, get_or, Result, ⊤}
use Rattle.std.proofs.Common.{arith, mod-lt, eqb-true}
use Rattle.grid.specs.Cube.{cell_index, tab}
use Rattle.grid.specs.Grid.{index_lt, below_2}
use Rattle.config.specs.Refusals.{must, passed, refusal, refusal_zero, passed_zero}
use Rattle.config.specs.Answers.{Answer, accepted, refused_with, says, says_same, unless_refused}
use Rattle.chunk.specs.Tests.{chunk_refusal, Chunk, chunk_passed}
use Rattle.chunk_border.specs.declared.Face.{Face}
use Rattle.chunk_border.specs.declared.Face.TheVariants.{PosX, NegX, PosY, NegY, PosZ, NegZ}
use Rattle.config.specs.declared.refusals.Refusal.{Refusal}

-- what is handed out lies in the lent slice: no values
abbrev pub says_extracted : Result ⊤ Refusal → Answer
says_extracted = says (λ (t : ⊤). [])

-- where the k-th block of a side stands among the cells
unfoldable pub border_source : Face → ℕ → ℕ → ℕ
border_source PosX size k = cell_index size (size - 1) (k / size) (k % size)
border_source NegX size k = cell_index size 0 (k / size) (k % size)
border_source PosY size k = cell_index size (k % size) (size - 1) (k / size)
border_source NegY size k = cell_index size (k % size) 0 (k / size)
border_source PosZ size k = cell_index size (k % size) (k / size) (size - 1)
border_source NegZ size k = cell_index size (k % size) (k / size) 0

unfoldable pub border_of : Face → ℕ → List ℕ → List ℕ
border_of face size c = tab (size * size) (λ (k : ℕ). get_or c (border_source face size k) 0)

-- 1 and 6, then 6 for a border of other than size² places
unfoldable pub border_refusal : ℕ → ℕ → ℕ → ℕ
border_refusal size n m = refusal (passed (chunk_refusal size n) ∷ must (eqb m (size * size)) 6 ∷ [])

pub record Bordered : Type 0 where
  pub answer : Answer
  pub border : List ℕ

abbrev pub bordered : Answer → List ℕ → Bordered
bordered a b = record { answer = a; border = b }

unfoldable pub chunk_border_does : Face → ℕ → List ℕ → List ℕ → Bordered
chunk_border_does face size c b =
    unless_refused (border_refusal size (length c) (length b)) (bordered (accepted []) (border_of face size c)) (λ (n : ℕ). bordered (refused_with n) b)

-- ---- laws

-- answers that say the same are the same: what was handed out is no refusal with number 0
pub same_extracted : (a b : Result ⊤ Refusal) → says_extracted a ≡ says_extracted b → a ≡ b
same_extracted = says_same (λ (t : ⊤). []) (λ a b e. refl)

pub record BorderOk (size n m : ℕ) : Type 0 where
  pub chunk : Chunk size n
  pub new : m ≡ size * size

pub border_passed : (size n m : ℕ) → border_refusal size n m ≡ 0 → BorderOk size n m
unfolding border_refusal
border_passed size n m e =
    let p = passed_zero (chunk_refusal size n) (must (eqb m (size * size)) 6 ∷ []) e in
    let q = refusal_zero (eqb m (size * size)) 5 [] p.1 in
    record { chunk = chunk_passed size n p.0; new = eqb-true m (size * size) q.0 }

-- a place on a side, by its two numbers
pub record Side (size k : ℕ) : Type 0 where
  pub least : 0 < size
  pub u_in : k % size < size
  pub v_in : k / size < size

pub side : (size k : ℕ) → k < size * size → Side size k
side zero k h = absurd (omega arith)
side (suc s) k h = let p : 0 < suc s = omega arith in record { least = p; u_in = mod-lt k p; v_in = below_2 (suc s) k h }

pub source_lt : (face : Face) (size k : ℕ) → k < size * size → border_source face size k < size * size * size
unfolding border_source
source_lt PosX size k h = let s = side size k h in let l = s.least in index_lt size (size - 1) (k / size) (k % size) (omega arith) s.v_in s.u_in
source_lt NegX size k h = let s = side size k h in index_lt size 0 (k / size) (k % size) s.least s.v_in s.u_in
source_lt PosY size k h = let s = side size k h in let l = s.least in index_lt size (k % size) (size - 1) (k / size) s.u_in (omega arith) s.v_in
source_lt NegY size k h = let s = side size k h in index_lt size (k % size) 0 (k / size) s.u_in s.least s.v_in
source_lt PosZ size k h = let s = side size k h in let l = s.least in index_lt size (k % size) (k / size) (size - 1) s.u_in s.v_in (omega arith)
source_lt NegZ size k h = let s = side size k h in index_lt size (k % size) (k / size) 0 s.u_in s.v_in s.least
