-- Text written at a place of a buffer, one piece behind another (SCOPE 11.2). Assumes nothing.
use Rattle.std.specs.Prelude.{◌≡◌, ℕ, ◌+◌, ◌≤◌, ◌<◌, set}
use Rattle.std.proofs.Common.{sym, ◌∙◌, subst, arith, add-zero, add-one, length-take, take-append-drop, drop-drop}
use Rattle.std.proofs.Math.Path.{ap}
use mathlib.Core.List.{List, [], ◌∷◌, ◌++◌, append_assoc}
use Rattle.std.proofs.Math.ListN.{length, take, drop, length-append}
use Rattle.std.proofs.lemmas.List.{set_split}
use Rattle.std.proofs.Math.Seq.{drop-append-add}
use Rattle.journal_format.specs.Written.{written, length_written, take_written}

-- o became d: it has the text t from place p on, and next is the place behind it
pub record Appended (o : List ℕ) (p : ℕ) (t : List ℕ) (d : List ℕ) (next : ℕ) : Type 0 where
  pub bytes : d ≡ written o p t
  pub behind : next ≡ p + length t

pub written_none : (o : List ℕ) (p : ℕ) → o ≡ written o p []
unfolding written
written_none o p = rw add-zero (sym (take-append-drop p o))

pub written_one : (o : List ℕ) (p b : ℕ) → p < length o → set o p b ≡ written o p (b ∷ [])
unfolding written
written_one o p b h = rw add-one (set_split o p b h)

-- what is behind the text stays
drop_written : (o : List ℕ) (p : ℕ) (t : List ℕ) (k : ℕ) → p + length t ≤ length o → drop (p + length t + k) (written o p t) ≡ drop (p + length t + k) o
unfolding written
drop_written o p t k h =
    ap (drop (p + length t + k)) (sym (append_assoc (take p o) t (drop (p + length t) o)))
    ∙ ap (λ (n : ℕ). drop (n + k) ((take p o ++ t) ++ drop (p + length t) o)) (sym long)
    ∙ drop-append-add (take p o ++ t) (drop (p + length t) o) k
    ∙ drop-drop k (p + length t) o
  where
    long : length (take p o ++ t) ≡ p + length t
    long = simp (length-append, length-take) (omega arith)

pub written_then : (o : List ℕ) (p : ℕ) (t u : List ℕ) → p + length t ≤ length o
    → written (written o p t) (p + length t) u ≡ written o p (t ++ u)
written_then o p t u h = unfold written in
    ap (λ (s : List ℕ). s ++ (u ++ drop (p + length t + length u) (written o p t))) (take_written o p t h)
    ∙ ap (λ (s : List ℕ). (take p o ++ t) ++ (u ++ s)) (drop_written o p t (length u) h)
    ∙ append_assoc (take p o) t (u ++ drop (p + length t + length u) o)
    ∙ ap (λ (s : List ℕ). take p o ++ s) (sym (append_assoc t u (drop (p + length t + length u) o)))
    ∙ ap (λ (n : ℕ). take p o ++ ((t ++ u) ++ drop n o)) long
  where
    long : p + length t + length u ≡ p + length (t ++ u)
    long = simp length-append (omega arith)

-- a piece behind a piece
pub then : {o : List ℕ} {p : ℕ} {t u d e : List ℕ} {m n : ℕ} → p + length t ≤ length o
    → Appended o p t d m → Appended d m u e n → Appended o p (t ++ u) e n
then {o} {p} {t} {u} {d} {e} {m} {n} h a b = record {
  bytes = b.bytes ∙ ap (λ (k : ℕ). written d k u) a.behind ∙ ap (λ (s : List ℕ). written s (p + length t) u) a.bytes ∙ written_then o p t u h;
  behind = simp length-append (omega (arith, a.behind, b.behind));
}

-- nothing yet
pub nothing : (o : List ℕ) (p : ℕ) → Appended o p [] o p
nothing o p = record { bytes = written_none o p; behind = omega arith }

-- the buffer keeps its length
pub same_length : {o : List ℕ} {p : ℕ} {t d : List ℕ} {n : ℕ} → p + length t ≤ length o → Appended o p t d n → length d ≡ length o
same_length {o} {p} {t} h a = ap length a.bytes ∙ length_written o p t h

-- the same for a text that is equal
pub as_text : {o : List ℕ} {p : ℕ} {t u d : List ℕ} {n : ℕ} → t ≡ u → Appended o p t d n → Appended o p u d n
as_text {o} {p} {t} {u} {d} {n} e a = subst (λ (s : List ℕ). Appended o p s d n) e a
