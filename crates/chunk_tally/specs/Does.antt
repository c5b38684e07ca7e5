-- How a tally is refused (SCOPE 5.9, 10.4). Assumes nothing.
use Rattle.std.specs.Prelude.{◌≡◌, refl, ℕ, ◌≤◌, ◌<◌, Bool, true, false, ◌&&◌, List, [], leb, length}
use Rattle.std.proofs.Common.{sym, le-leb, leb-true}
use Rattle.std.proofs.lemmas.Bool.{lt-leb}
use Rattle.basics.specs.Bools.{and_both}
use Rattle.config.specs.Refusals.{refusal_zero, passed_zero}
use Rattle.chunk.specs.Tests.{chunk_refusal, then_chunk, then_stop, then_pass}
use Rattle.chunk_tally.specs.Ids.{present_ids}
use Rattle.chunk_tally.specs.Tally.{tally_refusal}

pub refuse_input : (size : ℕ) (c : List ℕ) (n m : ℕ) → (chunk_refusal size (length c) ≡ 0 → ⊥) → chunk_refusal size (length c) ≡ tally_refusal size c n m
unfolding tally_refusal
refuse_input size c n m h = sym (then_chunk size (length c) _ 13 h)

pub refuse_ids : (size : ℕ) (c : List ℕ) (n m : ℕ) → chunk_refusal size (length c) ≡ 0 → n < length (present_ids c) → 13 ≡ tally_refusal size c n m
unfolding tally_refusal
refuse_ids size c n m h l = sym (then_stop size (length c) _ 13 h (rw (lt-leb (length (present_ids c)) n l)))

pub refuse_counts : (size : ℕ) (c : List ℕ) (n m : ℕ) → chunk_refusal size (length c) ≡ 0 → m < length (present_ids c) → 13 ≡ tally_refusal size c n m
unfolding tally_refusal
refuse_counts size c n m h l = sym (then_stop size (length c) _ 13 h (no (leb (length (present_ids c)) n)))
  where
    no : (b : Bool) → (b && leb (length (present_ids c)) m) ≡ false
    no true = lt-leb (length (present_ids c)) m l
    no false = refl

pub refuse_none : (size : ℕ) (c : List ℕ) (n m : ℕ) → chunk_refusal size (length c) ≡ 0 → length (present_ids c) ≤ n → length (present_ids c) ≤ m
    → tally_refusal size c n m ≡ 0
unfolding tally_refusal
refuse_none size c n m h k l = then_pass size (length c) _ 13 h (rw (le-leb (length (present_ids c)) n k, le-leb (length (present_ids c)) m l))

-- both lists have a place for each id
pub record LongEnough (c : List ℕ) (n m : ℕ) : Type 0 where
  pub ids : length (present_ids c) ≤ n
  pub counts : length (present_ids c) ≤ m

pub long_enough : (size : ℕ) (c : List ℕ) (n m : ℕ) → tally_refusal size c n m ≡ 0 → LongEnough c n m
unfolding tally_refusal
long_enough size c n m e =
    let p = (passed_zero (chunk_refusal size (length c)) _ e).1 in
    let q = and_both _ _ (refusal_zero _ 12 [] p).0 in
    record { ids = leb-true _ _ q.0; counts = leb-true _ _ q.1 }
