-- SCOPE 2.4: seeds went to 65,535 before. What those limits did not refuse for its seed is answered the same. Assumes nothing.
use Rattle.std.specs.Prelude.{◌≡◌, ℕ, ◌≤◌, ◌<◌, Bool, true, false, ℤ, pos}
use Rattle.std.proofs.Common.{arith, le-leb}
use Rattle.std.proofs.lemmas.Bool.{lt-leb}
use Rattle.config.specs.Refusals.{refusal}
use Rattle.config.specs.Limits.{within, seed_most, size_ok, seed_ok, places_ok, header, first_broken, limit_refusal}
use Rattle.config.specs.declared.Header.{Header}

abbrev pub older_seed_most : ℕ
older_seed_most = 65535

unfoldable pub older_seed_ok : ℤ → Bool
older_seed_ok z = within (pos 0) z (pos older_seed_most)

-- the limits of before
unfoldable pub older_limit_refusal : Header → ℕ
older_limit_refusal h = first_broken older_seed_ok h

pub seed_taken : (n : ℕ) → n ≤ seed_most → seed_ok (pos n) ≡ true
unfolding seed_ok
seed_taken n h = rw (le-leb 0 n (omega arith), le-leb n seed_most h)

seed_beyond : (n : ℕ) → seed_most < n → seed_ok (pos n) ≡ false
unfolding seed_ok
seed_beyond n h = rw (le-leb 0 n (omega arith), lt-leb n seed_most h)

-- a seed to ten million is answered as the seed 0 was
pub seed_answered : (h : Header) (n : ℕ) → h.seed ≡ pos n → n ≤ 10000000
    → limit_refusal h ≡ older_limit_refusal (header (pos 0) h.sea_level h.world_height_blocks h.chunk_size h.cx h.cy h.cz)
unfolding limit_refusal older_limit_refusal older_seed_ok places_ok refusal
seed_answered h n e k = rw (e, seed_taken n k)

-- a larger one is still refused
pub seed_refused : (h : Header) (n : ℕ) → h.seed ≡ pos n → 10000000 < n → size_ok h.chunk_size ≡ true → limit_refusal h ≡ 2
unfolding limit_refusal refusal
seed_refused h n e k s = rw (s, e, seed_beyond n k)
