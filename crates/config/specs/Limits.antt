-- The limits of settings and place (SCOPE 2), over whole numbers, and what holds within them. Assumes nothing.
use Rattle.std.specs.Prelude.{◌≡◌, refl, ℕ, ◌+◌, ◌-◌, ◌≤◌, ◌<◌, Bool, true, false, ◌&&◌, [], ◌∷◌, T, ℤ, pos, negsuc, ◌+ℤ◌, ◌-ℤ◌, ◌*ℤ◌}
use Rattle.std.proofs.Common.{sym, ap, ◌∙◌, subst, arith, leb-true}
use Rattle.std.proofs.Math.Bool.{and-false}
use Rattle.std.specs.Int.Signed.{le_z, mag}
use Rattle.std.proofs.lemmas.Bool.{lt-leb}
use Rattle.basics.specs.Integers.{one_less}
use Rattle.basics.specs.Bools.{and_both}
use Rattle.config.specs.Refusals.{must, refusal, refusal_zero}
use Rattle.config.specs.declared.Header.{Header}
use Rattle.config.specs.declared.TerrainConfig.{TerrainConfig}
use Rattle.config.specs.declared.ChunkPos.{ChunkPos}

abbrev pub within : ℤ → ℤ → ℤ → Bool
within lo z hi = le_z lo z && le_z z hi

-- SCOPE 2.1
abbrev pub seed_most : ℕ
seed_most = 10000000

unfoldable pub seed_ok : ℤ → Bool
seed_ok z = within (pos 0) z (pos seed_most)

unfoldable pub sea_ok : ℤ → Bool
sea_ok z = within (negsuc 4095) z (pos 4096)

unfoldable pub height_ok : ℤ → Bool
height_ok z = within (pos 2) z (pos 4096)

unfoldable pub size_ok : ℤ → Bool
size_ok z = within (pos 1) z (pos 64)

-- SCOPE 2.2, along one axis
unfoldable pub place_ok : ℤ → ℤ → Bool
place_ok size c = le_z (negsuc 999999) (c *ℤ size) && le_z (c *ℤ size +ℤ (size -ℤ pos 1)) (pos 1000000)

unfoldable pub places_ok : Header → Bool
places_ok h = place_ok h.chunk_size h.cx && place_ok h.chunk_size h.cy && place_ok h.chunk_size h.cz

-- SCOPE 2.3: the number of the first limit that is broken, or 0; `seed_in` tests the seed
abbrev pub first_broken : (ℤ → Bool) → Header → ℕ
first_broken seed_in h =
    refusal
    (must (size_ok h.chunk_size) 1 ∷ must (seed_in h.seed) 2 ∷ must (sea_ok h.sea_level) 3
    ∷ must (height_ok h.world_height_blocks) 4 ∷ must (places_ok h) 5 ∷ [])

unfoldable pub limit_refusal : Header → ℕ
limit_refusal h = first_broken seed_ok h

-- the header in the order of the journal's first line (SCOPE 6.3)
abbrev pub header : ℤ → ℤ → ℤ → ℤ → ℤ → ℤ → ℤ → Header
header seed sea height size cx cy cz = record { seed = seed; sea_level = sea; world_height_blocks = height; chunk_size = size; cx = cx; cy = cy; cz = cz }

pub header_same : {a b c d e f g a' b' c' d' e' f' g' : ℤ} → a ≡ a' → b ≡ b' → c ≡ c' → d ≡ d' → e ≡ e' → f ≡ f' → g ≡ g'
    → header a b c d e f g ≡ header a' b' c' d' e' f' g'
header_same p q r s t u v = cc

unfoldable pub config_header : TerrainConfig → ChunkPos → Header
config_header s p = header (pos s.seed) s.sea_level s.world_height_blocks (pos s.chunk_size) p.cx p.cy p.cz

-- a place of which no product with a size leaves 64 bits
pub record Narrow (h : Header) : Type 0 where
  pub cx : mag h.cx < 1099511627776
  pub cy : mag h.cy < 1099511627776
  pub cz : mag h.cz < 1099511627776

-- a natural number between two others
pub record Between (lo hi : ℕ) (z : ℤ) : Type 0 where
  pub n : ℕ
  pub is : z ≡ pos n
  pub least : lo ≤ n
  pub most : n ≤ hi

pub between : (lo hi : ℕ) (z : ℤ) → within (pos lo) z (pos hi) ≡ true → Between lo hi z
between lo hi (pos n) e = let q = and_both (le_z (pos lo) (pos n)) _ e in record { n = n; is = refl; least = leb-true lo n q.0; most = leb-true n hi q.1 }
between lo hi (negsuc n) e = absurd (subst T (sym e) tt)

near_zero : (z : ℤ) → within (negsuc 4095) z (pos 4096) ≡ true → mag z ≤ 4096
near_zero (pos n) e = leb-true n 4096 (and_both true _ e).1
near_zero (negsuc n) e = let g = leb-true n 4095 (and_both (le_z (negsuc 4095) (negsuc n)) true e).0 in omega arith

reach_mag : (z : ℤ) (k : ℕ) → le_z (negsuc 999999) z ≡ true → le_z (z +ℤ pos k) (pos 1000000) ≡ true → mag z ≤ 1000000
reach_mag (pos n) k e d = let g = leb-true (n + k) 1000000 d in omega arith
reach_mag (negsuc n) k e d = let g = leb-true n 999999 e in omega arith

-- the first cell of a chunk along an axis lies within a million
pub reached : (size : ℕ) (c : ℤ) → 1 ≤ size → place_ok (pos size) c ≡ true → mag (c *ℤ pos size) ≤ 1000000
unfolding place_ok
reached size c h e =
    let q = and_both (le_z (negsuc 999999) (c *ℤ pos size)) _ e in
    reach_mag (c *ℤ pos size) (size - 1) q.0 (subst (λ (k : ℤ). le_z (c *ℤ pos size +ℤ k) (pos 1000000) ≡ true) (one_less size h) q.1)

-- the seven numbers are within the limits
pub record Limited (h : Header) : Type 0 where
  pub size : Between 1 64 h.chunk_size
  pub seed : Between 0 seed_most h.seed
  pub sea : mag h.sea_level ≤ 4096
  pub height : Between 2 4096 h.world_height_blocks
  pub cx : place_ok h.chunk_size h.cx ≡ true
  pub cy : place_ok h.chunk_size h.cy ≡ true
  pub cz : place_ok h.chunk_size h.cz ≡ true

pub size_between : (z : ℤ) → size_ok z ≡ true → Between 1 64 z
unfolding size_ok
size_between z e = between 1 64 z e

pub size_large : (n : ℕ) → 64 < n → size_ok (pos n) ≡ false
unfolding size_ok
size_large n h = ap (λ (b : Bool). le_z (pos 1) (pos n) && b) (lt-leb n 64 h) ∙ and-false (le_z (pos 1) (pos n))

pub seed_between : (z : ℤ) → seed_ok z ≡ true → Between 0 seed_most z
unfolding seed_ok
seed_between z e = between 0 seed_most z e

pub sea_most : (z : ℤ) → sea_ok z ≡ true → mag z ≤ 4096
unfolding sea_ok
sea_most z e = near_zero z e

pub height_between : (z : ℤ) → height_ok z ≡ true → Between 2 4096 z
unfolding height_ok
height_between z e = between 2 4096 z e

pub limited : (h : Header) → limit_refusal h ≡ 0 → Limited h
unfolding limit_refusal places_ok
limited h e =
    let a = refusal_zero (size_ok h.chunk_size) 0 _ e in
    let b = refusal_zero (seed_ok h.seed) 1 _ a.1 in
    let c = refusal_zero (sea_ok h.sea_level) 2 _ b.1 in
    let d = refusal_zero (height_ok h.world_height_blocks) 3 _ c.1 in
    let f = refusal_zero (place_ok h.chunk_size h.cx && place_ok h.chunk_size h.cy && place_ok h.chunk_size h.cz) 4 _ d.1 in
    let p = and_both (place_ok h.chunk_size h.cx && place_ok h.chunk_size h.cy) _ f.0 in
    let q = and_both (place_ok h.chunk_size h.cx) _ p.0 in
    record {
      size = size_between h.chunk_size a.0;
      seed = seed_between h.seed b.0;
      sea = sea_most h.sea_level c.0;
      height = height_between h.world_height_blocks d.0;
      cx = q.0;
      cy = q.1;
      cz = p.1;
    }

-- settings and a place within the limits
pub record Fine (s : TerrainConfig) (p : ChunkPos) : Type 0 where
  pub some : 1 ≤ s.chunk_size
  pub most : s.chunk_size ≤ 64
  pub seed : s.seed ≤ seed_most
  pub sea : mag s.sea_level ≤ 4096
  pub height : Between 2 4096 s.world_height_blocks
  pub cx : mag (p.cx *ℤ pos s.chunk_size) ≤ 1000000
  pub cy : mag (p.cy *ℤ pos s.chunk_size) ≤ 1000000
  pub cz : mag (p.cz *ℤ pos s.chunk_size) ≤ 1000000

pos_same : (m n : ℕ) → pos m ≡ pos n → m ≡ n
pos_same m n e = cc

pub fine : (s : TerrainConfig) (p : ChunkPos) → limit_refusal (config_header s p) ≡ 0 → Fine s p
unfolding config_header
fine s p e =
    let l = limited (header (pos s.seed) s.sea_level s.world_height_blocks (pos s.chunk_size) p.cx p.cy p.cz) e in
    let n = pos_same s.chunk_size l.size.n l.size.is in
    let m = pos_same s.seed l.seed.n l.seed.is in
    let some : 1 ≤ s.chunk_size = (let g = l.size.least in omega arith) in
    record {
      some = some;
      most = (let g = l.size.most in omega arith);
      seed = (let g = l.seed.most in omega arith);
      sea = l.sea;
      height = l.height;
      cx = reached s.chunk_size p.cx some l.cx;
      cy = reached s.chunk_size p.cy some l.cy;
      cz = reached s.chunk_size p.cz some l.cz;
    }
