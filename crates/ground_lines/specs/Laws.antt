-- Lines are laid one after the other, and then all cells are (SCOPE 4.7 to 4.10). Assumes nothing.
use Rattle.std.specs.Prelude.{◌≡◌, refl, List, Bool, true, false, cond, ℕ, ◌+◌, ◌*◌, ◌/◌, ◌%◌, ◌≤◌, ◌<◌, ltb, ℤ, ◌+ℤ◌, length, set}
use Rattle.std.proofs.Math.Path.{sym, ap, ap₂}
use Rattle.std.proofs.Common.{◌∙◌, subst, add-mul, mul-le-mul_right, ltb-true, ltb-false}
use native.Mathlib.Omega.{arith}
use Rattle.std.proofs.Math.Arith.{digits_lt, digits_div, digits_mod}
use Rattle.std.proofs.Math.IntN.{pos}
use Rattle.std.proofs.Math.ListN.{get_or}
use Rattle.basics.specs.Paths.{ap₃}
use Rattle.ground_cell.specs.World.{Tall, height_at, top_at, top_with, cell_with, cell_under, base_cell, local_y}
use Rattle.ground_cell.specs.Base.{TopsNoted, column_height, column_biome, base_numbered}
use Rattle.ground_cell.proofs.Laws.{height_least, height_most, cell_told}
use Rattle.ground_cell.specs.declared.world.World.{World}
use Rattle.ground_cell.specs.declared.world.Frame.{Frame}
use Rattle.ground_cell.specs.declared.world.Top.{Top}
use Rattle.grid_slabs.specs.Filled.{Filled, filled_none, filled_more, filled_then}
use Rattle.ground_lines.specs.Lines.{below_level, Flagged, LaidLines}

-- n cells of line r are laid, and all else is as in q
abbrev pub Laying : World → Frame → ℕ → ℕ → List ℕ → List ℕ → Type 0
Laying w o r n q c = Filled (base_numbered w o) (o.size * o.size * o.size) (r * o.size) (r * o.size + n) q c

module _ (w : World) (o : Frame) where
  pub laying_none : (r : ℕ) (c : List ℕ) → length c ≡ o.size * o.size * o.size → Laying w o r 0 c c
  laying_none r c l =
      let e : r * o.size ≡ r * o.size + 0 = omega arith in
      subst (λ (u : ℕ). Filled (base_numbered w o) (o.size * o.size * o.size) (r * o.size) u c c) e (filled_none (base_numbered w o) _ _ c l)

  pub laying_more : (r n : ℕ) (q c : List ℕ) (v : ℕ) → r * o.size + n < o.size * o.size * o.size → v ≡ base_numbered w o (r * o.size + n)
      → Laying w o r n q c → Laying w o r (n + 1) q (set c (r * o.size + n) v)
  laying_more r n q c v h e l =
      let k : r * o.size + n + 1 ≡ r * o.size + (n + 1) = omega arith in
      subst (λ (u : ℕ). Filled (base_numbered w o) (o.size * o.size * o.size) (r * o.size) u q (set c (r * o.size + n) v)) k
      (filled_more (base_numbered w o) _ _ (r * o.size + n) q c v (omega arith) h e l)

  pub laying_all : (r n : ℕ) (q c : List ℕ) → n ≡ o.size → Laying w o r n q c → LaidLines w o r (r + 1) q c
  laying_all r n q c e l =
      let f : r * o.size + n ≡ (r + 1) * o.size = sym (add-mul r 1 o.size ∙ (omega arith)) in
      subst (λ (u : ℕ). Filled (base_numbered w o) (o.size * o.size * o.size) (r * o.size) u q c) f l

  pub lines_none : (a : ℕ) (c : List ℕ) → length c ≡ o.size * o.size * o.size → LaidLines w o a a c c
  lines_none a c l = filled_none (base_numbered w o) _ _ c l

  -- lines, and then lines
  pub lines_then : (a b d : ℕ) (q c e : List ℕ) → a ≤ b → b ≤ d → LaidLines w o a b q c → LaidLines w o b d c e → LaidLines w o a d q e
  lines_then a b d q c e h k l m =
      filled_then (base_numbered w o) _ _ (b * o.size) (d * o.size) q c e (mul-le-mul_right o.size h) (mul-le-mul_right o.size k) l m

  -- line z * size + y, and cell x of it
  pub line_fits_lem : (x y z : ℕ) → x < o.size → y < o.size → z < o.size → (z * o.size + y) * o.size + x < o.size * o.size * o.size
  line_fits_lem x y z hx hy hz = digits_lt (digits_lt hz hy) hx

  pub column_fits : (x z : ℕ) → x < o.size → z < o.size → z * o.size + x < o.size * o.size
  column_fits x z hx hz = digits_lt hz hx

  -- rows: the lines of row z end where those of the next begin
  pub next_row : (z : ℕ) → z * o.size + o.size ≡ (z + 1) * o.size
  next_row z = sym (add-mul z 1 o.size ∙ (omega arith))

  -- the top of column x of row z, as the caches hold it
  pub top_is : (hs bs : List ℕ) → TopsNoted w o hs bs → (x z : ℕ) → x < o.size → z < o.size
      → top_with (get_or hs (z * o.size + x) 0) (get_or bs (z * o.size + x) 0) ≡ top_at w (o.ox +ℤ pos x) (o.oz +ℤ pos z)
  unfolding top_at column_height column_biome
  top_is hs bs n x z hx hz =
      let k = column_fits x z hx hz in
      ap₂ top_with (n.heights (z * o.size + x) k) (n.biomes (z * o.size + x) k)
      ∙ ap₂ (λ (a b : ℕ). top_at w (o.ox +ℤ pos a) (o.oz +ℤ pos b)) (digits_mod z hx) (digits_div z hx)

  -- a column's height is 1 to 4,095
  pub height_range : (t : Tall w) (hs bs : List ℕ) → TopsNoted w o hs bs → (x z : ℕ) → x < o.size → z < o.size
      → (1 ≤ get_or hs (z * o.size + x) 0) × (get_or hs (z * o.size + x) 0 ≤ 4095)
  unfolding top_at
  height_range t hs bs n x z hx hz =
      let h : get_or hs (z * o.size + x) 0 ≡ height_at w (o.ox +ℤ pos x) (o.oz +ℤ pos z) = ap (λ (v : Top). v.height) (top_is hs bs n x z hx hz) in
      let a = height_least w t (o.ox +ℤ pos x) (o.oz +ℤ pos z) in
      let b = height_most w t (o.ox +ℤ pos x) (o.oz +ℤ pos z) in
      let m = t.most in
      (omega arith, omega arith)

  -- cell x of a line, laid by its flag, is the base's
  pub cell_is : (hs bs : List ℕ) (flags : List Bool) → TopsNoted w o hs bs → (x y z : ℕ) → x < o.size → y < o.size → z < o.size → Flagged o y z hs flags
      → cell_with (top_with (get_or hs (z * o.size + x) 0) (get_or bs (z * o.size + x) 0)) w.sea_level (o.oy +ℤ pos y) (get_or flags x false)
      ≡ base_numbered w o ((z * o.size + y) * o.size + x)
  unfolding base_numbered base_cell
  cell_is hs bs flags n x y z hx hy hz f =
      let i = (z * o.size + y) * o.size + x in
      let ex : x ≡ i % o.size = sym (digits_mod (z * o.size + y) hx) in
      let er : i / o.size ≡ z * o.size + y = digits_div (z * o.size + y) hx in
      let ey : y ≡ i / o.size % o.size = sym (ap (λ (u : ℕ). u % o.size) er ∙ digits_mod z hy) in
      let ez : z ≡ i / o.size / o.size = sym (ap (λ (u : ℕ). u / o.size) er ∙ digits_div z hy) in
      cell_told (top_with (get_or hs (z * o.size + x) 0) (get_or bs (z * o.size + x) 0)) w.sea_level (o.ox +ℤ pos x) (o.oy +ℤ pos y) (o.oz +ℤ pos z)
      (get_or flags x false)
      (λ g. f.each x hx g)
      ∙ ap (λ (u : Top). cell_under u w.sea_level (o.ox +ℤ pos x) (o.oy +ℤ pos y) (o.oz +ℤ pos z)) (top_is hs bs n x z hx hz)
      ∙ ap₃ (λ (a b c : ℕ). base_cell w (o.ox +ℤ pos a) (o.oy +ℤ pos b) (o.oz +ℤ pos c)) ex ey ez

clip_most : (n size : ℕ) (b : Bool) → ltb n size ≡ b → cond b n size ≤ size
clip_most n size true e = let k = ltb-true n size e in omega arith
clip_most n size false e = omega arith

pub below_most : (size : ℕ) (o : ℤ) (level : ℕ) → below_level size o level ≤ size
unfolding below_level
below_most size o level = clip_most (local_y 0 o (pos level)) size (ltb (local_y 0 o (pos level)) size) refl

-- the greatest height of the first n columns of row z, and of one more
pub record HighestTo (z size n r : ℕ) (heights : List ℕ) : Type 0 where
  pub least : 1 ≤ r
  pub most : r < 65536
  pub each : (x : ℕ) → x < n → get_or heights (z * size + x) 0 ≤ r

pub highest_more : (z size n r s : ℕ) (heights : List ℕ) → r ≤ s → s < 65536 → get_or heights (z * size + n) 0 ≤ s → HighestTo z size n r heights
    → HighestTo z size (n + 1) s heights
highest_more z size n r s heights p m q g = record { least = (let l = g.least in omega arith); most = m; each = λ (x : ℕ) h. here x h (ltb x n) refl }
  where
    here : (x : ℕ) → x < n + 1 → (b : Bool) → ltb x n ≡ b → get_or heights (z * size + x) 0 ≤ s
    here x h true e = let k = g.each x (ltb-true x n e) in omega arith
    here x h false e =
        let k : n ≡ x = (let l = ltb-false x n e in omega arith) in
        subst (λ (u : ℕ). get_or heights (z * size + u) 0 ≤ s) k q
