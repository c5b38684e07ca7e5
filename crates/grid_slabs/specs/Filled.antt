-- Cells laid one after the other from a place on, with all else as it was. Assumes nothing.
use Rattle.std.specs.Prelude.{◌≡◌, refl, ℕ, ◌+◌, ◌*◌, ◌/◌, ◌≤◌, ◌<◌, true, List, ltb, eqb, length, get_or, set}
use Rattle.std.proofs.Common.{sym, ap, ◌∙◌, subst, arith, add-mul, mul_assoc, div-lt_iff_lt-mul, le-div_iff_mul-le, true≢false, length-set}
use Rattle.std.proofs.Common.{get_or-set_same, get_or-set_other, ltb-true, ltb-false, eqb-true}
use Rattle.std.proofs.Math.ListN.{get_or-eq_default}
use Rattle.std.proofs.lemmas.Bool.{eqb-false}
use Rattle.basics.specs.Bools.{by_bool}
use Rattle.grid.specs.Cube.{tab}
use Rattle.grid.specs.Grid.{tab_length, tab_at}
use Rattle.grid_slabs.specs.Rows.{in_rows, rows_in, rows_is}
use Rattle.grid_slabs.specs.Clip.{Clip}

-- of n cells those from `from` on below `to` are those of f, and all else is as in q
pub record Filled (f : ℕ → ℕ) (n from to : ℕ) (q c : List ℕ) : Type 0 where
  pub all : length c ≡ n
  pub each : (i : ℕ) → from ≤ i → i < to → get_or c i 0 ≡ f i
  pub kept : (i : ℕ) → (from ≤ i → i < to → ⊥) → get_or c i 0 ≡ get_or q i 0

module _ (f : ℕ → ℕ) (n from : ℕ) where
  pub filled_none : (c : List ℕ) → length c ≡ n → Filled f n from from c c
  filled_none c l = record { all = l; each = λ i p h. absurd (omega arith); kept = λ i m. refl }

  -- one cell more
  pub filled_more : (to : ℕ) (q c : List ℕ) (v : ℕ) → from ≤ to → to < n → v ≡ f to → Filled f n from to q c → Filled f n from (to + 1) q (set c to v)
  filled_more to q c v a h e l = record {
    all = length-set c to v ∙ l.all;
    each = λ i p m. by_bool (eqb i to)
        (λ t. let g : i ≡ to = eqb-true i to t in
        let k = l.all in
        ap (λ (u : ℕ). get_or (set c to v) u 0) g ∙ get_or-set_same c to v 0 (omega arith) ∙ e ∙ ap f (sym g))
        (λ t. let g = eqb-false i to t in
        get_or-set_other c to i v 0 g ∙ l.each i p (below i m g));
    kept = λ i m. get_or-set_other c to i v 0 (λ (g : i ≡ to). m (omega arith) (omega arith)) ∙ l.kept i (λ (x : from ≤ i) (y : i < to). m x (omega arith));
  }
    where
      below : (i : ℕ) → i < to + 1 → (i ≡ to → ⊥) → i < to
      below i m g = omega arith

  -- some cells, and then more
  pub filled_then : (mid to : ℕ) (q c d : List ℕ) → from ≤ mid → mid ≤ to → Filled f n from mid q c → Filled f n mid to c d → Filled f n from to q d
  filled_then mid to q c d h k l m = record {
    all = m.all;
    each = λ i p t. by_bool (ltb i mid)
        (λ u. let v = ltb-true i mid u in m.kept i (λ x y. omega arith) ∙ l.each i p v)
        (λ u. let v = ltb-false i mid u in m.each i v t);
    kept = λ i t. m.kept i (λ x y. t (omega arith) y) ∙ l.kept i (λ x y. t x (omega arith));
  }

-- ---- whole slabs

-- the cells of the slabs from lo on below hi
module _ (s lo hi i : ℕ) (ps : 0 < s) where
  in_from : in_rows lo hi (i / s / s) ≡ true → lo * s * s ≤ i
  in_from e = (le-div_iff_mul-le {k = s} {x = lo * s} {y = i} ps).0 ((le-div_iff_mul-le {k = s} {x = lo} {y = i / s} ps).0 (rows_is lo hi (i / s / s) e).0)

  in_to : in_rows lo hi (i / s / s) ≡ true → i < hi * s * s
  in_to e = (div-lt_iff_lt-mul {k = s} {x = i} {y = hi * s} ps).0 ((div-lt_iff_lt-mul {k = s} {x = i / s} {y = hi} ps).0 (rows_is lo hi (i / s / s) e).1)

  out_of : lo * s * s ≤ i → i < hi * s * s → in_rows lo hi (i / s / s) ≡ true
  out_of a b =
      let h : lo ≤ i / s / s = (le-div_iff_mul-le {k = s} {x = lo} {y = i / s} ps).1 ((le-div_iff_mul-le {k = s} {x = lo * s} {y = i} ps).1 a) in
      let l : i / s / s < hi = (div-lt_iff_lt-mul {k = s} {x = i / s} {y = hi} ps).1 ((div-lt_iff_lt-mul {k = s} {x = i} {y = hi * s} ps).1 b) in
      rows_in lo hi (i / s / s) h l

pub filled_clip : (f : ℕ → ℕ) (s lo hi : ℕ) (q p : List ℕ) → 0 < s → Filled f (s * s * s) (lo * s * s) (hi * s * s) q p → Clip s lo hi q p (tab (s * s * s) f)
filled_clip f s lo hi q p ps l = record {
  all = tab_length (s * s * s) f;
  long = l.all;
  same = λ i e. by_bool (ltb i (s * s * s))
      (λ t. l.each i (in_from s lo hi i ps e) (in_to s lo hi i ps e) ∙ sym (tab_at (s * s * s) f i (ltb-true i _ t)))
      (λ t. let g = ltb-false i _ t in
      let x = l.all in
      let y = tab_length (s * s * s) f in
      get_or-eq_default p 0 {n = i} (omega arith) ∙ sym (get_or-eq_default (tab (s * s * s) f) 0 {n = i} (omega arith)));
  kept = λ i e. l.kept i (λ a b. true≢false (sym (out_of s lo hi i ps a b) ∙ e));
}

-- one slab, whose cells begin at z * (s * s)
pub slab_clip : (f : ℕ → ℕ) (s z : ℕ) (q p : List ℕ) → z < s → Filled f (s * s * s) (z * (s * s)) (z * (s * s) + s * s) q p
    → Clip s z (z + 1) q p (tab (s * s * s) f)
slab_clip f s z q p h l =
    let first : z * (s * s) ≡ z * s * s = sym (mul_assoc z s s) in
    let next : (z + 1) * s * s ≡ (z + 1) * (s * s) = mul_assoc (z + 1) s s in
    let more = add-mul z 1 (s * s) in
    let last : z * (s * s) + s * s ≡ (z + 1) * s * s = omega arith in
    filled_clip f s z (z + 1) q p (omega arith)
    (subst (λ (u : ℕ). Filled f (s * s * s) u ((z + 1) * s * s) q p) first
    (subst (λ (u : ℕ). Filled f (s * s * s) (z * (s * s)) u q p) last l))
