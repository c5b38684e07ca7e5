-- Tables of where places lie in the lattice (SCOPE 3.6). Assumes nothing.
use Rattle.std.specs.Prelude.{◌≡◌, refl, List, Bool, ℕ, ◌+◌, ◌*◌, ◌≤◌, ◌<◌, Float, length, get_or, set}
use Rattle.std.proofs.Math.Path.{ap, subst}
use Rattle.std.proofs.Common.{◌∙◌, of_z, to_z}
use Rattle.std.proofs.Math.Bool.{true, false}
use native.Mathlib.Omega.{arith}
use Rattle.std.proofs.Math.Dec.{ltb}
use Rattle.std.specs.Float.Ieee.{nan}
use Rattle.std.proofs.Math.ListN.{length-set}
use Rattle.std.proofs.Math.Seq.{get_or-set_same, get_or-set_other}
use borrow.Author.Tests.{ltb-true, ltb-false}
use Rattle.std.specs.Int.{w32}
use Rattle.num_core.specs.Num.{floor_i}
use Rattle.num_core.proofs.Floor.{floor_again}
use Rattle.noise.specs.Noise.{ease₃₂}
use Rattle.noise_tables.specs.Row.{at}
use Rattle.noise_tables.specs.declared.Entry.{Entry}

abbrev pub entry_with : ℕ → Float → Entry
entry_with a e = record { at = a; ease = e }

unfoldable pub entry_of : Float → Entry
entry_of x = entry_with (of_z w32 (floor_i x)) (ease₃₂ x)

-- place j of the tables says where x lies
pub record Tells (floors : List ℕ) (eases : List Float) (j : ℕ) (x : Float) : Type 0 where
  pub whole : get_or floors j 0 ≡ of_z w32 (floor_i x)
  pub part : get_or eases j nan ≡ ease₃₂ x

-- the whole part by its bits
pub tells_floor : {floors : List ℕ} {eases : List Float} {j : ℕ} {x : Float} → Tells floors eases j x → to_z w32 (get_or floors j 0) ≡ floor_i x
tells_floor {x = x} t = ap (to_z w32) t.whole ∙ floor_again x refl

-- n places from base on tell of xs, and those before base tell what they told
pub record Told (base n : ℕ) (xs : List Float) (floors : List ℕ) (eases : List Float) (floors' : List ℕ) (eases' : List Float) : Type 0 where
  pub long : length floors' ≡ length floors
  pub longer : length eases' ≡ length eases
  pub tells : (i : ℕ) → i < n → Tells floors' eases' (base + i) (at xs i)
  pub before : (j : ℕ) → j < base → (get_or floors' j 0 ≡ get_or floors j 0) × (get_or eases' j nan ≡ get_or eases j nan)

module _ (base : ℕ) (xs : List Float) (floors : List ℕ) (eases : List Float) where
  pub told_none : Told base 0 xs floors eases floors eases
  told_none = record { long = refl; longer = refl; tells = λ (i : ℕ) h. absurd (omega arith); before = λ (j : ℕ) h. (refl, refl) }

  pub told_more : (n : ℕ) (floors' : List ℕ) (eases' : List Float) (e : Entry) → base + n < length floors → base + n < length eases → e ≡ entry_of (at xs n)
      → Told base n xs floors eases floors' eases' → Told base (n + 1) xs floors eases (set floors' (base + n) e.at) (set eases' (base + n) e.ease)
  unfolding entry_of
  told_more n floors' eases' e hf he q t = record {
    long = length-set floors' (base + n) e.at ∙ t.long;
    longer = length-set eases' (base + n) e.ease ∙ t.longer;
    tells = λ (i : ℕ) h. here i h (ltb i n) refl;
    before = λ (j : ℕ) h.
        let k : j ≡ base + n → ⊥ = λ (m : j ≡ base + n). omega arith in
        (get_or-set_other floors' (base + n) j e.at 0 k ∙ (t.before j h).0, get_or-set_other eases' (base + n) j e.ease nan k ∙ (t.before j h).1);
  }
    where
      here : (i : ℕ) → i < n + 1 → (c : Bool) → ltb i n ≡ c → Tells (set floors' (base + n) e.at) (set eases' (base + n) e.ease) (base + i) (at xs i)
      here i l true c =
          let m = ltb-true i n c in
          let k : base + i ≡ base + n → ⊥ = λ (v : base + i ≡ base + n). omega arith in
          record {
            whole = get_or-set_other floors' (base + n) (base + i) e.at 0 k ∙ (t.tells i m).whole;
            part = get_or-set_other eases' (base + n) (base + i) e.ease nan k ∙ (t.tells i m).part;
          }
      here i l false c =
          let k : n ≡ i = (let g = ltb-false i n c in omega arith) in
          let a = t.long in
          let b = t.longer in
          subst (λ (u : ℕ). Tells (set floors' (base + n) e.at) (set eases' (base + n) e.ease) (base + u) (at xs u)) k
          (record {
            whole = get_or-set_same floors' (base + n) e.at 0 (omega arith) ∙ ap (λ (u : Entry). u.at) q;
            part = get_or-set_same eases' (base + n) e.ease nan (omega arith) ∙ ap (λ (u : Entry). u.ease) q;
          })

-- the first m octaves are noted, each with n of 64 places: octave o at place i lies at coord o i
pub record Noted (n m : ℕ) (coord : ℕ → ℕ → Float) (floors : List ℕ) (eases : List Float) : Type 0 where
  pub tells : (o i : ℕ) → o < m → i < n → Tells floors eases (o * 64 + i) (coord o i)

module _ (n : ℕ) (coord : ℕ → ℕ → Float) where
  pub noted_none : (floors : List ℕ) (eases : List Float) → Noted n 0 coord floors eases
  noted_none floors eases = record { tells = λ (o i : ℕ) h k. absurd (omega arith) }

  pub noted_more : (m : ℕ) (xs : List Float) (floors : List ℕ) (eases : List Float) (floors' : List ℕ) (eases' : List Float) → n ≤ 64
      → ((i : ℕ) → i < n → at xs i ≡ coord m i) → Told (m * 64) n xs floors eases floors' eases'
      → Noted n m coord floors eases → Noted n (m + 1) coord floors' eases'
  noted_more m xs floors eases floors' eases' h e t d = record { tells = λ (o i : ℕ) k l. here o i k l (ltb o m) refl }
    where
      here : (o i : ℕ) → o < m + 1 → i < n → (c : Bool) → ltb o m ≡ c → Tells floors' eases' (o * 64 + i) (coord o i)
      here o i k l true c =
          let b = ltb-true o m c in
          let s = t.before (o * 64 + i) (omega arith) in
          record { whole = s.0 ∙ (d.tells o i b l).whole; part = s.1 ∙ (d.tells o i b l).part }
      here o i k l false c =
          let b : m ≡ o = (let g = ltb-false o m c in omega arith) in
          subst (λ (u : ℕ). Tells floors' eases' (u * 64 + i) (coord u i)) b (subst (Tells floors' eases' (m * 64 + i)) (e i l) (t.tells i l))
