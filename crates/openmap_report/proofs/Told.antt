-- What reopening leaves, as `report` prints it. Assumes nothing.
use mathlib.Core.Path.{◌≡◌, refl, sym, ◌∙◌, ap, subst}
use mathlib.Core.List.{List, ◌++◌}
use mathlib.Core.Option.{some}
use Prim.Native.Nat.{ℕ, suc, ◌-◌, ◌*◌, ◌≤◌, ◌<◌}
use native.Mathlib.Nat.{zero-add, mul-le-mul}
use native.Mathlib.Omega.{arith}
use lib.IntN.{nat_abs}
use lib.ListN.{length, take, drop}
use lib.Dec.{leb, eqb}
use borrow.Author.Tests.{le-leb, lt-leb, leb-true, eqb-true, eqb-false}
use Rattle.basics.specs.Bools.{pick, by_bool}
use Rattle.config.specs.declared.Header.{Header}
use Rattle.config.specs.declared.TerrainConfig.{TerrainConfig}
use Rattle.config.specs.declared.ChunkPos.{ChunkPos}
use Rattle.config.specs.Limits.{limit_refusal}
use Rattle.journal_format.specs.Journal.{lines, Read, read, bad, follow, none_active}
use Rattle.journal_open.specs.Opens.{Opening, Opens, Refused as Shut, opening_of}
use Rattle.journal_open.proofs.Accepts.{opening_facts}
use Rattle.session_calls.specs.Record.{size_of, cube}
use Rattle.session_calls.specs.Calls.{Resumed, resumed, config_of, pos_of, open_with, open_header, session_reopen_does}
use Rattle.session_calls.specs.Reopened.{Reopened, Opened, Refused}
use Rattle.session_reopen.proofs.Numbers.{size_natural}
use Rattle.session_reopen.proofs.Opens.{open_six, open_with_lem}
use Rattle.session_reopen.proofs.Reopens.{from_opening, reopen_is}
use Rattle.openmap_report.specs.Text.{answer_text, report_text}
use Rattle.openmap_lines.specs.Appended.{Appended}
use Rattle.openmap_report.specs.Fits.{Sized}
use Rattle.openmap_report.specs.Report.{lent_cells, reported, told, report_does}

-- ---- an opened map's cells are of its size

abbrev SizedBy : Reopened → ℕ → Type 0
SizedBy (Opened s many trailing) n = (size_of s ≤ 64) × (n ≡ cube (size_of s))
SizedBy (Refused number line) n = Unit {0}

with_read : (c : List ℕ) (config : TerrainConfig) (pos : ChunkPos) (used many trailing : ℕ) → config.chunk_size ≤ 64 → length c ≡ cube config.chunk_size
    → (x : Read) → SizedBy (open_with config pos used many trailing c x).answer (length c)
with_read c config pos used many trailing h e (read a) = (h, e)
with_read c config pos used many trailing h e (bad k) = tt

by_header : (c : List ℕ) (used trailing : ℕ) (h : Header) (ls : List (List ℕ)) → limit_refusal h ≡ 0
    → SizedBy (open_header c used trailing (some h) ls).answer (length c)
by_header c used trailing h ls z =
    by_bool (eqb (length c) (cube (nat_abs h.chunk_size)))
    (λ t. subst (λ (r : Resumed). SizedBy r.answer (length c))
    (sym (open_with_lem c used trailing h ls z (eqb-true _ _ t)))
    (with_read c (config_of h) (pos_of h) used (suc (length ls)) trailing (size_natural h z) (eqb-true _ _ t) (follow (nat_abs h.chunk_size) 2 none_active ls)))
    (λ f. subst (λ (r : Resumed). SizedBy r.answer (length c)) (sym (open_six c used trailing h ls z (eqb-false _ _ f))) tt)

by_opening : (c j : List ℕ) (held : ℕ) (o : Opening) → opening_of j held ≡ o → SizedBy (from_opening c j held o).answer (length c)
by_opening c j held (Shut number line) e = tt
by_opening c j held (Opens h n k) e = by_header c n (held - n) h (lines (drop k (take n j))) (opening_facts j held h n k e).limits

as_sized : (a : Reopened) (n : ℕ) (d : List ℕ) → length d ≡ n → SizedBy a n → Sized a d
as_sized (Opened s many trailing) n d e h = record { most = h.0; all = e ∙ h.1 }
as_sized (Refused number line) n d e h = tt

pub sized : (c j : List ℕ) (held : ℕ) (a : Reopened) (d : List ℕ) → resumed a d ≡ session_reopen_does c j held → length d ≡ length c → Sized a d
sized c j held a d e l =
    as_sized a (length c) d l
    (subst (λ (r : Resumed). SizedBy r.answer (length c)) (sym (e ∙ reopen_is c j held)) (by_opening c j held (opening_of j held) refl))

-- ---- the definition's cases

module _ (j : List ℕ) (held : ℕ) (c o : List ℕ) where
  pub few_cells : length c < 4096 → reported 0 c o ≡ report_does j held c o
  unfolding report_does
  few_cells h = rw (lt-leb 4096 (length c) h)

  pub few_bytes : 4096 ≤ length c → length o < 25000 → reported 0 c o ≡ report_does j held c o
  unfolding report_does
  few_bytes h k = rw (le-leb 4096 (length c) h, lt-leb 25000 (length o) k)

  enough : 4096 ≤ length c → 25000 ≤ length o
      → told (session_reopen_does (take (lent_cells j held) c) j held) (drop (lent_cells j held) c) o ≡ report_does j held c o
  unfolding report_does
  enough h k = rw (le-leb 4096 (length c) h, le-leb 25000 (length o) k)

  text_told : (a : Reopened) (d rest e : List ℕ) (r : ℕ) → Appended o 0 (answer_text a d) e r → reported r (d ++ rest) e ≡ told (resumed a d) rest o
  unfolding report_text
  text_told a d rest e r h = λ i. reported ((h.behind ∙ zero-add (length (answer_text a d))) i) (d ++ rest) (h.bytes i)

  pub all_told : (n : ℕ) (a : Reopened) (d e : List ℕ) (r : ℕ) → 4096 ≤ length c → 25000 ≤ length o → n ≡ lent_cells j held
      → resumed a d ≡ session_reopen_does (take n c) j held → Appended o 0 (answer_text a d) e r → reported r (d ++ drop n c) e ≡ report_does j held c o
  all_told n a d e r h k l q t =
      text_told a d (drop n c) e r t
      ∙ ap (λ (x : Resumed). told x (drop n c) o) q
      ∙ ap (λ (m : ℕ). told (session_reopen_does (take m c) j held) (drop m c) o) l
      ∙ enough h k

-- ---- no more is lent than 4,096 cells

pub lent_most : (h : Header) (n : ℕ) → n ≡ pick (leb (nat_abs h.chunk_size) 16) (cube (nat_abs h.chunk_size)) 4096 → n ≤ 4096
lent_most h n e =
    by_bool (leb (nat_abs h.chunk_size) 16)
    (λ t. let k = leb-true (nat_abs h.chunk_size) 16 t in
    let m : cube (nat_abs h.chunk_size) ≤ 16 * 16 * 16 = mul-le-mul (mul-le-mul k k) k in
    let q : n ≡ cube (nat_abs h.chunk_size) = rw t at e in
    omega arith)
    (λ f. let q : n ≡ 4096 = rw f at e in omega arith)
