-- When the program refuses, and with which number (SCOPE 11.3). Assumes nothing.
use Rattle.std.specs.Prelude.{◌≡◌, Bool, true, false, ◌&&◌, List, ◌++◌, ℕ, suc, ◌*◌, ◌-◌, ◌≤◌, ◌<◌, nat_abs, leb, take, drop, get_or}
use Rattle.std.proofs.Common.{sym, ◌∙◌, zero-add, arith, length-append, length-drop, le-leb}
use Rattle.std.proofs.Math.Path.{ap}
use Rattle.std.proofs.Math.Nat.{mul-le-mul}
use Rattle.std.proofs.Math.ListN.{length}
use Rattle.std.proofs.Math.Seq.{length-take-le}
use Rattle.std.proofs.lemmas.Bool.{lt-leb}
use Rattle.config.specs.declared.Header.{Header}
use Rattle.config.specs.declared.TerrainConfig.{TerrainConfig}
use Rattle.config.specs.declared.ChunkPos.{ChunkPos}
use Rattle.grid.specs.Count.{non_air_count}
use Rattle.ground.specs.Ground.{ground}
use Rattle.journal_format.specs.Fields.{join_tabs}
use Rattle.journal_format.specs.Journal.{lines, Read, read, bad, none_active, follow}
use Rattle.journal_format.specs.Written.{written, take_written}
use Rattle.basics.specs.Bools.{pick}
use Rattle.text.specs.Decimal.{decimal, decimal_f}
use Rattle.journal_open.specs.Opens.{Opens, Refused, opening_of}
use Rattle.journal_open.proofs.Accepts.{opening_facts}
use Rattle.session_calls.specs.Record.{cube}
use Rattle.session_calls.specs.Asked.{lay_all}
use Rattle.session_calls.specs.Calls.{config_of, pos_of, open_with, session_reopen_does}
use Rattle.session_reopen.proofs.Opens.{open_six, open_with_lem}
use Rattle.session_reopen.proofs.Reopens.{from_opening, reopen_is}
use Rattle.openmap_lines.specs.Text.{fields_line, ok_text, no_text, map_text}
use Rattle.openmap_report.specs.Text.{answer_text, report_text}
use Rattle.openmap_report.specs.Report.{lent_by, lent_cells, Reported, reported, told, report_does}
use Rattle.openmap_report.specs.Laws.{printed}

-- ---- texts that are not NO 6

-- by the first byte
ok_not_6 : (many actives count trailing : ℕ) (rows : List ℕ) (line : ℕ) → ok_text many actives count trailing ++ rows ≡ no_text 6 line → ⊥
unfolding ok_text no_text fields_line join_tabs
ok_not_6 many actives count trailing rows line e = let z : ◌≡◌ {A = ℕ} 79 78 = ap (λ (t : List ℕ). get_or t 0 0) e in omega arith

-- by the first digit of the number
twelve_not_6 : (k line : ℕ) → no_text 12 k ≡ no_text 6 line → ⊥
unfolding no_text fields_line join_tabs decimal decimal_f
twelve_not_6 k line e = let z : ◌≡◌ {A = ℕ} 49 54 = ap (λ (t : List ℕ). get_or t 3 0) e in omega arith

later_not_6 : (config : TerrainConfig) (pos : ChunkPos) (used many trailing : ℕ) (c : List ℕ) (line : ℕ) (x : Read)
    → report_text (open_with config pos used many trailing c x) ≡ no_text 6 line → ⊥
unfolding report_text answer_text
later_not_6 config pos used many trailing c line (read a) e =
    ok_not_6 many (length a.edits) (non_air_count (lay_all config.chunk_size (ground config pos) a.edits)) trailing
    (map_text config.chunk_size (lay_all config.chunk_size (ground config pos) a.edits)) line e
later_not_6 config pos used many trailing c line (bad k) e = twelve_not_6 k line e

-- ---- which number is printed

module _ (j : List ℕ) (held : ℕ) (c : List ℕ) (enough : 4096 ≤ length c) where
  -- 9 to 11 and 1 to 5 come first, whatever the size
  pub refused_first : (n line : ℕ) → opening_of j held ≡ Refused n line → printed j held c ≡ no_text n line
  unfolding report_text answer_text
  refused_first n line e = ap report_text (reopen_is (take (lent_cells j held) c) j held ∙ ap (from_opening (take (lent_cells j held) c) j held) e)

  module _ (h : Header) (n second : ℕ) (e : opening_of j held ≡ Opens h n second) where
    -- SCOPE 11.3: 6 for a size above 16
    pub above_16 : 16 < nat_abs h.chunk_size → printed j held c ≡ no_text 6 0
    unfolding report_text answer_text lent_cells
    above_16 big =
        ap report_text
        (reopen_is (take (lent_cells j held) c) j held
        ∙ ap (from_opening (take (lent_cells j held) c) j held) e
        ∙ open_six (take (lent_cells j held) c) n (held - n) h (lines (drop second (take n j))) (opening_facts j held h n second e).limits other)
      where
        lent : lent_cells j held ≡ 4096
        lent = ap lent_by e ∙ rw (lt-leb (nat_abs h.chunk_size) 16 big)

        other : length (take (lent_cells j held) c) ≡ cube (nat_abs h.chunk_size) → ⊥
        other q =
            let k : 17 ≤ nat_abs h.chunk_size = omega arith in
            let m : 17 * 17 * 17 ≤ cube (nat_abs h.chunk_size) = mul-le-mul (mul-le-mul k k) k in
            let l : length (take (lent_cells j held) c) ≡ 4096 = ap (λ (i : ℕ). length (take i c)) lent ∙ length-take-le 4096 c enough in
            omega arith

    -- a size of at most 16 is lent its size³ cells
    pub lent_whole : nat_abs h.chunk_size ≤ 16 → length (take (lent_cells j held) c) ≡ cube (nat_abs h.chunk_size)
    unfolding lent_cells
    lent_whole small =
        let k : cube (nat_abs h.chunk_size) ≤ 16 * 16 * 16 = mul-le-mul (mul-le-mul small small) small in
        let l : lent_cells j held ≡ cube (nat_abs h.chunk_size) = ap lent_by e ∙ rw (le-leb (nat_abs h.chunk_size) 16 small) in
        ap (λ (i : ℕ). length (take i c)) l
        ∙ length-take-le (cube (nat_abs h.chunk_size)) c (omega arith)

    -- so that the lines behind the first decide: the map that they give, or 12
    pub later_decide : nat_abs h.chunk_size ≤ 16
        → session_reopen_does (take (lent_cells j held) c) j held
        ≡ open_with (config_of h) (pos_of h) n (suc (length (lines (drop second (take n j))))) (held - n) (take (lent_cells j held) c)
        (follow (nat_abs h.chunk_size) 2 none_active (lines (drop second (take n j))))
    later_decide small =
        reopen_is (take (lent_cells j held) c) j held
        ∙ ap (from_opening (take (lent_cells j held) c) j held) e
        ∙ open_with_lem (take (lent_cells j held) c) n (held - n) h (lines (drop second (take n j)))
        (opening_facts j held h n second e).limits (lent_whole small)

    -- and 6 is never printed
    pub never_6 : nat_abs h.chunk_size ≤ 16 → (line : ℕ) → printed j held c ≡ no_text 6 line → ⊥
    never_6 small line p =
        later_not_6 (config_of h) (pos_of h) n (suc (length (lines (drop second (take n j))))) (held - n) (take (lent_cells j held) c) line
        (follow (nat_abs h.chunk_size) 2 none_active (lines (drop second (take n j))))
        (sym (ap report_text (later_decide small)) ∙ p)

-- ---- the first bytes of the buffer, as many as the answer says, are the text

pub report_prints : (j : List ℕ) (held : ℕ) (c o : List ℕ) → 4096 ≤ length c → 25000 ≤ length o → length (printed j held c) ≤ length o
    → take (report_does j held c o).answer (report_does j held c o).out ≡ printed j held c
unfolding report_does
report_prints j held c o h k l =
    rw (le-leb 4096 (length c) h, le-leb 25000 (length o) k)
    (ap (λ (n : ℕ). take n (written o 0 (printed j held c))) (sym (zero-add (length (printed j held c))))
    ∙ take_written o 0 (printed j held c) (omega arith))

-- ---- the text lies within the buffer, since a buffer keeps its length

written_within : (o t : List ℕ) → length (written o 0 t) ≡ length o → length t ≤ length o
unfolding written
written_within o t e = let l = simp (length-append, length-drop) at e in omega arith

within : (j : List ℕ) (held : ℕ) (c o : List ℕ) → length (report_does j held c o).out ≡ length o → (report_does j held c o).answer ≤ length o
unfolding report_does
within j held c o = go (leb 4096 (length c) && leb 25000 (length o))
  where
    go : (b : Bool)
        → length (pick b (told (session_reopen_does (take (lent_cells j held) c) j held) (drop (lent_cells j held) c) o) (reported 0 c o)).out ≡ length o
        → (pick b (told (session_reopen_does (take (lent_cells j held) c) j held) (drop (lent_cells j held) c) o) (reported 0 c o)).answer ≤ length o
    go true e = written_within o (report_text (session_reopen_does (take (lent_cells j held) c) j held)) e
    go false e = omega arith

pub text_within : (j : List ℕ) (held : ℕ) (c o d e : List ℕ) (r : ℕ) → reported r d e ≡ report_does j held c o → length e ≡ length o → r ≤ length e
text_within j held c o d e r q l =
    let a : r ≡ (report_does j held c o).answer = ap (λ (x : Reported). x.answer) q in
    let b : e ≡ (report_does j held c o).out = ap (λ (x : Reported). x.out) q in
    let w = within j held c o (sym (ap length b) ∙ l) in
    omega arith
