-- SCOPE 12 k, as what `report` does: the journal is worked out, and the ground comes from the range of heights. Assumes nothing.
use Rattle.std.specs.Prelude.{◌≡◌, refl, List, [], ◌∷◌, ℕ, suc, ◌≤◌, pos, length, take, drop}
use Rattle.std.proofs.Common.{◌∙◌, ap, arith, length-take-le}
use Rattle.text.specs.Decimal.{decimal, decimal_f}
use Rattle.config.specs.declared.Header.{Header}
use Rattle.config.specs.Refusals.{refusal}
use Rattle.config.specs.Limits.{header, limit_refusal, size_ok, seed_ok, sea_ok, height_ok, place_ok, places_ok}
use Rattle.grid.specs.Cube.{inside, put_at, see_at}
use Rattle.grid.specs.Count.{non_air_count}
use Rattle.journal_format.specs.Fields.{fields, join_tabs, whole_of, integer_of, integers_of, tagged_of}
use Rattle.journal_format.specs.Line.{set, cell_ok, set_of, column_ok, column_of, line_of, header_of}
use Rattle.journal_format.specs.Journal.{lines_from, lines, committed, after_line, active, none_active, read, follow}
use Rattle.ground.specs.Ground.{ground}
use Rattle.journal_open.specs.Opens.{Opens, opening_of}
use Rattle.session_calls.specs.Asked.{lay_edit, lay_all}
use Rattle.session_calls.specs.Calls.{session, Resumed, resumed, config_of, pos_of, open_with, session_reopen_does}
use Rattle.session_calls.specs.Reopened.{Opened}
use Rattle.session_reopen.proofs.Opens.{open_with_lem}
use Rattle.session_reopen.proofs.Reopens.{from_opening, reopen_is}
use Rattle.openmap_lines.specs.Text.{fields_line, fields_of, each, ok_text, row_text, layer_text, map_text}
use Rattle.openmap_report.specs.Text.{answer_text, report_text}
use Rattle.openmap_report.specs.Report.{lent_by, lent_cells}
use Rattle.openmap_report.specs.Laws.{printed}
use Rattle.openmap_report.proofs.Laws.{report_prints}
use Rattle.marked_listing.specs.Sky.{listing_config, listing_place, listing_ground}
use Rattle.marked_listing.specs.Listing.{listing_journal, listing_text, listing_printed}

abbrev first : Header
first = header (pos 0) (pos 4096) (pos 256) (pos 2) (pos 0) (pos 128) (pos 0)

opens : opening_of listing_journal 48 ≡ Opens first 45 23
unfolding opening_of lines lines_from committed header_of tagged_of fields integers_of integer_of whole_of limit_refusal refusal size_ok seed_ok
    sea_ok height_ok places_ok place_ok
opens = refl

later : follow 2 2 none_active (lines (drop 23 (take 45 listing_journal))) ≡ read (active (set 0 0 0 0 ∷ []) [])
unfolding follow after_line lines lines_from line_of tagged_of fields integers_of integer_of whole_of set_of cell_ok column_of column_ok
later = refl

limits : limit_refusal first ≡ 0
unfolding limit_refusal refusal size_ok seed_ok sea_ok height_ok places_ok place_ok
limits = refl

-- the first line has the size 2
lent : lent_cells listing_journal 48 ≡ 8
unfolding lent_cells
lent = ap lent_by opens

-- the set of air at (0, 0, 0) is active, the column was undone
abbrev laid : List ℕ
laid = 0 ∷ 5 ∷ 5 ∷ 5 ∷ 5 ∷ 5 ∷ 5 ∷ 5 ∷ []

lays : lay_all 2 (ground listing_config listing_place) (set 0 0 0 0 ∷ []) ≡ laid
unfolding lay_all lay_edit put_at inside
lays = ap (λ (g : List ℕ). lay_all 2 g (set 0 0 0 0 ∷ [])) listing_ground

many : length (lines (drop 23 (take 45 listing_journal))) ≡ 3
unfolding lines lines_from
many = refl

abbrev opened : List ℕ → ℕ → Resumed
opened c n = resumed (Opened (session listing_config listing_place (non_air_count c) 45 1) (suc n) 3) c

reopened : (c : List ℕ) → length c ≡ 8 → session_reopen_does c listing_journal 48 ≡ opened laid 3
reopened c e =
    reopen_is c listing_journal 48
    ∙ ap (from_opening c listing_journal 48) opens
    ∙ open_with_lem c 45 3 first (lines (drop 23 (take 45 listing_journal))) limits e
    ∙ ap (open_with (config_of first) (pos_of first) 45 (suc (length (lines (drop 23 (take 45 listing_journal))))) 3 c) later
    ∙ (λ i. opened (lays i) (many i))

-- the text of what was reopened
text : report_text (opened laid 3) ≡ listing_text
unfolding report_text answer_text ok_text map_text layer_text row_text each fields_of fields_line join_tabs decimal decimal_f non_air_count see_at inside
text = refl

prints : (c : List ℕ) → 4096 ≤ length c → printed listing_journal 48 c ≡ listing_text
prints c h =
    let l : length (take (lent_cells listing_journal 48) c) ≡ 8 = ap (λ (n : ℕ). length (take n c)) lent ∙ length-take-le 8 c (omega arith) in
    ap report_text (reopened (take (lent_cells listing_journal 48) c) l) ∙ text

pub listing_printed_lem : (c o : List ℕ) → 4096 ≤ length c → 25000 ≤ length o → listing_printed c o ≡ listing_text
listing_printed_lem c o h k =
    let e = ap length (prints c h) in
    report_prints listing_journal 48 c o h k (omega arith) ∙ prints c h
