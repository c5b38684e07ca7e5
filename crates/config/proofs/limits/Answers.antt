-- `config::limits` meets its contract: each test is that of its definition, and those before it hold. Assumes nothing.
use mathlib.Core.Path.{◌≡◌, sym, ◌∙◌}
use mathlib.Core.Bool.{true}
use native.Mathlib.Omega.{arith}
use lib.IntN.{pos, negsuc}
use Rattle.config.specs.Refusals.{refusal}
use Rattle.config.specs.Limits.{size_ok, seed_most, seed_ok, sea_ok, height_ok, limit_refusal}
use Rattle.config.specs.declared.Header.{Header}
use Rattle.config.proofs.Products.{range_no, range_yes}
use Rattle.config.proofs.limits.Goals.{Else-not-in_range, Else-not-in_range-2, Else-not-in_range-3, Else-not-in_range-4}
use Rattle.config.proofs.limits.Goals as goal

-- the header, seen from behind each test
abbrev after1 : Else-not-in_range → Header
after1 c = c.args.h

abbrev after2 : Else-not-in_range-2 → Header
after2 c = after1 (goal.at.Else-not-in_range-2 c).Else-not-in_range

abbrev after3 : Else-not-in_range-3 → Header
after3 c = after2 (goal.at.Else-not-in_range-3 c).Else-not-in_range-2

abbrev after4 : Else-not-in_range-4 → Header
after4 c = after3 (goal.at.Else-not-in_range-4 c).Else-not-in_range-3

size_yes : (c : Else-not-in_range) → size_ok (after1 c).chunk_size ≡ true
unfolding size_ok
size_yes c =
    range_yes (pos 1) (pos 64) (after1 c).chunk_size (record { sfits = omega arith }) c.in_range.ensures c.if-not-in_range.false

pub returns-then-not-in_range : goal.returns-then-not-in_range
unfolding limit_refusal refusal size_ok
returns-then-not-in_range c =
    let h = c.args.h in
    rw (range_no (pos 1) (pos 64) h.chunk_size (record { sfits = omega arith }) c.in_range.ensures c.if-not-in_range.true)

seed_yes : (c : Else-not-in_range-2) → seed_ok (after2 c).seed ≡ true
unfolding seed_ok
seed_yes c =
    range_yes (pos 0) (pos seed_most) (after2 c).seed (record { sfits = omega arith }) c.in_range-2.ensures c.if-not-in_range-2.false

pub returns-then-not-in_range-2 : goal.returns-then-not-in_range-2
unfolding limit_refusal refusal seed_ok
returns-then-not-in_range-2 c =
    let e = (goal.at.returns-then-not-in_range-2 c).Else-not-in_range in
    rw (size_yes e, range_no (pos 0) (pos seed_most) (after1 e).seed (record { sfits = omega arith }) c.in_range-2.ensures c.if-not-in_range-2.true)

sea_yes : (c : Else-not-in_range-3) → sea_ok (after3 c).sea_level ≡ true
unfolding sea_ok
sea_yes c =
    range_yes (negsuc 4095) (pos 4096) (after3 c).sea_level (record { sfits = omega arith }) c.in_range-3.ensures c.if-not-in_range-3.false

pub returns-then-not-in_range-3 : goal.returns-then-not-in_range-3
unfolding limit_refusal refusal sea_ok
returns-then-not-in_range-3 c =
    let e = (goal.at.returns-then-not-in_range-3 c).Else-not-in_range-2 in
    let n = range_no (negsuc 4095) (pos 4096) (after2 e).sea_level (record { sfits = omega arith }) c.in_range-3.ensures c.if-not-in_range-3.true in
    rw (size_yes (goal.at.Else-not-in_range-2 e).Else-not-in_range, seed_yes e, n)

height_yes : (c : Else-not-in_range-4) → height_ok (after4 c).world_height_blocks ≡ true
unfolding height_ok
height_yes c =
    range_yes (pos 2) (pos 4096) (after4 c).world_height_blocks (record { sfits = omega arith }) c.in_range-4.ensures c.if-not-in_range-4.false

pub returns-then-not-in_range-4 : goal.returns-then-not-in_range-4
unfolding limit_refusal refusal height_ok
returns-then-not-in_range-4 c =
    let e = (goal.at.returns-then-not-in_range-4 c).Else-not-in_range-3 in
    let d = (goal.at.Else-not-in_range-3 e).Else-not-in_range-2 in
    let n = range_no (pos 2) (pos 4096) (after3 e).world_height_blocks (record { sfits = omega arith }) c.in_range-4.ensures c.if-not-in_range-4.true in
    rw (size_yes (goal.at.Else-not-in_range-2 d).Else-not-in_range, seed_yes d, sea_yes e, n)

pub places_fit-requires : goal.places_fit-requires
places_fit-requires c =
    let d = (goal.at.places_fit-requires c).Else-not-in_range in
    (size_yes d, d.requires)

pub returns-then-places_fit : goal.returns-then-places_fit
unfolding limit_refusal refusal
returns-then-places_fit c =
    let f = (goal.at.returns-then-places_fit c).Else-not-in_range-4 in
    let e = (goal.at.Else-not-in_range-4 f).Else-not-in_range-3 in
    let d = (goal.at.Else-not-in_range-3 e).Else-not-in_range-2 in
    rw (size_yes (goal.at.Else-not-in_range-2 d).Else-not-in_range, seed_yes d, sea_yes e, height_yes f, sym c.places_fit.ensures ∙ c.if-places_fit.true)

pub returns-else-places_fit : goal.returns-else-places_fit
unfolding limit_refusal refusal
returns-else-places_fit c =
    let f = (goal.at.returns-else-places_fit c).Else-not-in_range-4 in
    let e = (goal.at.Else-not-in_range-4 f).Else-not-in_range-3 in
    let d = (goal.at.Else-not-in_range-3 e).Else-not-in_range-2 in
    rw (size_yes (goal.at.Else-not-in_range-2 d).Else-not-in_range, seed_yes d, sea_yes e, height_yes f, sym c.places_fit.ensures ∙ c.if-places_fit.false)
