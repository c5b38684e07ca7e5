-- `chunk_tally::tally_in` meets its contract: how many ids there are is known before a list is written. Assumes nothing.
use Rattle.std.proofs.Common.{sym, arith, length}
use Rattle.chunk.specs.Tests.{chunk_passed, chunk_most}
use Rattle.chunk_tally.specs.Does.{refuse_ids, refuse_counts, refuse_none}
use Rattle.chunk_tally.proofs.Does.{does_refuse, does_list}
use Rattle.chunk_tally.proofs.tally_in.Goals.{then-ids-n-via-then-ids-n, then-ids-n-via-else-ids-n+then-counts-n}
use Rattle.chunk_tally.proofs.tally_in.Goals as goal

pub count_ids-n-requires : goal.count_ids-n-requires
count_ids-n-requires c = (c.requires, chunk_most _ _ (chunk_passed _ _ (sym c.in_ok-refuse_chunk.ensures)))

pub returns-then-ids-n : goal.returns-then-ids-n
returns-then-ids-n c =
    let a = c.args in
    let e = sym c.in_ok-refuse_chunk.ensures in
    let n = c.count_ids-n.ensures.0 in
    elim c.then-ids-n.branch [
      | then-ids-n-via-then-ids-n w ↦
          does_refuse a.size a.cells.now a.ids.now a.counts.now 13 (refuse_ids a.size a.cells.now _ _ e (omega arith)) (λ q. omega arith)
      | then-ids-n-via-else-ids-n+then-counts-n w ↦
          does_refuse a.size a.cells.now a.ids.now a.counts.now 13 (refuse_counts a.size a.cells.now _ _ e (omega arith)) (λ q. omega arith)
    ]

pub list_ids-requires : goal.list_ids-requires
list_ids-requires c =
    let m = chunk_most _ _ (chunk_passed _ _ (sym c.in_ok-refuse_chunk.ensures)) in
    let n = c.count_ids-n.ensures in
    (omega arith, omega arith, omega arith, omega arith, omega arith)

pub returns : goal.returns
returns c =
    let a = c.args in
    let n = c.count_ids-n.ensures in
    let none = refuse_none a.size a.cells.now (length a.ids.now) (length a.counts.now) (sym c.in_ok-refuse_chunk.ensures) (omega arith) (omega arith) in
    does_list a.size a.cells.now a.ids.now a.counts.now _ _ _ none n.0 c.list_ids.ensures.0 c.list_ids.ensures.1
