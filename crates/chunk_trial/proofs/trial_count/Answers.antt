use Rattle.std.proofs.Common.{◌≡◌, ◌+◌, ◌*◌, ◌/◌, ◌≤◌, refl, sym, ap, ◌∙◌, arith, length}
use Rattle.std.proofs.lemmas.Grind.{div_ceil_times}
use Rattle.grid.specs.Count.{non_air_count}
use Rattle.chunk_groups.specs.Laid.{laid, laid_length, laid_all}
use Rattle.chunk_trial.specs.Trial.{part_laid, part_laid_lem, count_to, count_to_none, count_to_more, count_to_most, count_to_all}
use Rattle.chunk_trial.proofs.trial_count.Goals.{After-count_non_air-total}
use Rattle.chunk_trial.proofs.trial_count.Goals as goal

pub loop-k-init : goal.loop-k-init
loop-k-init c = sym (count_to_none _)

-- what one part more counts
more : (c : After-count_non_air-total)
    → let d = laid c.args.size c.args.edits.now (length c.args.edits.now / 4) c.args.cells.now in
    count_to (c.loop-k.k * 16384) d + c.count_non_air-total.result ≡ count_to (c.loop-k.k * 16384 + 16384) d
more c =
    let a = c.args in
    let start = c.loop-k.k * 16384 in
    let n = length a.edits.now / 4 in
    let p = c.lay_part.ensures ∙ ap (part_laid start a.size a.edits.now n) c.copy_part.ensures in
    let q = p ∙ part_laid_lem start a.size a.edits.now n a.cells.now c.requires.0.all in
    let f = c.count_non_air-total.ensures ∙ ap non_air_count q in
    let g = count_to_more start (laid a.size a.edits.now n a.cells.now) in
    omega arith

pub overflow_add-total : goal.overflow_add-total
overflow_add-total c =
    let a = c.args in
    let m = count_to_most (c.loop-k.k * 16384 + 16384) (laid a.size a.edits.now (length a.edits.now / 4) a.cells.now) in
    omega (arith, more c)

pub loop-k-preserved : goal.loop-k-preserved
loop-k-preserved c =
    let a = c.args in
    let d = laid a.size a.edits.now (length a.edits.now / 4) a.cells.now in
    let k = c.loop-k.k in
    ap (λ n. n + c.count_non_air-total.result) c.loop-k.invariant
    ∙ more c
    ∙ ap (λ n. count_to n d) (let e : k * 16384 + 16384 ≡ (k + 1) * 16384 = omega arith in e)

pub returns : goal.returns
returns c =
    let a = c.args in
    let n = length a.edits.now / 4 in
    let t : length a.cells.now ≤ c.loop-k.k * 16384 = omega (arith, div_ceil_times (length a.cells.now) 16384 (omega arith)) in
    let m = laid_length a.size a.edits.now n a.cells.now in
    c.loop-k.invariant
    ∙ count_to_all (c.loop-k.k * 16384) (laid a.size a.edits.now n a.cells.now) (omega arith)
    ∙ ap non_air_count (laid_all a.size a.edits.now n a.cells.now refl)
