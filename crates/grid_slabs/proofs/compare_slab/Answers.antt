-- A pair is the next cell of either run. Assumes nothing.
use Rattle.std.proofs.Common.{rules, ◌≡◌, ℕ, ◌+◌, ◌<◌, length, get_or, take, drop, ap, ap₂, ◌∙◌, arith, length-take, get_or-take, get_or-drop}
use Rattle.std.proofs.lemmas.List.{length_push}
use Rattle.std.proofs.lemmas.Slice.Zip.{zip_turn}
use Rattle.grid.specs.Count.{non_air, non_air_most}
use Rattle.grid.specs.Differing.{apart, apart_most}
use Rattle.grid_slabs.specs.Runs.{apart_none, blocks_none, apart_more, blocks_more}
use Rattle.grid_slabs.proofs.compare_slab.Goals as goal

pub loop-kept-init : goal.loop-kept-init
loop-kept-init c = let a = c.args in record {
  altered_few = omega arith;
  count_few = omega arith;
  altered = apart_none a.old.now a.cells.now a.start;
  count = blocks_none a.cells.now a.start;
}

pub loop-kept-preserved : goal.loop-kept-preserved
loop-kept-preserved c =
    let a = c.args in
    let l = c.loop-kept in
    let i = length l.yielded in
    let room = c.requires in
    let t =
    zip_turn (take a.n a.old.now) (take a.n (drop a.start a.cells.now)) l.yielded c.into_iter-kept-iterator.result l.kept-iterator
    c.next.new.self _ (cc) (search rules) l.yielded_by _ c.in-Some.is c.next.ensures.steps in
    let h : i < a.n = omega (arith, t.0, length-take a.n a.old.now) in
    let k : c.in-Some.kept.now ≡ get_or a.old.now i 0 = t.2 0 ∙ get_or-take a.n a.old.now i 0 h in
    let v : c.in-Some.cell.now ≡ get_or a.cells.now (a.start + i) 0 =
    t.3 0 ∙ get_or-take a.n (drop a.start a.cells.now) i 0 h ∙ get_or-drop a.start a.cells.now i 0 in
    let x = c.apart-altered.ensures ∙ ap₂ apart k v in
    let y = c.non_air.ensures ∙ ap non_air v in
    let p = apart_most (get_or a.old.now i 0) (get_or a.cells.now (a.start + i) 0) in
    let q = non_air_most (get_or a.cells.now (a.start + i) 0) in
    let w = l.invariant in
    rw length_push record {
      altered_few = let m = w.altered_few in omega arith;
      count_few = let m = w.count_few in omega arith;
      altered = ap₂ (λ (u v : ℕ). u + v) w.altered x ∙ apart_more a.old.now a.cells.now a.start i (omega arith) (omega arith);
      count = ap₂ (λ (u v : ℕ). u + v) w.count y ∙ blocks_more a.cells.now a.start i (omega arith);
    }
