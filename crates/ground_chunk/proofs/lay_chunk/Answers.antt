-- `ground_chunk::lay_chunk` meets its contract. Assumes nothing.
use mathlib.Core.Path.{◌≡◌, sym, ap, ◌∙◌}
use Prim.Native.Nat.{ℕ}
use lib.ListN.{length}
use Rattle.grid.specs.Count.{non_air_count}
use Rattle.grid.specs.Grid.{all_long}
use Rattle.ground_uniform.specs.Place.{all_of}
use Rattle.ground_uniform.specs.Counts.{stone_count, air_count}
use Rattle.ground_uniform.specs.Laws.{ground_deep, ground_sky}
use Rattle.ground_chunk.specs.Laid.{ground_in}
use Rattle.ground_chunk.proofs.lay_chunk.Goals as goal

pub returns-then-is_deep : goal.returns-then-is_deep
unfolding ground_in
returns-then-is_deep c =
    let w = c.args.w in
    let o = c.args.o in
    let deep = sym c.is_deep.ensures ∙ c.if-is_deep.true in
    let n = length c.args.cells.now in
    let filled : c.fill.new.cells ≡ all_of n 1 = c.fill.ensures in
    let laid = filled ∙ ap (λ (n : ℕ). all_of n 1) c.requires.2.all ∙ sym (ground_deep w o c.requires.0 c.requires.1 deep) in
    (laid, ap length filled ∙ all_long n 1 ∙ sym (stone_count n) ∙ ap non_air_count (sym filled ∙ laid))

pub returns-then-is_sky : goal.returns-then-is_sky
unfolding ground_in
returns-then-is_sky c =
    let w = c.args.w in
    let o = c.args.o in
    let sky = sym c.is_sky.ensures ∙ c.if-is_sky.true in
    let n = length c.args.cells.now in
    let filled : c.fill-then-is_sky.new.cells ≡ all_of n 0 = c.fill-then-is_sky.ensures in
    let laid = filled ∙ ap (λ (n : ℕ). all_of n 0) c.requires.2.all ∙ sym (ground_sky w o c.requires.0 c.requires.1 sky) in
    (laid, sym (air_count n) ∙ ap non_air_count (sym filled ∙ laid))

pub returns : goal.returns
returns c =
    let laid = c.lay.ensures in
    (laid, c.count_non_air.ensures ∙ ap non_air_count laid)
