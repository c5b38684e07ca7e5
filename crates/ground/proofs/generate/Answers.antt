-- `ground::generate` meets its contract. Assumes nothing.
use Rattle.std.proofs.Common.{◌≡◌, ℕ, List, [], ◌∷◌, length, sym, ap, ◌∙◌, subst, ap₂, arith}
use Rattle.config.specs.Answers.{accepted, not_refused, cells_outcome}
use Rattle.grid.specs.Cube.{Cube}
use Rattle.grid.specs.Count.{non_air_count, count_most}
use Rattle.grid.specs.Grid.{cube_most}
use Rattle.ground_cell.specs.World.{Tall, Near}
use Rattle.ground_cell.specs.declared.world.Frame.{Frame}
use Rattle.ground.specs.Ground.{ground_in, world_of, frame_of, ground, generate_does}
use Rattle.ground.specs.Facts.{sound_settings, tall_of, near_of}
use Rattle.ground.proofs.generate.Goals as goal

pub world_of-w-requires : goal.world_of-w-requires
world_of-w-requires c =
    let q = sound_settings _ _ _ (sym c.in_ok-refusal_of.ensures) in
    (q.within.height, q.within.sea)

pub frame_of-o-requires : goal.frame_of-o-requires
frame_of-o-requires c = (sound_settings _ _ _ (sym c.in_ok-refusal_of.ensures)).within

pub lay_chunk-count-requires : goal.lay_chunk-count-requires
unfolding frame_of
lay_chunk-count-requires c =
    let a = c.args in
    let q = sound_settings _ _ _ (sym c.in_ok-refusal_of.ensures) in (
      subst Tall (sym c.world_of-w.ensures) (tall_of a.config a.pos q.within),
      subst Near (sym c.frame_of-o.ensures) (near_of a.config a.pos q.within),
      subst (λ (o : Frame). Cube o.size a.cells.now) (sym c.frame_of-o.ensures) (record { most = q.within.most; all = q.all }),
    )

pub overflow_cast-result : goal.overflow_cast-result
overflow_cast-result c =
    let q = sound_settings _ _ _ (sym c.in_ok-refusal_of.ensures) in
    let laid = c.lay_chunk-count.new.cells in
    let l : length laid ≡ length c.args.cells.now = c.lay_chunk-count.auto.cells in
    let k : c.lay_chunk-count.result ≡ non_air_count laid =
    c.lay_chunk-count.ensures.1 ∙ ap non_air_count (sym c.lay_chunk-count.ensures.0) in
    let most = count_most laid in
    let cube = cube_most c.args.config.chunk_size q.within.most in
    let all = q.all in
    record { fits = omega arith }

pub returns : goal.returns
unfolding generate_does ground
returns c =
    let a = c.args in
    let laid = c.lay_chunk-count.new.cells in
    let r = c.lay_chunk-count.ensures in
    let k : c.lay_chunk-count.result ≡ non_air_count laid = r.1 ∙ ap non_air_count (sym r.0) in
    let g : laid ≡ ground_in (world_of a.config) (frame_of a.config a.pos) = r.0 ∙ ap₂ ground_in c.world_of-w.ensures c.frame_of-o.ensures in
    ap (λ (k : ℕ). cells_outcome (accepted (k ∷ [])) laid) k
    ∙ ap (λ (d : List ℕ). cells_outcome (accepted (non_air_count d ∷ [])) d) g
    ∙ sym (not_refused _ _ _ (sym c.in_ok-refusal_of.ensures))
