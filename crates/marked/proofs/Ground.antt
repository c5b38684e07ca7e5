-- SCOPE 12 d to j hold: by computation, but for the low world, which goes by the range of heights. Assumes nothing.
use Rattle.std.specs.Prelude.{◌≡◌, refl, ℤ, pos, nat_abs, ◌-ℤ◌, Float}
use Rattle.std.proofs.Common.{ap, arith}
use Rattle.std.specs.Float.Ieee.{mul, div, lt, to_signed}
use Rattle.num_core.specs.Num.{nearest, to_i32}
use Rattle.column.specs.Column.{biome_and_height}
use Rattle.column.specs.Heights.{Range, height_range}
use Rattle.config.specs.Refusals.{refusal}
use Rattle.config.specs.Limits.{size_ok, seed_ok, sea_ok, height_ok, place_ok, places_ok, limit_refusal}
use Rattle.ground_cell.specs.Blocks.{desert_block, mountain_top, mountain_block, shore_block, plains_block, select_block}
use Rattle.ground_cell.specs.World.{height_at}
use Rattle.ground_trees.specs.Features.{leaf_radius, radii, boulder_height, boulder_blocks}
use Rattle.grid.specs.Cube.{tab}
use Rattle.ground.specs.Ground.{world_of}
use Rattle.marked.specs.Example.{Holds, AllHold, end, ◌and◌}
use Rattle.marked.specs.Ground.{rows_d, rows_e, rows_f, rows_g, rows_h, low_world, rows_i, rows_j}

pub holds_d : AllHold rows_d
unfolding select_block desert_block
holds_d = refl and refl and refl and refl and end

pub holds_e : AllHold rows_e
unfolding select_block mountain_top mountain_block
holds_e = refl and refl and refl and refl and end

pub holds_f : AllHold rows_f
unfolding select_block shore_block plains_block
holds_f = refl and refl and end

pub holds_g : AllHold rows_g
unfolding radii tab leaf_radius nearest div lt
holds_g = refl and refl and end

pub holds_h : AllHold rows_h
unfolding boulder_blocks boulder_height to_i32 to_signed nearest mul lt
holds_h = refl and refl and end

-- a column is 1 high where that is the greatest height
one_high : (wx wz sea top : ℤ) (offset : Float) → top ≡ pos 1 → nat_abs (biome_and_height wx wz sea top offset).height ≡ 1
one_high wx wz sea top offset e =
    let r : Range 1 (biome_and_height wx wz sea (pos 1) offset).height = height_range wx wz sea 1 offset (omega arith) in
    let l = r.least in
    let m = r.most in
    rw e (omega arith)

low_world_lem : Holds low_world
unfolding world_of height_at
low_world_lem s e wx wz =
    let w = world_of s in
    one_high wx wz w.sea_level w.max_height w.seed_offset (ap (λ (z : ℤ). z -ℤ pos 1) e)

pub holds_i : AllHold rows_i
unfolding limit_refusal refusal size_ok seed_ok sea_ok height_ok places_ok place_ok
holds_i = ◌and◌ {e = low_world} low_world_lem (refl and refl and end)

pub holds_j : AllHold rows_j
unfolding limit_refusal refusal size_ok seed_ok sea_ok height_ok places_ok place_ok
holds_j = refl and refl and refl and refl and end
