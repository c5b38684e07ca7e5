-- What holds where `generate` refuses nothing (SCOPE 2). Assumes nothing.
use Rattle.std.specs.Prelude.{◌≡◌, ℕ, ◌-◌, ◌*◌, ℤ, pos, ◌-ℤ◌, ◌==◌}
use Rattle.std.proofs.Common.{ap, ◌∙◌, arith, eqb-true}
use Rattle.config.specs.Refusals.{passed_zero, refusal_zero}
use Rattle.config.specs.Limits.{limit_refusal, config_header, Between, Fine, fine}
use Rattle.basics.specs.Integers.{one_less}
use Rattle.config.specs.declared.TerrainConfig.{TerrainConfig}
use Rattle.config.specs.declared.ChunkPos.{ChunkPos}
use Rattle.ground_cell.specs.World.{Tall, Near}
use Rattle.ground.specs.Ground.{world_of, frame_of, generate_refusal}

pub record SoundSettings (s : TerrainConfig) (p : ChunkPos) (n : ℕ) : Type 0 where
  pub limits : limit_refusal (config_header s p) ≡ 0
  pub within : Fine s p
  pub all : n ≡ s.chunk_size * s.chunk_size * s.chunk_size

pub sound_settings : (s : TerrainConfig) (p : ChunkPos) (n : ℕ) → generate_refusal s p n ≡ 0 → SoundSettings s p n
unfolding generate_refusal
sound_settings s p n e =
    let a = passed_zero (limit_refusal (config_header s p)) _ e in
    let b = refusal_zero (n == s.chunk_size * s.chunk_size * s.chunk_size) 5 _ a.1 in
    record { limits = a.0; within = fine s p a.0; all = eqb-true _ _ b.0 }

unfoldable pub tall_of : (s : TerrainConfig) (p : ChunkPos) → Fine s p → Tall (world_of s)
unfolding world_of
tall_of s p f =
    let b : Between 2 4096 s.world_height_blocks = f.height in
    let l = b.least in
    let t = b.most in
    let m = f.sea in
    record {
      top = b.n - 1;
      is = ap (λ (z : ℤ). z -ℤ pos 1) b.is
          ∙ one_less b.n (omega arith);
      least = omega arith;
      most = omega arith;
      sea = omega arith;
    }

pub near_of : (s : TerrainConfig) (p : ChunkPos) → Fine s p → Near (frame_of s p)
unfolding frame_of
near_of s p f = record { some = f.some; most = f.most; x = f.cx; y = f.cy; z = f.cz }
