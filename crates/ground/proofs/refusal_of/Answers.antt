-- `ground::refusal_of` meets its contract. Assumes nothing.
use Rattle.std.proofs.Common.{◌≡◌, ◌*◌, ◌≤◌, [], sym, ◌∙◌, arith, eq-eqb, ne_eqb}
use Rattle.std.proofs.lemmas.Result.{err_from_is_err_and}
use Rattle.config.specs.Refusals.{refusal_pass, refusal_stop, refusal_none, passed_on, passed_stop}
use Rattle.config.specs.Limits.{limit_refusal, config_header, fine}
use Rattle.config.specs.Numbers.{number_some}
use Rattle.config.specs.declared.TerrainConfig.{TerrainConfig}
use Rattle.config.specs.declared.ChunkPos.{ChunkPos}
use Rattle.grid.specs.Grid.{square_most, cube_most}
use Rattle.ground.specs.Ground.{generate_refusal}
use Rattle.ground.proofs.refusal_of.Goals as goal

pub returns-in_err-config_limits : goal.returns-in_err-config_limits
unfolding generate_refusal
returns-in_err-config_limits c =
    let p = err_from_is_err_and c.from_residual.result c.from_residual.ensures.1 in
    let e = c.in_err-config_limits.ensures in
    rw (p.1, p.2) (e ∙ sym (passed_stop _ _ (λ q. number_some _ (e ∙ q))))

-- a size within its limits has few cells
module _ (s : TerrainConfig) (p : ChunkPos) (z : limit_refusal (config_header s p) ≡ 0) where
  square : s.chunk_size * s.chunk_size ≤ 4096
  square = square_most s.chunk_size (fine s p z).most

  cube : s.chunk_size * s.chunk_size * s.chunk_size ≤ 262144
  cube = cube_most s.chunk_size (fine s p z).most

pub overflow_mul-size : goal.overflow_mul-size
overflow_mul-size c = omega (arith, square _ _ (sym c.in_ok-config_limits.ensures))

pub overflow_mul-size-2 : goal.overflow_mul-size-2
overflow_mul-size-2 c = omega (arith, cube _ _ (sym c.in_ok-config_limits.ensures))

pub returns-then-n-size : goal.returns-then-n-size
unfolding generate_refusal
returns-then-n-size c =
    sym (passed_on _ _ (sym c.in_ok-config_limits.ensures) ∙ refusal_stop _ 6 [] (ne_eqb _ _ c.if-n-size.true))

pub returns : goal.returns
unfolding generate_refusal
returns c =
    sym (passed_on _ _ (sym c.in_ok-config_limits.ensures) ∙ refusal_pass _ 6 [] (eq-eqb _ _ c.if-n-size.false) ∙ refusal_none)
