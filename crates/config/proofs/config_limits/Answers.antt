-- `config::config_limits` meets its contract. Assumes nothing.
use mathlib.Core.Path.{sym, ap, ◌∙◌}
use native.Mathlib.Omega.{arith}
use lib.IntN.{pos}
use mir.Syntax.{w32, w64}
use mir.Val.{SFits}
use mir.ValLaws.{to_z_pos}
use Rattle.config.specs.Refusals.{refusal_stop}
use Rattle.config.specs.Limits.{size_ok, size_large, limit_refusal, config_header, header_same}
use Rattle.config.proofs.Products.{widen_mag}
use Rattle.basics.specs.Words.{widen_fits, widen_same}
use Rattle.config.proofs.config_limits.Goals as goal

pub returns-then-size-gt-SIZE_MOST : goal.returns-then-size-gt-SIZE_MOST
unfolding limit_refusal config_header
returns-then-size-gt-SIZE_MOST c = sym (refusal_stop (size_ok (pos c.args.config.chunk_size)) 1 _ (size_large c.args.config.chunk_size c.if-size-gt-SIZE_MOST.true))

pub overflow_cast-config-2 : goal.overflow_cast-config-2
overflow_cast-config-2 c = widen_fits c.args.config.sea_level (record { sfits = (omega arith) })

pub overflow_cast-config-3 : goal.overflow_cast-config-3
overflow_cast-config-3 c =
    widen_fits c.args.config.world_height_blocks (record { sfits = (omega arith) })

pub overflow_cast-pos : goal.overflow_cast-pos
overflow_cast-pos c =
    widen_fits c.args.pos.cx (record { sfits = (omega arith) })

pub overflow_cast-pos-2 : goal.overflow_cast-pos-2
overflow_cast-pos-2 c =
    widen_fits c.args.pos.cy (record { sfits = (omega arith) })

pub overflow_cast-pos-3 : goal.overflow_cast-pos-3
overflow_cast-pos-3 c =
    widen_fits c.args.pos.cz (record { sfits = (omega arith) })

pub limits-requires : goal.limits-requires
limits-requires c =
    let fx : SFits w32 c.args.pos.cx = record { sfits = (omega arith) } in
    let fy : SFits w32 c.args.pos.cy = record { sfits = (omega arith) } in
    let fz : SFits w32 c.args.pos.cz = record { sfits = (omega arith) } in
    record { cx = widen_mag c.args.pos.cx fx; cy = widen_mag c.args.pos.cy fy; cz = widen_mag c.args.pos.cz fz }

pub returns : goal.returns
unfolding config_header
returns c =
    let fs : SFits w32 c.args.config.sea_level =
    record { sfits = (omega arith) } in
    let fh : SFits w32 c.args.config.world_height_blocks =
    record { sfits = (omega arith) } in
    let fx : SFits w32 c.args.pos.cx = record { sfits = (omega arith) } in
    let fy : SFits w32 c.args.pos.cy = record { sfits = (omega arith) } in
    let fz : SFits w32 c.args.pos.cz = record { sfits = (omega arith) } in
    c.limits.ensures
    ∙ ap limit_refusal
    (header_same
    (to_z_pos w64 c.args.config.seed (omega arith))
    (widen_same c.args.config.sea_level fs)
    (widen_same c.args.config.world_height_blocks fh)
    (to_z_pos w64 c.args.config.chunk_size (omega arith))
    (widen_same c.args.pos.cx fx)
    (widen_same c.args.pos.cy fy)
    (widen_same c.args.pos.cz fz))
