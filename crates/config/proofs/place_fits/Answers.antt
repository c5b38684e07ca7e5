-- `config::place_fits` meets its contract. Assumes nothing.
use mathlib.Core.Path.{sym, ap₂, subst}
use mathlib.Core.Bool.{◌&&◌}
use lib.IntN.{ℤ, pos, negsuc}
use lib.Signed.{le_z}
use mir.Syntax.{w64}
use mir.Val.{SFits}
use Rattle.config.specs.Limits.{place_ok, size_between}
use Rattle.config.proofs.Products.{first_fits, less_fits, last_fits, first_raw, less_raw, first_back, last_raw, last_back}
use Rattle.config.proofs.place_fits.Goals as goal

pub overflow_mul-first : goal.overflow_mul-first
overflow_mul-first c =
    let a = c.args in
    let b = size_between a.size c.requires.0 in
    subst (SFits w64) (sym (first_raw a.size a.c b c.requires.1)) (first_fits a.size a.c b c.requires.1)

pub overflow_sub-last : goal.overflow_sub-last
overflow_sub-last c =
    let a = c.args in
    let b = size_between a.size c.requires.0 in
    subst (SFits w64) (sym (less_raw a.size a.c b c.requires.1)) (less_fits a.size a.c b c.requires.1)

pub overflow_add-last : goal.overflow_add-last
overflow_add-last c =
    let a = c.args in
    let b = size_between a.size c.requires.0 in
    subst (SFits w64) (sym (last_raw a.size a.c b c.requires.1)) (last_fits a.size a.c b c.requires.1)

pub returns : goal.returns
unfolding place_ok
returns c =
    let a = c.args in
    let b = size_between a.size c.requires.0 in
    ap₂ (λ (u v : ℤ). le_z (negsuc 999999) u && le_z v (pos 1000000)) (first_back a.size a.c b c.requires.1) (last_back a.size a.c b c.requires.1)
