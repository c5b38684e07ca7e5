-- `config::places_fit` meets its contract. Assumes nothing.
use mathlib.Core.Path.{◌≡◌, ap₂, ◌∙◌}
use native.Mathlib.Omega.{arith}
use mir.Syntax.{w64}
use mir.Val.{SFits}
use mir.ValLaws.{to_z-of_z}
use Rattle.config.specs.Limits.{place_ok, places_ok, size_between}
use Rattle.config.proofs.Products.{size_fits}
use Rattle.config.proofs.places_fit.Goals as goal

pub returns : goal.returns
unfolding places_ok
returns c =
    let h = c.args.h in
    let n = c.requires.1 in
    let fs = size_fits h.chunk_size (size_between h.chunk_size c.requires.0) in
    let size = to_z-of_z w64 h.chunk_size fs in
    let fx : SFits w64 h.cx = record { sfits = (let g = n.cx in omega arith) } in
    let fy : SFits w64 h.cy = record { sfits = (let g = n.cy in omega arith) } in
    let fz : SFits w64 h.cz = record { sfits = (let g = n.cz in omega arith) } in
    let x : c.place_fits-x.result ≡ place_ok h.chunk_size h.cx =
    c.place_fits-x.ensures ∙ ap₂ place_ok size (to_z-of_z w64 h.cx fx) in
    let y : c.place_fits-y.result ≡ place_ok h.chunk_size h.cy =
    c.place_fits-y.ensures ∙ ap₂ place_ok size (to_z-of_z w64 h.cy fy) in
    let z : c.place_fits-z.result ≡ place_ok h.chunk_size h.cz = c.place_fits-z.ensures ∙ ap₂ place_ok size (to_z-of_z w64 h.cz fz) in
    rw (x, y, z)
