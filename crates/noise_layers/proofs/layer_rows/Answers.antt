-- `noise_layers::layer_rows` meets its contract. Assumes nothing.
use mathlib.Core.Path.{refl, ap, ◌∙◌}
use Prim.Native.Nat.{◌+◌, ◌*◌}
use mir.Syntax.{w32}
use Rattle.basics.specs.Words.{read}
use Rattle.noise.specs.Noise.{next}
use Rattle.noise_layers.proofs.Rows.{laid_same, layered}
use Rattle.noise_layers.proofs.layer_rows.Goals as goal

pub returns : goal.returns
returns c =
    let r = c.requires in
    let iy = read w32 c.of_bits-iy.type_inv c.of_bits-iy.ensures in
    let iz = read w32 c.of_bits-iz.type_inv c.of_bits-iz.ensures in
    let jy = read w32 c.wrapping_add-jy.type_inv (c.wrapping_add-jy.ensures ∙ ap next iy) in
    let jz = read w32 c.wrapping_add-jz.type_inv (c.wrapping_add-jz.ensures ∙ ap next iz) in
    let o = c.args.o in
    let fl = c.args.floors.now in
    let ea = c.args.eases.now in
    layered o c.args.ky c.args.kz c.args.n fl ea c.args.edges.now _ _ _ _ r.most
    (laid_same (o * 256) (o * 64) fl ea _ _ refl iy iz c.edge_row.ensures)
    (laid_same (o * 256 + 64) (o * 64) fl ea _ _ refl jy iz c.edge_row-2.ensures)
    (laid_same (o * 256 + 128) (o * 64) fl ea _ _ refl iy jz c.edge_row-3.ensures)
    (laid_same (o * 256 + 192) (o * 64) fl ea _ _ refl jy jz c.edge_row-4.ensures)
