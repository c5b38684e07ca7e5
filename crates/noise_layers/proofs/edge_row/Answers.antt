use mathlib.Core.Path.{◌≡◌, sym, ap, ap₂, ◌∙◌, subst}
use Prim.Native.Nat.{ℕ, ◌+◌}
use native.Mathlib.Omega.{arith}
use lib.ListN.{get_or}
use lib.IntN.{ℤ}
use lib.Ieee.{Float}
use mir.Syntax.{w32}
use mir.Val.{of_z, to_z}
use mir.ValLaws.{to_z-of_z}
use Rattle.basics.specs.Words.{read}
use Rattle.noise.specs.Hash.{hash3₃₂}
use Rattle.noise.specs.Noise.{lerp₃₂, next}
use Rattle.noise_tables.specs.Row.{at}
use Rattle.noise_layers.specs.Layers.{edge₃₂, edge_at, Hashes, laid_none, laid_more}
use Rattle.noise_layers.proofs.Rows.{laid_same}
use Rattle.noise_layers.proofs.edge_row.Goals.{then-next-at, else-next-at}
use Rattle.noise_layers.proofs.edge_row.Goals as goal

pub loop-i-init : goal.loop-i-init
loop-i-init c =
    let iy = to_z w32 (of_z w32 c.args.iy) in
    let iz = to_z w32 (of_z w32 c.args.iz) in
    let ix = read w32 c.of_bits.type_inv c.of_bits.ensures in
    let ix2 = read w32 c.of_bits-2.type_inv c.of_bits-2.ensures in
    let jx = read w32 c.wrapping_add.type_inv (c.wrapping_add.ensures ∙ ap next ix2) in
    ((c.hash3-a.ensures ∙ ap (λ (u : ℤ). hash3₃₂ u iy iz) ix, c.hash3-b.ensures ∙ ap (λ (u : ℤ). hash3₃₂ u iy iz) jx), laid_none c.args.to _ c.args.edges.now)

pub loop-i-preserved : goal.loop-i-preserved
unfolding edge_at edge₃₂
loop-i-preserved c =
    let l = c.loop-i in
    let iy = to_z w32 (of_z w32 c.args.iy) in
    let iz = to_z w32 (of_z w32 c.args.iz) in
    let x = get_or c.args.floors.now (c.args.base + l.i) 0 in
    let j = c.if-next-at in
    let k : (j.at ≡ x) × Hashes iy iz x j.a j.b =
    elim c.if-next-at.branch [
      | then-next-at w ↦
          let ix = read w32 w.of_bits-then-next-at.type_inv w.of_bits-then-next-at.ensures in
          let ix2 = read w32 w.of_bits-then-next-at-2.type_inv w.of_bits-then-next-at-2.ensures in
          let jx = read w32 w.wrapping_add-then-next-at.type_inv (w.wrapping_add-then-next-at.ensures ∙ ap next ix2) in (
            w.at-is,
            (
              w.a-is ∙ w.hash3-a-then-next-at.ensures ∙ ap (λ (u : ℤ). hash3₃₂ u iy iz) ix,
              w.b-is ∙ w.hash3-b-then-next-at.ensures ∙ ap (λ (u : ℤ). hash3₃₂ u iy iz) jx,
            ),
          )
      | else-next-at w ↦
          let e = sym w.if-next-at.false in (
            w.at-is ∙ e,
            (
              w.a-is ∙ l.invariant.0.0 ∙ ap (λ (u : ℕ). hash3₃₂ (to_z w32 u) iy iz) e,
              w.b-is ∙ l.invariant.0.1 ∙ ap (λ (u : ℕ). hash3₃₂ (next (to_z w32 u)) iy iz) e,
            ),
          )
    ] in (
      subst (λ (u : ℕ). Hashes iy iz u j.a j.b) (sym k.0) k.1,
      laid_more c.args.to (edge_at iy iz c.args.base c.args.floors.now c.args.eases.now) c.args.edges.now l.i l.edges _ (omega arith)
          (c.lerp.ensures ∙ ap₂ (λ (u v : Float). lerp₃₂ u v (at c.args.eases.now (c.args.base + l.i))) k.1.0 k.1.1)
          l.invariant.1,
    )

pub returns : goal.returns
returns c =
    let l = c.loop-i in
    let e : l.i ≡ c.args.n = omega arith in
    laid_same c.args.to c.args.base c.args.floors.now c.args.eases.now c.args.edges.now l.edges e
    (to_z-of_z w32 c.args.iy c.ranges.iy) (to_z-of_z w32 c.args.iz c.ranges.iz) l.invariant.1
