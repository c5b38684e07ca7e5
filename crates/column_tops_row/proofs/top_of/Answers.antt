-- `column_tops_row::top_of` meets its contract. Assumes nothing.
use mathlib.Core.Path.{◌≡◌, sym, ap, ap₂, ◌∙◌, subst}
use Prim.Native.Nat.{◌≤◌}
use native.Mathlib.Omega.{arith}
use lib.Dec.{T}
use lib.IntN.{ℤ, nat_abs}
use lib.Signed.{mag, non_neg}
use lib.Ieee.{Float}
use mir.Syntax.{w32, w16}
use mir.Val.{Fits}
use Rattle.column.specs.Floats.{real}
use Rattle.column.specs.Column.{surface_of}
use Rattle.column.specs.declared.Column.{Column}
use Rattle.column.specs.declared.Relief.{Relief}
use Rattle.column.specs.declared.Surface.{Surface}
use Rattle.ground_cell.specs.World.{Tall, biome_number, top_with}
use Rattle.ground_cell.specs.declared.world.World.{World}
use Rattle.basics.specs.Words.{again, back}
use Rattle.column_tops_row.specs.Tops.{surface_top}
use Rattle.column_tops_row.specs.Laws.{surface_range}
use Rattle.column_tops_row.proofs.top_of.Goals as goal

module _ (w : World) (t : Tall w) (climate : Column) (n : Relief) where
  -- of the settings as 32 bits hold them
  told : (sl : Float) (s : Surface) → sl ≡ real (again w32 w.sea_level) → s ≡ surface_of climate n sl (again w32 w.max_height)
      → s ≡ surface_of climate n (real w.sea_level) w.max_height
  told sl s p q =
      let m = t.most in
      let most : mag w.max_height ≤ 1000000 = subst (λ (u : ℤ). mag u ≤ 1000000) (sym t.is) (omega arith) in
      q ∙ ap₂ (surface_of climate n) (p ∙ ap real (back w.sea_level t.sea)) (back w.max_height most)

  -- 32 bits hold its height
  height_told : (s : Surface) → s ≡ surface_of climate n (real w.sea_level) w.max_height
      → again w32 s.height ≡ (surface_of climate n (real w.sea_level) w.max_height).height
  height_told s e =
      let r = surface_range w t climate n (real w.sea_level) in
      let m = t.most in
      let k = r.most in
      ap (λ (u : Surface). again w32 u.height) e ∙ back _ (subst (λ (u : ℤ). mag u ≤ 1000000) (sym r.is) (omega arith))

pub overflow_cast-result : goal.overflow_cast-result
overflow_cast-result c =
    let a = c.args in
    let e = told a.w c.requires a.climate a.relief _ _ c.of_i32-sl.ensures c.surface_of-s.ensures in
    let r = surface_range a.w c.requires a.climate a.relief (real a.w.sea_level) in
    let m = c.requires.most in
    let k = r.most in
    subst (λ (u : ℤ). T (non_neg u) × Fits w16 (nat_abs u)) (sym (height_told a.w c.requires a.climate a.relief _ e ∙ r.is)) (tt, record { fits = omega arith })

pub returns : goal.returns
unfolding surface_top
returns c =
    let a = c.args in
    let e = told a.w c.requires a.climate a.relief _ _ c.of_i32-sl.ensures c.surface_of-s.ensures in
    ap₂ top_with (ap nat_abs (height_told a.w c.requires a.climate a.relief _ e))
    (c.biome_number-n.ensures ∙ ap biome_number (ap (λ (u : Surface). u.biome) e))
