-- `cave_plain::cave` meets its contract. Assumes nothing.
use mathlib.Core.Path.{sym, ap, ◌∙◌}
use lib.Ieee.{binary32, of_int}
use mir.Syntax.{w32}
use mir.ValLaws.{to_z-of_z}
use Rattle.basics.specs.Paths.{ap₃, ap₄}
use Rattle.cave_plain.specs.Caves.{spaghetti_cave, large_cavern, ravine_cut}
use Rattle.cave_plain.proofs.Tests.{by_spaghetti, by_cavern, by_ravine}
use Rattle.cave_plain.proofs.cave.Goals.{After-of_i32-h}
use Rattle.cave_plain.proofs.cave.Goals as goal

pub returns-then-ravine : goal.returns-then-ravine
returns-then-ravine c =
    let d = (goal.at.returns-then-ravine c).After-of_i32-h in
    let x = d.of_i32-x.ensures ∙ ap (of_int binary32) (to_z-of_z w32 d.args.wx d.ranges.wx) in
    let y = d.of_i32-y.ensures ∙ ap (of_int binary32) (to_z-of_z w32 d.args.wy d.ranges.wy) in
    let z = d.of_i32-z.ensures ∙ ap (of_int binary32) (to_z-of_z w32 d.args.wz d.ranges.wz) in
    let h = d.of_i32-h.ensures ∙ ap (of_int binary32) (to_z-of_z w32 d.args.height d.ranges.height) in
    by_ravine d.args.wx d.args.wy d.args.wz d.args.height (sym (c.ravine.ensures ∙ ap₄ ravine_cut x y z h) ∙ c.if-ravine.true)

pub returns-then-cavern : goal.returns-then-cavern
returns-then-cavern c =
    let d = (goal.at.returns-then-cavern c).After-of_i32-h in
    let x = d.of_i32-x.ensures ∙ ap (of_int binary32) (to_z-of_z w32 d.args.wx d.ranges.wx) in
    let y = d.of_i32-y.ensures ∙ ap (of_int binary32) (to_z-of_z w32 d.args.wy d.ranges.wy) in
    let z = d.of_i32-z.ensures ∙ ap (of_int binary32) (to_z-of_z w32 d.args.wz d.ranges.wz) in
    let h = d.of_i32-h.ensures ∙ ap (of_int binary32) (to_z-of_z w32 d.args.height d.ranges.height) in
    by_cavern d.args.wx d.args.wy d.args.wz d.args.height (sym (c.cavern.ensures ∙ ap₄ large_cavern x y z h) ∙ c.if-cavern.true)

pub returns : goal.returns
returns c =
    let d = (goal.at.returns c).After-of_i32-h in
    let x = d.of_i32-x.ensures ∙ ap (of_int binary32) (to_z-of_z w32 d.args.wx d.ranges.wx) in
    let y = d.of_i32-y.ensures ∙ ap (of_int binary32) (to_z-of_z w32 d.args.wy d.ranges.wy) in
    let z = d.of_i32-z.ensures ∙ ap (of_int binary32) (to_z-of_z w32 d.args.wz d.ranges.wz) in
    let h = d.of_i32-h.ensures ∙ ap (of_int binary32) (to_z-of_z w32 d.args.height d.ranges.height) in
    c.spaghetti.ensures ∙ ap₃ spaghetti_cave x y z
    ∙ by_spaghetti d.args.wx d.args.wy d.args.wz d.args.height (sym (c.cavern.ensures ∙ ap₄ large_cavern x y z h) ∙ c.if-cavern.false) (sym (c.ravine.ensures ∙ ap₄ ravine_cut x y z h) ∙ c.if-ravine.false)
