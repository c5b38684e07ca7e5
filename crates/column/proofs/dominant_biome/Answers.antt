-- `column::dominant_biome` meets its contract. Assumes nothing.
use mathlib.Core.Path.{◌≡◌, sym}
use mathlib.Core.Bool.{true, ◌&&◌}
use Rattle.column.specs.Column.{at_least, dominant_of}
use Rattle.column.proofs.dominant_biome.Goals as goal

pub returns-then-c : goal.returns-then-c
unfolding dominant_of
returns-then-c c =
    let k = c.args.c in
    let e : (at_least k.dw k.mw && at_least k.dw k.fw && at_least k.dw k.pw) ≡ true = c.if-c.true in
    rw e

pub returns-then-c-2 : goal.returns-then-c-2
unfolding dominant_of
returns-then-c-2 c = sym (simp (c.if-c.false, c.if-c-2.true))

pub returns-then-c-3 : goal.returns-then-c-3
unfolding dominant_of
returns-then-c-3 c = sym (simp (c.if-c.false, c.if-c-2.false, c.if-c-3.true))

pub returns-else-c-3 : goal.returns-else-c-3
unfolding dominant_of
returns-else-c-3 c = sym (simp (c.if-c.false, c.if-c-2.false, c.if-c-3.false))
