use Rattle.std.proofs.Common.{ℕ, ◌+◌, ◌<◌, ap, ◌∙◌, arith, List, length, set}
use Rattle.grid.specs.Grid.{fill_none, fill_more}
use Rattle.planes_read.specs.Reading.{id_at}
use Rattle.planes_read.proofs.join_bytes.Goals as goal

pub loop-j-init : goal.loop-j-init
loop-j-init c = fill_none _ _

pub loop-j-preserved : goal.loop-j-preserved
loop-j-preserved c =
    let a = c.args in
    let l = c.loop-j in
    let f : ℕ → ℕ = λ (i : ℕ). id_at a.n a.bytes.now (a.m + i) in
    let room : l.j < length a.block.now = (let h = c.requires.block in omega arith) in
    ap (λ (id : ℕ). set l.block l.j id) c.id_of.ensures
    ∙ ap (λ (d : List ℕ). set d l.j (f l.j)) l.invariant
    ∙ fill_more a.block.now l.j f room
