use Rattle.std.proofs.Common.{◌≡◌, ℕ, ◌+◌, ◌<◌, sym, ap, ◌∙◌, arith, add-one, [], ◌∷◌, eq-eqb, ne_eqb, length, get_or, take, take-suc, take_all}
use Rattle.grid.specs.Count.{non_air, non_air_count, count_append, count_none, count_one}
use Rattle.grid.proofs.count_non_air.Goals.{then-cells-i-ne0, else-cells-i-ne0}
use Rattle.grid.proofs.count_non_air.Goals as goal

pub loop-i-init : goal.loop-i-init
loop-i-init c = (sym count_none, omega arith)

pub loop-i-preserved : goal.loop-i-preserved
loop-i-preserved c =
    let l = c.loop-i in
    let cs = c.args.cells.now in
    let lt : l.i < length cs = omega arith in
    let v : ℕ = get_or cs l.i 0 in
    let nx : non_air_count (take (l.i + 1) cs) ≡ non_air_count (take l.i cs) + non_air v =
    ap non_air_count (ap (λ (k : ℕ). take k cs) (add-one l.i) ∙ take-suc cs l.i 0 lt) ∙ count_append (take l.i cs) (v ∷ [])
    ∙ ap (λ (k : ℕ). non_air_count (take l.i cs) + k) (count_one v) in
    elim c.if-cells-i-ne0.branch [
      | then-cells-i-ne0 w ↦
          (let q : non_air v ≡ 1 = rw (ne_eqb _ _ w.if-cells-i-ne0.true) in (omega arith, omega arith))
      | else-cells-i-ne0 w ↦
          (let q : non_air v ≡ 0 = rw (eq-eqb _ _ w.if-cells-i-ne0.false) in (omega arith, omega arith))
    ]

pub returns : goal.returns
returns c =
    let l = c.loop-i in
    l.invariant.0 ∙ ap non_air_count (take_all l.i c.args.cells.now (omega arith))
