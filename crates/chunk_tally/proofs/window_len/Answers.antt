use Rattle.std.proofs.Common.{◌≡◌, ℕ, ◌+◌, ◌-◌, Bool, true, false, sym, ap, ◌∙◌, refl, arith, length, get_or, [], ◌∷◌}
use mir.Val.{bool_byte}
use Rattle.basics.specs.Bools.{pick}
use Rattle.chunk_tally.specs.Ids.{seen_ids, window_ids, list_if}
use Rattle.chunk_tally.specs.Spans.{span_none, span_most, list_most, seen_length}
use Rattle.chunk_tally.proofs.window_len.Goals.{After-from-len}
use Rattle.chunk_tally.proofs.window_len.Goals as goal

pub loop-k-init : goal.loop-k-init
loop-k-init c = ap length (sym (span_none _ _))

-- what one id adds
one : (b : Bool) (x : ℕ) → bool_byte b ≡ length (pick b (x ∷ []) [])
one true x = refl
one false x = refl

abbrev id : After-from-len → ℕ
id c = c.args.base + c.loop-k.k

abbrev cells : After-from-len → ℕ
cells c = get_or c.args.table.now c.loop-k.k 0

added : (c : After-from-len) → c.from-len.result ≡ length (list_if (id c) (cells c) (id c))
added c = c.from-len.ensures ∙ ap bool_byte c.is_listed.ensures ∙ one _ (id c)

pub overflow_add-len : goal.overflow_add-len
overflow_add-len c =
    let a = c.args in
    let t = span_most a.base c.loop-k.k (λ (v : ℕ). get_or a.table.now (v - a.base) 0) in
    omega (arith, added c, list_most (id c) (cells c) (id c))

pub loop-k-preserved : goal.loop-k-preserved
loop-k-preserved c = omega (arith, added c, seen_length c.args.base c.loop-k.k c.args.table.now)

pub returns : goal.returns
unfolding window_ids
returns c =
    let a = c.args in
    let l = c.loop-k in
    let q : l.k ≡ 8192 = omega arith in
    l.invariant ∙ ap (λ (j : ℕ). length (seen_ids a.base j a.table.now)) q
