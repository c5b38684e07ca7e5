-- As many of one block as there are cells. Assumes nothing.
use Rattle.std.proofs.Common.{◌≡◌, ℕ, replicate, ext_get_or, sym, ◌∙◌, rules, arith}
use Rattle.std.proofs.lemmas.List.{get_or-replicate, length-replicate}
use Rattle.grid.specs.Grid.{tab_at, all_long}
use Rattle.ground_uniform.specs.Place.{all_of}
use Rattle.ground_uniform.proofs.fill.Goals as goal

same : (n id : ℕ) → replicate n id ≡ all_of n id
unfolding all_of
same n id =
    let long = length-replicate n id in
    ext_get_or 0 (replicate n id) (all_of n id) (long ∙ sym (all_long n id))
    (λ i h. let k = long in get_or-replicate n i id 0 (omega arith) ∙ sym (tab_at n (λ (j : ℕ). id) i (omega arith)))

pub returns : goal.returns
returns c = search (rules, same)
