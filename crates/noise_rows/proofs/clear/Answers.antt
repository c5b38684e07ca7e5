-- `clear` meets its contract: what `fill` leaves is the value again and again. Assumes nothing.
use Rattle.std.proofs.Common.{◌≡◌, ℕ, ◌++◌, List, length, replicate, ap, ◌∙◌, arith, rules}
use Rattle.std.proofs.lemmas.List.{get_or-replicate, get_or_append_left, length-replicate, length-append, length-take}
use lib.Ieee.{Float, nan, of_bits}
use Rattle.num_core.specs.Num.{nearest}
use Rattle.noise.specs.Noise.{num}
use Rattle.noise_tables.specs.Row.{at, Row}
use Rattle.noise_rows.specs.Sums.{zero_at}
use Rattle.noise_rows.proofs.clear.Goals as goal

filled : (n k : ℕ) (v : Float) (xs ys : List Float) → xs ≡ replicate k v → k ≡ n → Row n (λ (i : ℕ). v) (xs ++ ys)
filled n k v xs ys e f =
    let l : length xs ≡ n = ap length e ∙ length-replicate k v ∙ f in
    record {
      long = omega (arith, length-append xs ys);
      holds = λ i h.
          get_or_append_left xs ys nan i (omega arith) ∙ ap (λ (u : List Float). at u i) e ∙ get_or-replicate k i v nan (omega arith);
    }

pub returns : goal.returns
unfolding zero_at nearest of_bits
returns c =
    let n = c.args.n in
    filled n _ (num 0) c.fill.new.self _ (c.fill.ensures.after (λ y h. search rules)) (omega (arith, length-take n c.args.vals.now))
