-- A coordinate as an octave of the noise takes it. Assumes nothing.
use Rattle.std.specs.Prelude.{cond, ℕ, eqb, Float}
use Rattle.std.specs.Float.{binary32}
use Rattle.std.specs.Float.Ieee.{mul}
use Rattle.num_core.specs.Num.{nearest}

-- at octave k of a field: times 1, 2, 4 or 8
unfoldable pub scaled_by : ℕ → Float → Float
scaled_by k t =
    cond (eqb k 0) (mul binary32 t (nearest 1 1))
    (cond (eqb k 1) (mul binary32 t (nearest 2 1)) (cond (eqb k 2) (mul binary32 t (nearest 4 1)) (mul binary32 t (nearest 8 1))))
