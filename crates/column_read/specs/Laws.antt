-- Climate and relief in rows (SCOPE 4.2, 4.4) are those of `climate` and `relief_at`. Assumes nothing.
use Rattle.std.specs.Prelude.{◌≡◌, ℕ, ◌<◌, List, Float}
use Rattle.std.proofs.Common.{ap, ap₂, ◌∙◌}
use Rattle.basics.specs.Paths.{ap₃, ap₄}
use Rattle.noise_tables.specs.Row.{at}
use Rattle.column.specs.Column.{with_climate, ridges_of, ridges₃₂, plateau₃₂, climate_of, relief_of}
use Rattle.column.specs.declared.Relief.{Relief}
use Rattle.column_rows.specs.Rows.{offset_row, scaled_row, continent_row, ClimateRows, HeightRows, RidgeRows, LowlandRows}
use Rattle.column_read.specs.Read.{climate_in, relief_in}

pub climate_in_lem : (n : ℕ) (xs : List Float) (z : Float) (temp moisture : List Float) → ClimateRows n xs z temp moisture
    → (i : ℕ) → i < n → climate_in temp moisture i ≡ climate_of (at xs i) z
unfolding climate_in climate_of offset_row
climate_in_lem n xs z temp moisture r i h =
    ap₂ with_climate (r.warm.holds i h) (r.wet.holds i h)

abbrev relief : Float → Float → Float → Float → Float → Float → Float → Relief
relief continent detail micro ridges plateau dune hill = record {
  continent = continent;
  detail = detail;
  micro = micro;
  ridges = ridges;
  plateau = plateau;
  dune = dune;
  hill_factor = hill;
}

pub relief_in_lem : (n : ℕ) (xs : List Float) (z : Float) (continent detail micro ridge1 ridge2 steps dune hill : List Float)
    → HeightRows n xs z continent detail micro → RidgeRows n xs z ridge1 ridge2 → LowlandRows n xs z steps dune hill
    → (i : ℕ) → i < n → relief_in continent detail micro ridge1 ridge2 steps dune hill i ≡ relief_of (at xs i) z
unfolding relief_in relief_of ridges₃₂ offset_row scaled_row continent_row
relief_in_lem n xs z continent detail micro ridge1 ridge2 steps dune hill a b c i h =
    ap₄ (λ (l f g s : Float). relief l f g s (plateau₃₂ (at steps i)) (at dune i) (at hill i))
    (a.large.holds i h) (a.fine.holds i h) (a.finest.holds i h) (ap₂ ridges_of (b.first.holds i h) (b.second.holds i h))
    ∙ ap₃ (relief _ _ _ _) (ap plateau₃₂ (c.stepped.holds i h)) (c.dunes.holds i h) (c.hills.holds i h)
