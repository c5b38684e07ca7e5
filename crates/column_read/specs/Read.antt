-- A column's climate and relief (SCOPE 4.2, 4.4), of the rows that hold their noise. Assumes nothing.
use Rattle.std.specs.Prelude.{List, ℕ, Float}
use Rattle.noise_tables.specs.Row.{at}
use Rattle.column.specs.Column.{plateau₃₂, ridges_of, with_climate}
use Rattle.column.specs.declared.Column.{Column}
use Rattle.column.specs.declared.Relief.{Relief}

-- at place i
unfoldable pub climate_in : List Float → List Float → ℕ → Column
climate_in temp moisture i = with_climate (at temp i) (at moisture i)

unfoldable pub relief_in : List Float → List Float → List Float → List Float → List Float → List Float → List Float → List Float → ℕ → Relief
relief_in continent detail micro ridge1 ridge2 steps dune hill i = record {
  continent = at continent i;
  detail = at detail i;
  micro = at micro i;
  ridges = ridges_of (at ridge1 i) (at ridge2 i);
  plateau = plateau₃₂ (at steps i);
  dune = at dune i;
  hill_factor = at hill i;
}
