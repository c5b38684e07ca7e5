-- The nine radii of SCOPE 4.13 in a table, by the crown's height and the layer; the ground's own definition is in `Crown`. Assumes nothing.
use Rattle.std.specs.Prelude.{ℕ, ◌+◌, ◌-◌, ◌*◌, List, [], ◌∷◌, get_or}
use Rattle.ground_crown.specs.Crown.{normal_crown, layers_of}

-- a row for each crown, the normal one and the giant, each from its lowest layer up
abbrev pub leaf_radii : List ℕ
leaf_radii =
    1 ∷ 1 ∷ 2 ∷ 2
    ∷ 3 ∷ 3 ∷ 4 ∷ 4 ∷ 4 ∷ []

-- where the row of the crown of height n begins
abbrev pub row_at : ℕ → ℕ
row_at n = layers_of normal_crown.height * (n - normal_crown.height)

-- the radius of layer l of the crown of height n
unfoldable pub radius_at : ℕ → ℕ → ℕ
radius_at n l = get_or leaf_radii (row_at n + l) 0
