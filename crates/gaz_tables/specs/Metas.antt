-- The rows of `meta`, by their columns, and what its statements find and make.
use Rattle.std.specs.Prelude.{◌≡◌, ℕ, pos, codes, List, [], ◌∷◌}
use Rattle.sqlite.specs.declared.types.Value.{Value}
use Rattle.sqlite.specs.declared.types.Value.TheVariants.{Null, Int, Text}
use Rattle.sqlite.specs.Order.{Row, column}
use Rattle.gaz_sql_facts.specs.Changes.{IsAdded, IsChanged}
use Rattle.gaz_tables.specs.Shows.{IsAnyRow, ShowsSome}

-- a row's values: its rowid is `id`, whose own place is left NULL
abbrev pub id_of : Row → Value
id_of r = column r 0

abbrev pub number_of : Row → Value
number_of r = column r 2

abbrev pub register_of : Row → Value
register_of r = column r 3

abbrev pub meta_row : ℕ → List ℕ → Row
meta_row number register = Int (pos 1) ∷ Null ∷ Int (pos number) ∷ Text register ∷ []

abbrev pub meta_shown : Row → Row
meta_shown r = id_of r ∷ number_of r ∷ register_of r ∷ []

-- the row of id 1
abbrev pub IsFirst : Row → Type 0
IsFirst r = id_of r ≡ Int (pos 1)

-- what is asked for at most two of the rows
abbrev pub rows_text : List ℕ
rows_text = codes "SELECT id, number, register FROM meta LIMIT 2"

-- at most two of the rows
abbrev pub FindsTwo : List Row → List Row → Type 0
FindsTwo rows answer = ShowsSome IsAnyRow 2 meta_shown rows answer

-- the rows and one of id 1
abbrev pub AddsMeta : ℕ → List ℕ → List Row → List Row → Type 0
AddsMeta number register old new = IsAdded (meta_row number register) old new

-- the rows, with this number and register in that of id 1
abbrev pub Rewrites : ℕ → List ℕ → List Row → List Row → Type 0
Rewrites number register old new =
    IsChanged IsFirst (λ r. id_of r ∷ Null ∷ Int (pos number) ∷ Text register ∷ []) old new
