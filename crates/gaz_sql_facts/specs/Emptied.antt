-- What it is to empty a table.
use Rattle.std.specs.Prelude.{◌≡◌, List, []}
use Rattle.sqlite_value.specs.Order.{Row}

-- no row is left, whichever there were
abbrev pub IsEmptied : List Row → List Row → Type 0
IsEmptied old new = new ≡ []
