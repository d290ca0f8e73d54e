-- What it is to copy a table's rows into another.
use Rattle.std.specs.Prelude.{◌≡◌, ◌⊎◌, ℕ, ℤ, ◌+◌, List, [], ◌∷◌, length}
use Rattle.sqlite_value.specs.declared.keys.Collation.{Collation}
use Rattle.sqlite_value.specs.declared.value.Value.TheVariants.{Int}
use Rattle.sqlite_value.specs.Order.{Row}
use Rattle.sqlite_rules.specs.Lists.{Has}
use Rattle.sqlite_sql.specs.Query.{Query}
use Rattle.sqlite_sql.specs.Term.{Term}
use Rattle.gaz_sql_facts.specs.Selects.{selecting, every}

-- the rows, and one more for each source: what it is copied to, under a rowid that nobody chose
pub record AreCopied (copy : Row → Row) (sources old new : List Row) : Type 0 where
  pub only : (r : Row) → Has new r
      → Has old r ⊎ ((s : Row) × Has sources s × ((n : ℤ) × (r ≡ Int n ∷ copy s)))
  pub done : (s : Row) → Has sources s → (n : ℤ) × Has new (Int n ∷ copy s)
  pub kept : (r : Row) → Has old r → Has new r
  pub each_once : length new ≡ length old + length sources

-- SELECT project FROM the table at `tree`, each of whose values has its collation
abbrev pub copying : ℕ → List Term → List Collation → Query
copying tree project collations =
    record (selecting tree [] project [] every) { collations = collations }
