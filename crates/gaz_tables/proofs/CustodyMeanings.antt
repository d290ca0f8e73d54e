-- What the queries of the rows of kind 92 answer, by value.
use Rattle.std.proofs.Common.{ℕ, pos, List, [], ◌∷◌, Some, Result, IfOk, Vec, refl}
use Rattle.std.specs.declared.alloc.Global.{Global}
use Rattle.sqlite_rules.specs.Lists.{Has}
use Rattle.sqlite_sql.specs.declared.ops.CompareOp.TheVariants.{Eq, Le}
use Rattle.sqlite.specs.declared.error.Error.{Error}
use Rattle.sqlite.specs.declared.types.Value.TheVariants.{Int, Text}
use Rattle.sqlite.specs.Effect.{Database}
use Rattle.sqlite.specs.Order.{Row}
use Rattle.sqlite.specs.Term.{col}
use Rattle.gaz_sql_facts.specs.Selects.{falling, Selects}
use Rattle.gaz_tables.proofs.CustodyQueries.{newest_tests, newest_until_tests, custody_terms}
use Rattle.gaz_tables.proofs.Shown.{answered, shows_greatest}
use Rattle.gaz_tables.proofs.Tests.{Test, SuitsAll, means, met}
use Rattle.gaz_tables.proofs.VersionRows.{cust_is, kind_is, id_is, born_is}
use Rattle.gaz_tables.specs.Custody.{FindsCustody, FindsCustodyUntil, custody_kind}
use Rattle.gaz_tables.specs.Schema.{version2}
use Rattle.gaz_tables.specs.Stores.{HasTables}
use Rattle.gaz_tables.specs.Tables.{rows_of}
use Rattle.gaz_tables.specs.Versions.{IsOfKey, IsOfKeyUntil}

module _ (db : Database) (has : HasTables db) where
  module _ (cust : ℕ) (id : List ℕ) where
    abbrev pub newest_params : Row
    newest_params = Int (pos cust) ∷ Text id ∷ []

    abbrev newest_wanted : List Test
    newest_wanted = (1, Eq, Int (pos cust)) ∷ (2, Eq, Int (pos 92)) ∷ (3, Eq, Text id) ∷ []

    newest_suits : (r : Row) → Has (rows_of db version2) r → SuitsAll newest_wanted r
    newest_suits r there = (cust_is db has r there, (kind_is db has r there, (id_is db has r there, tt)))

    pub newest_found : (r : Result (Vec Row Global) Error) → IfOk r (λ rows. Selects newest_tests custody_terms ((col 1 8, falling) ∷ []) (Some 1) (rows_of db version2) newest_params rows.items) → IfOk r (λ rows. FindsCustody cust id (rows_of db version2) rows.items)
    newest_found r h = answered r (λ answer s. shows_greatest newest_tests custody_terms newest_params (rows_of db version2) (IsOfKey cust custody_kind id)
        (λ r there p. let m = means newest_wanted r refl (newest_suits r there) p in record { of_cust = m.0; of_kind = m.1.0; of_id = m.1.1.0 })
        (λ r there fits. met newest_wanted r (newest_suits r there) (fits.of_cust, (fits.of_kind, (fits.of_id, tt))))
        8 (λ r there fits. born_is db has r there) answer s) h

  module _ (cust : ℕ) (id : List ℕ) (volume : ℕ) where
    abbrev pub newest_until_params : Row
    newest_until_params = Int (pos cust) ∷ Text id ∷ Int (pos volume) ∷ []

    abbrev newest_until_wanted : List Test
    newest_until_wanted = (1, Eq, Int (pos cust)) ∷ (2, Eq, Int (pos 92)) ∷ (3, Eq, Text id) ∷ (8, Le, Int (pos volume)) ∷ []

    newest_until_suits : (r : Row) → Has (rows_of db version2) r → SuitsAll newest_until_wanted r
    newest_until_suits r there = (cust_is db has r there, (kind_is db has r there, (id_is db has r there, (born_is db has r there, tt))))

    pub newest_until_found : (r : Result (Vec Row Global) Error) → IfOk r (λ rows. Selects newest_until_tests custody_terms ((col 1 8, falling) ∷ []) (Some 1) (rows_of db version2) newest_until_params rows.items) → IfOk r (λ rows. FindsCustodyUntil cust id volume (rows_of db version2) rows.items)
    newest_until_found r h = answered r (λ answer s. shows_greatest newest_until_tests custody_terms newest_until_params (rows_of db version2) (IsOfKeyUntil cust custody_kind id volume)
        (λ r there p. let m = means newest_until_wanted r refl (newest_until_suits r there) p in record { of_key = record { of_cust = m.0; of_kind = m.1.0; of_id = m.1.1.0 }; early = m.1.1.1.0 })
        (λ r there fits. met newest_until_wanted r (newest_until_suits r there) (fits.of_key.of_cust, (fits.of_key.of_kind, (fits.of_key.of_id, (fits.early, tt)))))
        8 (λ r there fits. born_is db has r there) answer s) h
