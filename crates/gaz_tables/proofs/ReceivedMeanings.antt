-- What the queries of `received` answer, by value.
use Rattle.std.proofs.Common.{ℕ, pos, List, [], ◌∷◌, None, Some, Result, IfOk, Vec, refl}
use Rattle.std.specs.declared.alloc.Global.{Global}
use Rattle.sqlite_rules.specs.Lists.{Has}
use Rattle.sqlite_sql.specs.declared.ops.CompareOp.TheVariants.{Eq, Gt}
use Rattle.sqlite.specs.declared.error.Error.{Error}
use Rattle.sqlite.specs.declared.types.Value.TheVariants.{Int}
use Rattle.sqlite.specs.Effect.{Database}
use Rattle.sqlite.specs.Order.{Row}
use Rattle.sqlite.specs.Term.{Term, col}
use Rattle.gaz_sql_facts.specs.Selects.{rising, shows, Selects}
use Rattle.gaz_tables.proofs.Shown.{answered, shows_all, shows_page}
use Rattle.gaz_tables.proofs.Tests.{Test, SuitsAll, means, met}
use Rattle.gaz_tables.specs.Schema.{received}
use Rattle.gaz_tables.specs.Shows.{ShowsAll}
use Rattle.gaz_tables.specs.Stores.{HasTables}
use Rattle.gaz_tables.specs.Tables.{rows_of}
use Rattle.gaz_tables.specs.Receiveds.{IsVolume, IsAbove, FindsAbove}
use Rattle.gaz_tables.proofs.ReceivedRows.{cust_is, volume_is}
use Rattle.gaz_tables.proofs.ReceivedOnce.{above_rises}
use Rattle.gaz_tables.proofs.ReceivedQueries.{volume_tests, above_tests, above_terms}

module _ (db : Database) (has : HasTables db) where
  module _ (cust volume : ℕ) where
    abbrev volume_params : Row
    volume_params = Int (pos cust) ∷ Int (pos volume) ∷ []

    abbrev volume_wanted : List Test
    volume_wanted = (1, Eq, Int (pos cust)) ∷ (2, Eq, Int (pos volume)) ∷ []

    volume_suits : (r : Row) → Has (rows_of db received) r → SuitsAll volume_wanted r
    volume_suits r there = (cust_is db has r there, (volume_is db has r there, tt))

    -- a query of one volume shows of its row what it names
    pub volume_found : (terms : List Term) (r : Result (Vec Row Global) Error)
        → IfOk r (λ rows. Selects volume_tests terms [] None (rows_of db received) volume_params rows.items)
        → IfOk r (λ rows. ShowsAll (IsVolume cust volume) (shows terms volume_params) (rows_of db received) rows.items)
    volume_found terms r h = answered r (λ answer s. shows_all volume_tests terms volume_params (rows_of db received) (IsVolume cust volume)
        (λ r there p. let m = means volume_wanted r refl (volume_suits r there) p in record { of_cust = m.0; of_volume = m.1.0 })
        (λ r there fits. met volume_wanted r (volume_suits r there) (fits.of_cust, (fits.of_volume, tt)))
        answer s) h

  module _ (cust : ℕ) (volume : ℕ) (most : ℕ) where
    abbrev pub above_params : Row
    above_params = Int (pos cust) ∷ Int (pos volume) ∷ Int (pos most) ∷ []

    abbrev above_wanted : List Test
    above_wanted = (1, Eq, Int (pos cust)) ∷ (2, Gt, Int (pos volume)) ∷ []

    above_suits : (r : Row) → Has (rows_of db received) r → SuitsAll above_wanted r
    above_suits r there = (cust_is db has r there, (volume_is db has r there, tt))

    pub above_found : (r : Result (Vec Row Global) Error) → IfOk r (λ rows. Selects above_tests above_terms ((col 1 2, rising) ∷ []) (Some most) (rows_of db received) above_params rows.items) → IfOk r (λ rows. FindsAbove cust volume most (rows_of db received) rows.items)
    above_found r h = answered r (λ answer s. above_rises db has cust volume most answer (shows_page above_tests above_terms above_params (rows_of db received) (IsAbove cust volume)
        (λ r there p. let m = means above_wanted r refl (above_suits r there) p in record { of_cust = m.0; above = m.1.0 })
        (λ r there fits. met above_wanted r (above_suits r there) (fits.of_cust, (fits.above, tt)))
        2 most answer s)) h
