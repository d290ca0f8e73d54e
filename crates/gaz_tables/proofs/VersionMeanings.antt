-- What the queries of `version2` answer, by value.
use Rattle.std.proofs.Common.{ℕ, ℤ, pos, List, [], ◌∷◌, None, Some, Result, IfOk, Vec, refl}
use Rattle.std.specs.declared.alloc.Global.{Global}
use Rattle.sqlite_rules.specs.Lists.{Has}
use Rattle.sqlite_sql.specs.declared.ops.CompareOp.TheVariants.{Eq, Le, Gt}
use Rattle.sqlite.specs.declared.error.Error.{Error}
use Rattle.sqlite.specs.declared.types.Value.TheVariants.{Int, Text}
use Rattle.sqlite.specs.Effect.{Database}
use Rattle.sqlite.specs.Order.{Row}
use Rattle.sqlite.specs.Term.{col}
use Rattle.gaz_sql_facts.specs.Selects.{rising, falling, Selects}
use Rattle.gaz_tables.proofs.Shown.{answered, shows_all, shows_page, shows_greatest}
use Rattle.gaz_tables.proofs.Tests.{Test, SuitsAll, means, met}
use Rattle.gaz_tables.specs.Schema.{version2}
use Rattle.gaz_tables.specs.Stores.{HasTables}
use Rattle.gaz_tables.specs.Tables.{rows_of}
use Rattle.gaz_tables.specs.Versions.{IsOfKey, IsOfKeyUntil, IsHolding, IsApprovedOf, IsApprovedOn, IsPartOf, FindsNewest, FindsNewestUntil, FindsHolding, FindsApprovedOf, FindsApprovedOn, FindsParts}
use Rattle.gaz_tables.proofs.VersionRows.{cust_is, kind_is, id_is, blpu_is, street_is, live_is, born_is, gone_is}
use Rattle.gaz_tables.proofs.VersionQueries.{newest_tests, newest_terms, newest_until_tests, newest_until_terms, holding_tests, holding_terms, approved_of_tests, approved_of_terms, approved_on_tests, approved_on_terms, parts_of_tests, parts_of_terms}

module _ (db : Database) (has : HasTables db) where
  module _ (cust : ℕ) (kind : ℕ) (id : List ℕ) where
    abbrev pub newest_params : Row
    newest_params = Int (pos cust) ∷ Int (pos kind) ∷ Text id ∷ []

    abbrev newest_wanted : List Test
    newest_wanted = (1, Eq, Int (pos cust)) ∷ (2, Eq, Int (pos kind)) ∷ (3, Eq, Text id) ∷ []

    newest_suits : (r : Row) → Has (rows_of db version2) r → SuitsAll newest_wanted r
    newest_suits r there = (cust_is db has r there, (kind_is db has r there, (id_is db has r there, tt)))

    pub newest_found : (r : Result (Vec Row Global) Error) → IfOk r (λ rows. Selects newest_tests newest_terms ((col 1 8, falling) ∷ []) (Some 1) (rows_of db version2) newest_params rows.items) → IfOk r (λ rows. FindsNewest cust kind id (rows_of db version2) rows.items)
    newest_found r h = answered r (λ answer s. shows_greatest newest_tests newest_terms newest_params (rows_of db version2) (IsOfKey cust kind id)
        (λ r there p. let m = means newest_wanted r refl (newest_suits r there) p in record { of_cust = m.0; of_kind = m.1.0; of_id = m.1.1.0 })
        (λ r there fits. met newest_wanted r (newest_suits r there) (fits.of_cust, (fits.of_kind, (fits.of_id, tt))))
        8 (λ r there fits. born_is db has r there) answer s) h

  module _ (cust : ℕ) (kind : ℕ) (id : List ℕ) (volume : ℕ) where
    abbrev pub newest_until_params : Row
    newest_until_params = Int (pos cust) ∷ Int (pos kind) ∷ Text id ∷ Int (pos volume) ∷ []

    abbrev newest_until_wanted : List Test
    newest_until_wanted = (1, Eq, Int (pos cust)) ∷ (2, Eq, Int (pos kind)) ∷ (3, Eq, Text id) ∷ (8, Le, Int (pos volume)) ∷ []

    newest_until_suits : (r : Row) → Has (rows_of db version2) r → SuitsAll newest_until_wanted r
    newest_until_suits r there = (cust_is db has r there, (kind_is db has r there, (id_is db has r there, (born_is db has r there, tt))))

    pub newest_until_found : (r : Result (Vec Row Global) Error) → IfOk r (λ rows. Selects newest_until_tests newest_until_terms ((col 1 8, falling) ∷ []) (Some 1) (rows_of db version2) newest_until_params rows.items) → IfOk r (λ rows. FindsNewestUntil cust kind id volume (rows_of db version2) rows.items)
    newest_until_found r h = answered r (λ answer s. shows_greatest newest_until_tests newest_until_terms newest_until_params (rows_of db version2) (IsOfKeyUntil cust kind id volume)
        (λ r there p. let m = means newest_until_wanted r refl (newest_until_suits r there) p in record { of_key = record { of_cust = m.0; of_kind = m.1.0; of_id = m.1.1.0 }; early = m.1.1.1.0 })
        (λ r there fits. met newest_until_wanted r (newest_until_suits r there) (fits.of_key.of_cust, (fits.of_key.of_kind, (fits.of_key.of_id, (fits.early, tt)))))
        8 (λ r there fits. born_is db has r there) answer s) h

  module _ (cust : ℕ) (kind : ℕ) (after : List ℕ) (volume : ℕ) (most : ℕ) where
    abbrev pub holding_params : Row
    holding_params = Int (pos cust) ∷ Int (pos kind) ∷ Text after ∷ Int (pos volume) ∷ Int (pos most) ∷ []

    abbrev holding_wanted : List Test
    holding_wanted = (1, Eq, Int (pos cust)) ∷ (2, Eq, Int (pos kind)) ∷ (3, Gt, Text after) ∷ (8, Le, Int (pos volume)) ∷ (9, Gt, Int (pos volume)) ∷ []

    holding_suits : (r : Row) → Has (rows_of db version2) r → SuitsAll holding_wanted r
    holding_suits r there = (cust_is db has r there, (kind_is db has r there, (id_is db has r there, (born_is db has r there, (gone_is db has r there, tt)))))

    pub holding_found : (r : Result (Vec Row Global) Error) → IfOk r (λ rows. Selects holding_tests holding_terms ((col 1 3, rising) ∷ []) (Some most) (rows_of db version2) holding_params rows.items) → IfOk r (λ rows. FindsHolding cust kind after volume most (rows_of db version2) rows.items)
    holding_found r h = answered r (λ answer s. shows_page holding_tests holding_terms holding_params (rows_of db version2) (IsHolding cust kind after volume)
        (λ r there p. let m = means holding_wanted r refl (holding_suits r there) p in record { of_cust = m.0; of_kind = m.1.0; behind = m.1.1.0; early = m.1.1.1.0; late = m.1.1.1.1.0 })
        (λ r there fits. met holding_wanted r (holding_suits r there) (fits.of_cust, (fits.of_kind, (fits.behind, (fits.early, (fits.late, tt))))))
        3 most answer s) h

  module _ (cust : ℕ) (blpu : ℤ) where
    abbrev pub approved_of_params : Row
    approved_of_params = Int (pos cust) ∷ Int blpu ∷ []

    abbrev approved_of_wanted : List Test
    approved_of_wanted = (1, Eq, Int (pos cust)) ∷ (2, Eq, Int (pos 24)) ∷ (4, Eq, Int blpu) ∷ (7, Eq, Int (pos 1)) ∷ (9, Eq, Int (pos 1000000)) ∷ []

    approved_of_suits : (r : Row) → Has (rows_of db version2) r → SuitsAll approved_of_wanted r
    approved_of_suits r there = (cust_is db has r there, (kind_is db has r there, (blpu_is db has r there, (live_is db has r there, (gone_is db has r there, tt)))))

    pub approved_of_found : (r : Result (Vec Row Global) Error) → IfOk r (λ rows. Selects approved_of_tests approved_of_terms [] None (rows_of db version2) approved_of_params rows.items) → IfOk r (λ rows. FindsApprovedOf cust blpu (rows_of db version2) rows.items)
    approved_of_found r h = answered r (λ answer s. shows_all approved_of_tests approved_of_terms approved_of_params (rows_of db version2) (IsApprovedOf cust blpu)
        (λ r there p. let m = means approved_of_wanted r refl (approved_of_suits r there) p in record { approved = record { of_cust = m.0; of_kind = m.1.0; is_live = m.1.1.1.0; is_current = m.1.1.1.1.0 }; of_blpu = m.1.1.0 })
        (λ r there fits. met approved_of_wanted r (approved_of_suits r there) (fits.approved.of_cust, (fits.approved.of_kind, (fits.of_blpu, (fits.approved.is_live, (fits.approved.is_current, tt))))))
        answer s) h

  module _ (cust : ℕ) (street : ℕ) (after : List ℕ) (most : ℕ) where
    abbrev pub approved_on_params : Row
    approved_on_params = Int (pos cust) ∷ Int (pos street) ∷ Text after ∷ Int (pos most) ∷ []

    abbrev approved_on_wanted : List Test
    approved_on_wanted = (1, Eq, Int (pos cust)) ∷ (2, Eq, Int (pos 24)) ∷ (5, Eq, Int (pos street)) ∷ (7, Eq, Int (pos 1)) ∷ (9, Eq, Int (pos 1000000)) ∷ (3, Gt, Text after) ∷ []

    approved_on_suits : (r : Row) → Has (rows_of db version2) r → SuitsAll approved_on_wanted r
    approved_on_suits r there = (cust_is db has r there, (kind_is db has r there, (street_is db has r there, (live_is db has r there, (gone_is db has r there, (id_is db has r there, tt))))))

    pub approved_on_found : (r : Result (Vec Row Global) Error) → IfOk r (λ rows. Selects approved_on_tests approved_on_terms ((col 1 3, rising) ∷ []) (Some most) (rows_of db version2) approved_on_params rows.items) → IfOk r (λ rows. FindsApprovedOn cust street after most (rows_of db version2) rows.items)
    approved_on_found r h = answered r (λ answer s. shows_page approved_on_tests approved_on_terms approved_on_params (rows_of db version2) (IsApprovedOn cust street after)
        (λ r there p. let m = means approved_on_wanted r refl (approved_on_suits r there) p in record { approved = record { of_cust = m.0; of_kind = m.1.0; is_live = m.1.1.1.0; is_current = m.1.1.1.1.0 }; on_street = m.1.1.0; behind = m.1.1.1.1.1.0 })
        (λ r there fits. met approved_on_wanted r (approved_on_suits r there) (fits.approved.of_cust, (fits.approved.of_kind, (fits.on_street, (fits.approved.is_live, (fits.approved.is_current, (fits.behind, tt)))))))
        3 most answer s) h

  module _ (cust kind : ℕ) (blpu : ℤ) (after : List ℕ) (most : ℕ) where
    abbrev pub parts_of_params : Row
    parts_of_params = Int (pos cust) ∷ Int (pos kind) ∷ Int blpu ∷ Text after ∷ Int (pos most) ∷ []

    abbrev parts_of_wanted : List Test
    parts_of_wanted = (1, Eq, Int (pos cust)) ∷ (2, Eq, Int (pos kind)) ∷ (4, Eq, Int blpu) ∷ (9, Eq, Int (pos 1000000)) ∷ (3, Gt, Text after) ∷ []

    parts_of_suits : (r : Row) → Has (rows_of db version2) r → SuitsAll parts_of_wanted r
    parts_of_suits r there = (cust_is db has r there, (kind_is db has r there, (blpu_is db has r there, (gone_is db has r there, (id_is db has r there, tt)))))

    pub parts_of_found : (r : Result (Vec Row Global) Error) → IfOk r (λ rows. Selects parts_of_tests parts_of_terms ((col 1 3, rising) ∷ []) (Some most) (rows_of db version2) parts_of_params rows.items) → IfOk r (λ rows. FindsParts cust kind blpu after most (rows_of db version2) rows.items)
    parts_of_found r h = answered r (λ answer s. shows_page parts_of_tests parts_of_terms parts_of_params (rows_of db version2) (IsPartOf cust kind blpu after)
        (λ r there p. let m = means parts_of_wanted r refl (parts_of_suits r there) p in record { of_cust = m.0; of_kind = m.1.0; of_blpu = m.1.1.0; is_current = m.1.1.1.0; behind = m.1.1.1.1.0 })
        (λ r there fits. met parts_of_wanted r (parts_of_suits r there) (fits.of_cust, (fits.of_kind, (fits.of_blpu, (fits.is_current, (fits.behind, tt))))))
        3 most answer s) h
