-- What the queries answer that go through `version2` in the order of its rowids.
use Rattle.std.proofs.Common.{◌≡◌, ℕ, ℤ, pos, List, [], ◌∷◌, Some, Result, IfOk, Vec, refl}
use Rattle.std.specs.Prelude.{IsTrue}
use Rattle.std.specs.declared.alloc.Global.{Global}
use Rattle.std.specs.declared.cmp.Ordering.TheVariants.{Equal}
use Rattle.sqlite_rules.specs.Lists.{Has}
use Rattle.sqlite_rules.proofs.ListLemmas.{all_has}
use Rattle.sqlite_rules.proofs.PlaceLemmas.{tied_same}
use Rattle.sqlite_rules.proofs.TableLemmas.{int_is}
use Rattle.sqlite_sql.specs.declared.ops.CompareOp.TheVariants.{Gt}
use Rattle.sqlite.specs.declared.error.Error.{Error}
use Rattle.sqlite.specs.declared.types.Value.TheVariants.{Int}
use Rattle.sqlite.specs.Edit.{id_in}
use Rattle.sqlite.specs.Effect.{Database}
use Rattle.sqlite.specs.Order.{Row, value_cmp}
use Rattle.sqlite.specs.Term.{col}
use Rattle.sqlite.specs.View.{is_int}
use Rattle.gaz_sql_facts.specs.Selects.{rising, Selects}
use Rattle.gaz_tables.proofs.RowidQueries.{behind_tests, first_tests, row_terms}
use Rattle.gaz_tables.proofs.Shown.{answered, shows_page}
use Rattle.gaz_tables.proofs.Tests.{Test, SuitsAll, means, met}
use Rattle.gaz_tables.proofs.Unique.{page_rises}
use Rattle.gaz_tables.specs.Rowids.{FindsBehind, FindsFirst, FindsInTurn, IsPlacedBehind, row_shown, rowid_of, rowid_place}
use Rattle.gaz_tables.specs.Schema.{version2}
use Rattle.gaz_tables.specs.Shows.{IsAnyRow, ShowsPage}
use Rattle.gaz_tables.specs.Stores.{HasTables}
use Rattle.gaz_tables.specs.Tables.{rows_of}

module _ (db : Database) (has : HasTables db) where
  -- each row has a number as its rowid, and no two have the same
  pub rowid_is : (r : Row) → Has (rows_of db version2) r → (n : ℤ) × (rowid_of r ≡ Int n)
  rowid_is r there = (id_in (rowid_of r), int_is (rowid_of r) (all_has (λ x. IsTrue (is_int (rowid_of x))) (rows_of db version2) r has.versions_shaped.1 there))

  pub placed_once : (r s : Row) → Has (rows_of db version2) r → Has (rows_of db version2) s → value_cmp (rowid_of r) (rowid_of s) ≡ Equal → r ≡ s
  placed_once r s there here tie = tied_same (rows_of db version2) r s has.versions_shaped.0 there here tie

  in_turn : (Fits : Row → Type 0) (most : ℕ) (answer : List Row) → ShowsPage Fits rowid_place most row_shown (rows_of db version2) answer → FindsInTurn Fits most (rows_of db version2) answer
  in_turn Fits most answer h = record {
    page = h;
    strict = page_rises Fits (rows_of db version2) has.versions_shaped rowid_place most row_shown answer (λ r s there here fr fs tie. placed_once r s there here tie) h;
  }

  module _ (most : ℕ) where
    abbrev pub first_params : Row
    first_params = Int (pos most) ∷ []

    pub first_found : (r : Result (Vec Row Global) Error) → IfOk r (λ rows. Selects first_tests row_terms ((col 1 0, rising) ∷ []) (Some most) (rows_of db version2) first_params rows.items) → IfOk r (λ rows. FindsFirst most (rows_of db version2) rows.items)
    first_found r h = answered r (λ answer s. in_turn IsAnyRow most answer (shows_page first_tests row_terms first_params (rows_of db version2) IsAnyRow
        (λ r there p. tt) (λ r there fits. refl) 0 most answer s)) h

  module _ (after : ℤ) (most : ℕ) where
    abbrev pub behind_params : Row
    behind_params = Int after ∷ Int (pos most) ∷ []

    abbrev behind_wanted : List Test
    behind_wanted = (0, Gt, Int after) ∷ []

    behind_suits : (r : Row) → Has (rows_of db version2) r → SuitsAll behind_wanted r
    behind_suits r there = (rowid_is r there, tt)

    pub behind_found : (r : Result (Vec Row Global) Error) → IfOk r (λ rows. Selects behind_tests row_terms ((col 1 0, rising) ∷ []) (Some most) (rows_of db version2) behind_params rows.items) → IfOk r (λ rows. FindsBehind after most (rows_of db version2) rows.items)
    behind_found r h = answered r (λ answer s. in_turn (IsPlacedBehind after) most answer (shows_page behind_tests row_terms behind_params (rows_of db version2) (IsPlacedBehind after)
        (λ r there p. (means behind_wanted r refl (behind_suits r there) p).0)
        (λ r there fits. met behind_wanted r (behind_suits r there) (fits, tt))
        0 most answer s)) h
