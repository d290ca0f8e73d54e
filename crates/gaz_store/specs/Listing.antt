-- What a store lists of the items that it has, and of the numbers that passed between custodians.
use Rattle.std.specs.Prelude.{◌≡◌, ℕ, List, Option, option_map}
use Rattle.std.specs.List.{filter_map}
use Rattle.sqlite.specs.Edit.{id_in}
use Rattle.sqlite.specs.Effect.{Database}
use Rattle.sqlite.specs.Held.{state}
use Rattle.sqlite.specs.Order.{Row}
use Rattle.sqlite_trees.specs.declared.store.Store.{Ghosts}
use Rattle.gaz_records.specs.declared.item.Item.{Item}
use Rattle.gaz_tables.specs.Rowids.{rowid_of}
use Rattle.gaz_tables.specs.Schema.{version2}
use Rattle.gaz_tables.specs.Versions.{born_of, cust_of, gone_of}
use Rattle.gaz_tables.specs.Tables.{rows_of}
use Rattle.gaz_overlay.specs.Passages.{PassageRow}
use Rattle.gaz_row_items.specs.Versions.{item_in, living, number_in, passages_in}
use Rattle.gaz_loaded.specs.Lives.{Told}
use Rattle.gaz_store.specs.Store.{seen_in}
use Rattle.gaz_store.specs.declared.store.Store.{Store}

-- the tables of a store
abbrev pub database_of : {S R : Type 0} → {store : Ghosts S} → Store S R store → Database
database_of {S} {R} {store} t = (state store t.tables.conn).now

-- after a call that reads they are as they were, of a store of this register
abbrev pub TablesRest : {S R : Type 0} → {store : Ghosts S} → List ℕ → Store S R store
    → Store S R store → Type 0
TablesRest register old new = (seen_in register old).stands → (seen_in register new).unharmed
    → database_of new ≡ database_of old

-- a row of `version2` tells of its item at its rowid
abbrev pub told_with : Row → Item → Told
told_with r x = record {
  place = id_in (rowid_of r);
  code = number_in (cust_of r);
  life = living (number_in (born_of r)) (number_in (gone_of r)) x;
}

-- where its cells say one
abbrev pub told_in : Row → Option Told
told_in r = option_map (told_with r) (item_in r)

-- what the rows of `version2` tell
abbrev pub lives_kept : {S R : Type 0} → {store : Ghosts S} → Store S R store → List Told
lives_kept t = filter_map told_in (rows_of (database_of t) version2)

-- what the rows of `version2` tell of a custodian's numbers
abbrev pub passages_kept : {S R : Type 0} → {store : Ghosts S} → Store S R store → ℕ
    → List PassageRow
passages_kept t c = passages_in (rows_of (database_of t) version2) c
