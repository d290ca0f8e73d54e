-- Where the tables of schema 1 are, with room for what schema 2 has beside them, a migration finds them.
use Rattle.std.proofs.Common.{◌≡◌, ◌∙◌, inl, inr, Bool, true, false, not, ℕ, codes, List, [], ◌∷◌, Option, None, Some, refl, sym, ap}
use Rattle.std.specs.List.{list_any}
use Rattle.std.proofs.lemmas.Bool.{and_from, cases_Bool}
use Rattle.sqlite_catalog.proofs.ListFacts.{none_placed}
use Rattle.sqlite_catalog.proofs.SoundLemmas.{lowered}
use Rattle.sqlite_catalog.specs.Listing.{IsOwned}
use Rattle.sqlite_rules.specs.Lists.{Has}
use Rattle.sqlite_rules.proofs.ListLemmas.{all_has, some_from}
use Rattle.sqlite_schema.specs.Names.{same_name}
use Rattle.sqlite_schema.specs.declared.schema.View.{View as Stored}
use Rattle.sqlite.specs.Effect.{Database, IsDatabase}
use Rattle.sqlite.specs.Schema.{Schema}
use Rattle.sqlite.specs.Table.{Table}
use Rattle.gaz_sql_facts.specs.Making.{IsFree}
use Rattle.gaz_tables.proofs.Standing.{listed, table}
use Rattle.gaz_tables.specs.Migrating.{HasFirstTables}
use Rattle.gaz_tables.specs.Schema.{version}
use Rattle.gaz_tables.specs.Tables.{HasTable}
use Rattle.gaz_kept.proofs.MetaRows.{has_meta, has_received}
use Rattle.gaz_kept.specs.Opening.{has_name, is_like, is_owner}
use Rattle.gaz_kept.specs.OpeningFirst.{has_first}

has_version : (schema : Schema) → HasTable version schema → list_any (is_like version) schema.tables ≡ true
unfolding same_name
has_version schema has = some_from (is_like version) schema.tables (table version schema has) (listed version schema has) refl

none_any : {X : Type 0} (p : X → Bool) (xs : List X) → ((x : X) → Has xs x → p x ≡ false) → list_any p xs ≡ false
none_any p [] none = refl
none_any p (x ∷ xs) none = rw (none x (inl refl)) (none_any p xs (λ y there. none y (inr there)))

-- a name that is free in a sound database is that of no table, and nothing is kept aside with such a table
module _ (db : Database) (sound : IsDatabase db) (name : List ℕ) (free : IsFree db.schema name) where
  no_table : list_any (λ (t : Table). same_name t.name name) db.schema.tables ≡ false
  no_table = none_any (λ (t : Table). same_name t.name name) db.schema.tables (λ t there. none_placed (λ (t : Table). same_name t.name name) db.schema.tables 0 t free.no_table there)

  by_owner : (view : Stored) (o : Option (List ℕ)) → view.foreign ≡ o → IsOwned db.schema view → is_owner name o ≡ false
  by_owner view None is owned = refl
  by_owner view (Some owner) is owned = elim (cases_Bool (same_name owner name)) [
    | inl same ↦
        let all = rw is at owned in
        let it = all.1 in
        let named : same_name it.0.name name ≡ true = (lowered it.0.name name).1 ((lowered it.0.name owner).0 it.3 ∙ (lowered owner name).0 same) in
        let unnamed = none_placed (λ (v : Stored). same_name v.name name) db.schema.views 0 it.0 free.no_view it.1 in
        absurd (let clash : ◌≡◌ {A = Bool} true false = sym named ∙ unnamed in cc)
    | inr other ↦ other
  ]

  none_aside : list_any (λ (v : Stored). is_owner name v.foreign) db.schema.views ≡ false
  none_aside = none_any (λ (v : Stored). is_owner name v.foreign) db.schema.views (λ v there. by_owner v v.foreign refl (all_has (IsOwned db.schema) db.schema.views v sound.lists.listed.owned there))

  unnamed : has_name name db.schema ≡ false
  unnamed = rw (no_table, none_aside)

pub is_first : (db : Database) → HasFirstTables db → has_first db.schema ≡ true
unfolding has_first
is_first db has =
    and_from _ _ (has_version db.schema has.there.versions)
    (and_from _ _ (has_received db.schema has.there.receiveds)
    (and_from _ _ (has_meta db.schema has.there.metas) (ap not (unnamed db has.sound (codes "version2") has.room.free.0))))

pub nothing_first_lacks : (db : Database) → HasFirstTables db → false ≡ has_first db.schema → ⊥
nothing_first_lacks db has lacks = let e : ◌≡◌ {A = Bool} false true = lacks ∙ is_first db has in absurd (cc)
