-- What a new store is made of.
use Rattle.std.proofs.Common.{◌≡◌, ◌≢◌, ◌∙◌, inl, inr, ℕ, List, [], false, true, refl, sym, ap, subst}
use Rattle.sqlite_catalog.proofs.ListFacts.{none_placed}
use Rattle.sqlite.specs.Schema.{Schema}
use Rattle.sqlite.specs.Table.{Table}
use Rattle.sqlite_rules.specs.Lists.{Has}
use Rattle.sqlite_rules.proofs.ListLemmas.{has_got}
use Rattle.sqlite_schema.specs.Names.{same_name}
use Rattle.sqlite.specs.Effect.{Database}
use Rattle.gaz_sql_facts.specs.Changes.{IsAdded}
use Rattle.gaz_sql_facts.specs.Making.{IsFree}
use Rattle.gaz_sql_facts.proofs.Emptied.{empty_is_shaped}
use Rattle.gaz_sql_facts.proofs.Sound.{itself}
use Rattle.gaz_tables.proofs.Rooms.{all_there, low_of, old_there}
use Rattle.gaz_tables.proofs.Standing as standing
use Rattle.gaz_tables.proofs.Staying.{other_name, rows_stay, tables_now}
use Rattle.gaz_tables.specs.Creating.{Gains, HasRoom, IsFresh, IsNewStore, store_in}
use Rattle.gaz_tables.specs.Metas.{AddsMeta, meta_row}
use Rattle.gaz_tables.specs.Schema.{version, received, meta, version2}
use Rattle.gaz_tables.specs.Stores.{ChangesTable, HasTables}
use Rattle.gaz_tables.specs.Tables.{AreThere, HasTable, rows_of, tree_of}

-- what is gained is gained one after the other
pub gains_both : (between gets : Schema) (old mid new : Database) → Gains between old mid → Gains gets mid new → Gains gets old new
gains_both between gets old mid new one two = record {
  schema_is = two.schema_is;
  sound = two.sound;
  stay = λ t there. let first = one.stay t there in let second = two.stay t first.0 in (second.0, second.1 ∙ first.1);
  fresh = λ t there. elim (two.fresh t there) [
    | inl was ↦ elim (one.fresh t was) [
      | inl first ↦ inl first
      | inr new ↦ inr (record { empty = (two.stay t was).1 ∙ new.empty; apart = new.apart })
    ]
    | inr new ↦ inr (record { empty = new.empty; apart = λ u first. new.apart u (one.stay u first).0 })
  ];
}

module _ (old new : Database) (gets : Schema) (gains : Gains gets old new) (like : Table) (has : HasTable like new.schema) (free : IsFree old.schema like.name) where
  -- no table had the name
  was_none : Has old.schema.tables has.table → ⊥
  was_none there =
      let other : same_name has.table.name like.name ≡ false = none_placed (λ (t : Table). same_name t.name like.name) old.schema.tables 0 has.table free.no_table there in
      let same : same_name has.table.name like.name ≡ true = subst (λ name. same_name has.table.name name ≡ true) has.is_like.name (itself has.table.name) in
      let clash : true ≡ false = sym same ∙ other in absurd (cc)

  its_own : IsFresh old new has.table
  its_own = elim (gains.fresh has.table (has_got new.schema.tables has.place has.table has.stands.listed)) [
    | inl was ↦ absurd (was_none was)
    | inr fresh ↦ fresh
  ]

  pub none_yet : rows_of new like ≡ []
  none_yet = ap new.trees (standing.tree_is like new.schema has) ∙ its_own.empty

  pub no_other : (u : Table) → Has old.schema.tables u → u.tree ≢ tree_of like new.schema
  no_other u there same = its_own.apart u there (same ∙ standing.tree_is like new.schema has)

-- a database that had room for a store has its tables, and each is empty
module _ (old made : Database) (room : HasRoom old.schema) (gains : Gains (store_in old.schema) old made) where
  there : AreThere made.schema
  there = subst AreThere (sym gains.schema_is) (all_there old.schema room (low_of made (store_in old.schema) gains.sound gains.schema_is))

  old_still : HasTable version made.schema
  old_still = subst (HasTable version) (sym gains.schema_is) (old_there old.schema room (low_of made (store_in old.schema) gains.sound gains.schema_is))

  no_old_versions : rows_of made version ≡ []
  no_old_versions = none_yet old made (store_in old.schema) gains version old_still room.free.0

  no_receiveds : rows_of made received ≡ []
  no_receiveds = none_yet old made (store_in old.schema) gains received there.receiveds room.free.1.0

  no_metas : rows_of made meta ≡ []
  no_metas = none_yet old made (store_in old.schema) gains meta there.metas room.free.1.1.0

  no_versions : rows_of made version2 ≡ []
  no_versions = none_yet old made (store_in old.schema) gains version2 there.versions room.free.1.1.1.0

  pub empty_tables : HasTables made
  empty_tables = record {
    there = there;
    sound = gains.sound;
    versions_shaped = empty_is_shaped (rows_of made version2) no_versions;
    receiveds_shaped = empty_is_shaped (rows_of made received) no_receiveds;
    metas_shaped = empty_is_shaped (rows_of made meta) no_metas;
  }

  -- with one row of `meta` they are a new store
  pub new_store : (number : ℕ) (register : List ℕ) (new : Database) → ChangesTable meta (AddsMeta number register) made new → IsNewStore number register old new
  new_store number register new h =
      let still = rows_stay meta (AddsMeta number register) made new there.metas h in
      record {
        schema_is = h.schema_stays ∙ gains.schema_is;
        tables = tables_now meta (AddsMeta number register) made new there.metas h empty_tables;
        no_old_versions = still version old_still (other_name version meta refl) ∙ no_old_versions;
        no_versions = still version2 there.versions (other_name version2 meta refl) ∙ no_versions;
        no_receiveds = still received there.receiveds (other_name received meta refl) ∙ no_receiveds;
        meta_alone = subst (λ l. IsAdded (meta_row number register) l (rows_of new meta)) no_metas h.rows;
        others = λ t was.
            let stayed = gains.stay t was in
            (subst (λ s. Has s.tables t) (sym h.schema_stays) stayed.0, h.others t stayed.0 (no_other old made (store_in old.schema) gains meta there.metas room.free.1.1.0 t was) ∙ stayed.1);
      }
