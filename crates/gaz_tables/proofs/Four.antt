-- The tables of the hub's own schemas stand in them; a database of the four tables is one of a store's.
use Rattle.std.proofs.Common.{◌≡◌, List, inl, refl, sym, subst}
use Rattle.sqlite_schema.specs.declared.schema.Table.{Table}
use Rattle.sqlite_schema.specs.Names.{same_name}
use Rattle.sqlite.specs.Effect.{Database}
use Rattle.sqlite.specs.Order.{Row}
use Rattle.gaz_tables.proofs.CreatingExamples.{room_in_first}
use Rattle.gaz_tables.proofs.Standing.{likes_itself}
use Rattle.gaz_tables.proofs.Staying.{shaped_still, tables_now}
use Rattle.gaz_tables.specs.Creating.{HasRoomForSecond}
use Rattle.gaz_tables.specs.Laws.{OwnFirstTables, OwnTables}
use Rattle.gaz_tables.specs.Migrating.{HasFourTables}
use Rattle.gaz_tables.specs.Schema.{first_schema, store_schema, version, received, meta, version2}
use Rattle.gaz_tables.specs.Stores.{ChangesTable}
use Rattle.gaz_tables.specs.Tables.{AreFirstThere, AreThere, HasTable, tree_named, tree_of}

received_there : HasTable received store_schema
unfolding same_name
received_there = record { table = received; place = 1; stands = record { named = refl; listed = refl; by_tree = refl; stored = refl }; is_like = likes_itself received; apart = (refl, (refl, (refl, (refl, tt)))) }

meta_there : HasTable meta store_schema
unfolding same_name
meta_there = record { table = meta; place = 2; stands = record { named = refl; listed = refl; by_tree = refl; stored = refl }; is_like = likes_itself meta; apart = (refl, (refl, (refl, (refl, tt)))) }

version2_there : HasTable version2 store_schema
unfolding same_name
version2_there = record { table = version2; place = 3; stands = record { named = refl; listed = refl; by_tree = refl; stored = refl }; is_like = likes_itself version2; apart = (refl, (refl, (refl, (refl, tt)))) }

pub all_there : AreThere store_schema
all_there = record { firsts = record { table = version; there = inl refl; name = refl; columns = refl }; versions = version2_there; receiveds = received_there; metas = meta_there }

version_first : HasTable version first_schema
unfolding same_name
version_first = record { table = version; place = 0; stands = record { named = refl; listed = refl; by_tree = refl; stored = refl }; is_like = likes_itself version; apart = (refl, (refl, (refl, tt))) }

received_first : HasTable received first_schema
unfolding same_name
received_first = record { table = received; place = 1; stands = record { named = refl; listed = refl; by_tree = refl; stored = refl }; is_like = likes_itself received; apart = (refl, (refl, (refl, tt))) }

meta_first : HasTable meta first_schema
unfolding same_name
meta_first = record { table = meta; place = 2; stands = record { named = refl; listed = refl; by_tree = refl; stored = refl }; is_like = likes_itself meta; apart = (refl, (refl, (refl, tt))) }

pub first_there : AreFirstThere first_schema
first_there = record { versions = version_first; receiveds = received_first; metas = meta_first }

-- ---- where a store's rows are

pub received_tree : tree_of received store_schema ≡ received.tree
unfolding tree_named same_name
received_tree = refl

pub version2_tree : tree_of version2 store_schema ≡ version2.tree
unfolding tree_named same_name
version2_tree = refl

-- ---- a database of one of these schemas

pub own_tables : OwnTables
own_tables db is sound versions receiveds metas =
    record { there = subst AreThere (sym is) all_there; sound = sound; versions_shaped = versions; receiveds_shaped = receiveds; metas_shaped = metas }

pub own_first_tables : OwnFirstTables
own_first_tables db is sound versions receiveds metas =
    record { there = subst AreFirstThere (sym is) first_there; room = subst HasRoomForSecond (sym is) room_in_first; sound = sound; versions_shaped = versions; receiveds_shaped = receiveds; metas_shaped = metas }

-- a write leaves a database the four tables
module _ (table : Table) (Becomes : List Row → List Row → Type 0) (old new : Database) (has : HasFourTables old) (there : HasTable table old.schema) (h : ChangesTable table Becomes old new) where
  pub four_still : HasFourTables new
  four_still = record {
    tables = tables_now table Becomes old new there h has.tables;
    old_there = subst (HasTable version) (sym h.schema_stays) has.old_there;
    old_shaped = shaped_still table Becomes old new there h version has.old_there has.old_shaped;
  }
