-- Which tables stand, and for what there is still room, while the tables and indexes of a store are made one by one.
use Rattle.std.proofs.Common.{◌≡◌, ◌∙◌, ℕ, ◌^◌, true, false, nat_le, not, List, [], ◌∷◌, ◌++◌, inl, refl, sym, subst}
use Rattle.std.specs.List.{list_all}
use Rattle.sqlite_catalog.proofs.StepLemmas.{table_below}
use Rattle.sqlite_rules.specs.Lists.{Has}
use Rattle.sqlite_rules.proofs.ListLemmas.{has_got, has_left, has_right}
use Rattle.sqlite_schema.specs.declared.schema.Index.{Index}
use Rattle.sqlite_schema.specs.Names.{same_name}
use Rattle.sqlite.specs.Change.{next_tree}
use Rattle.sqlite.specs.Effect.{Database, IsDatabase}
use Rattle.sqlite.specs.Schema.{Schema}
use Rattle.sqlite.specs.Table.{Table}
use Rattle.gaz_sql_facts.proofs.Grown.{all_free_beside, all_free_still, apart_gained, apart_still, counts_still, gained, spares, stands_gained, stands_still, unreferred_still}
use Rattle.gaz_sql_facts.proofs.Sound.{low_tree}
use Rattle.gaz_tables.proofs.Standing.{is_listed, tree_is}
use Rattle.gaz_tables.proofs.Trees.{stands_too, tree_too}
use Rattle.gaz_tables.specs.Creating.{HasRoom, HasRoomFor, HasRoomForFirst, HasRoomForOthers, HasRoomForSecond, HasRoomForVersions, TakesIndex, TakesTable, first_in, index_put, others_in, second_in, store_in, table_put, versions_in}
use Rattle.gaz_tables.specs.Schema.{by_blpu, by_street, by_blpu2, by_street2, version, received, meta, version2}
use Rattle.gaz_tables.specs.Tables.{AreThere, HasTable, tree_of}

-- each table of the schema is one that a store keeps, as in a sound database
abbrev pub AreLow : Schema → Type 0
AreLow schema = (t : Table) → Has schema.tables t → nat_le (2 ^ 31) t.tree ≡ false

pub low_of : (db : Database) (schema : Schema) → IsDatabase db → db.schema ≡ schema → AreLow schema
low_of db schema sound is = subst AreLow is (λ t there. low_tree db t sound there)

-- ---- one table or index

-- the table without foreign keys that is gained, and one that was there
module _ (s : Schema) (u : Table) (none : u.references ≡ []) where
  has_gained : HasRoomFor (u.name ∷ []) [] s → nat_le (2 ^ 31) (next_tree s) ≡ false → HasTable u (table_put u s)
  has_gained room low = record {
    table = gained s u;
    place = _;
    stands = stands_gained s u room.free.0 low;
    is_like = record { name = refl; columns = refl; key = refl; uniques = refl; orders = refl; computed = refl; stamps = refl; is_counted = refl };
    apart = apart_gained s u none room.unreferred.0;
  }

  has_still : (like : Table) → HasTable like s → HasTable like (table_put u s)
  has_still like has = record {
    table = has.table;
    place = has.place;
    stands = stands_still s u has.place has.table has.stands;
    is_like = has.is_like;
    apart = apart_still s u none has.table.tree (table_below s has.table (has_got s.tables has.place has.table has.stands.listed)) has.apart;
  }

  tree_still : (like : Table) → HasTable like s → tree_of like (table_put u s) ≡ tree_of like s
  unfolding has_still
  tree_still like has = tree_is like (table_put u s) (has_still like has) ∙ sym (tree_is like s has)

  room_still : (tables indexes : List (List ℕ)) → u.is_counted ≡ false → spares s u (tables ++ indexes) ≡ true → HasRoomFor tables indexes s → HasRoomFor tables indexes (table_put u s)
  room_still tables indexes uncounted clear room = record {
    free = all_free_still s u (tables ++ indexes) room.free clear;
    unreferred = unreferred_still s u none tables room.unreferred;
    counted = counts_still s u uncounted room.counted;
  }

module _ (s : Schema) (t : Table) (i : Index) where
  has_beside : (like : Table) → HasTable like s → HasTable like (index_put t i s)
  has_beside like has = stands_too like s (index_put t i s) refl has

  room_beside : (tables indexes : List (List ℕ)) → list_all (λ name. not (same_name i.name name)) (tables ++ indexes) ≡ true → HasRoomFor tables indexes s → HasRoomFor tables indexes (index_put t i s)
  room_beside tables indexes clear room = record { free = all_free_beside s (record t { tree = tree_of t s }) i (tables ++ indexes) room.free clear; unreferred = room.unreferred; counted = room.counted }

last_low : (s : Schema) (u : Table) → AreLow (table_put u s) → nat_le (2 ^ 31) (next_tree s) ≡ false
last_low s u low = low (gained s u) (has_right s.tables (gained s u ∷ []) (gained s u) (inl refl))

low_before : (s : Schema) (u : Table) → AreLow (table_put u s) → AreLow s
low_before s u low t there = low t (has_left s.tables (gained s u ∷ []) t there)

-- ---- `version` and its indexes, and the same of `version2`

module _ (s : Schema) (room : HasRoomForVersions s) where
  pub takes_version : TakesTable version s
  takes_version = record { free = (room.free.0, tt); unreferred = room.unreferred; counted = room.counted }

  version_there : AreLow (table_put version s) → HasTable version (table_put version s)
  version_there low = has_gained s version refl takes_version (last_low s version low)

  pub takes_by_blpu : AreLow (table_put version s) → TakesIndex version by_blpu (table_put version s)
  unfolding same_name
  takes_by_blpu low = record {
    there = version_there low;
    free = (all_free_still s version (by_blpu.name ∷ []) (room.free.1.0, tt) refl).0;
  }

  pub takes_by_street : AreLow (table_put version s) → TakesIndex version by_street (index_put version by_blpu (table_put version s))
  unfolding same_name
  takes_by_street low = record {
    there = has_beside (table_put version s) version by_blpu version (version_there low);
    free = (all_free_beside (table_put version s) (record version { tree = tree_of version (table_put version s) }) by_blpu (by_street.name ∷ []) (all_free_still s version (by_street.name ∷ []) (room.free.1.1.0, tt) refl) refl).0;
  }

module _ (s : Schema) (room : HasRoomForSecond s) where
  pub takes_version2 : TakesTable version2 s
  takes_version2 = record { free = (room.free.0, tt); unreferred = room.unreferred; counted = room.counted }

  version2_there : AreLow (table_put version2 s) → HasTable version2 (table_put version2 s)
  version2_there low = has_gained s version2 refl takes_version2 (last_low s version2 low)

  pub takes_by_blpu2 : AreLow (table_put version2 s) → TakesIndex version2 by_blpu2 (table_put version2 s)
  unfolding same_name
  takes_by_blpu2 low = record {
    there = version2_there low;
    free = (all_free_still s version2 (by_blpu2.name ∷ []) (room.free.1.0, tt) refl).0;
  }

  pub takes_by_street2 : AreLow (table_put version2 s) → TakesIndex version2 by_street2 (index_put version2 by_blpu2 (table_put version2 s))
  unfolding same_name
  takes_by_street2 low = record {
    there = has_beside (table_put version2 s) version2 by_blpu2 version2 (version2_there low);
    free = (all_free_beside (table_put version2 s) (record version2 { tree = tree_of version2 (table_put version2 s) }) by_blpu2 (by_street2.name ∷ []) (all_free_still s version2 (by_street2.name ∷ []) (room.free.1.1.0, tt) refl) refl).0;
  }

-- ---- what schema 2 has beside schema 1

module _ (s : Schema) where
  abbrev beside_first : Schema
  beside_first = table_put version2 s

  -- a table that stands in schema 1 stands in the whole, at its tree
  pub in_second : (like : Table) → HasTable like s → HasTable like (second_in s)
  in_second like has = has_beside (index_put version2 by_blpu2 beside_first) version2 by_street2 like (has_beside beside_first version2 by_blpu2 like (has_still s version2 refl like has))

  pub second_tree : (like : Table) → HasTable like s → tree_of like (second_in s) ≡ tree_of like s
  second_tree like has = tree_too like beside_first (second_in s) refl ∙ tree_still s version2 refl like has

  pub second_there : HasRoomForSecond s → AreLow (second_in s) → HasTable version2 (second_in s)
  second_there room low = has_beside (index_put version2 by_blpu2 beside_first) version2 by_street2 version2 (has_beside beside_first version2 by_blpu2 version2 (version2_there s room low))

-- ---- `received` and `meta`

module _ (s : Schema) (room : HasRoomForOthers s) where
  pub takes_received : TakesTable received s
  takes_received = record { free = (room.free.0, tt); unreferred = (room.unreferred.0, tt); counted = room.counted }

  takes_meta_first : TakesTable meta s
  takes_meta_first = record { free = (room.free.1.0, tt); unreferred = (room.unreferred.1.0, tt); counted = room.counted }

  pub takes_meta : TakesTable meta (table_put received s)
  unfolding same_name
  takes_meta = room_still s received refl (meta.name ∷ []) [] refl refl takes_meta_first

-- ---- one after another

-- `version` and its indexes leave the room that they don't take
module _ (tables indexes : List (List ℕ)) (s : Schema) where
  beside_versions : spares s version (tables ++ indexes) ≡ true → list_all (λ name. not (same_name by_blpu.name name)) (tables ++ indexes) ≡ true → list_all (λ name. not (same_name by_street.name name)) (tables ++ indexes) ≡ true
      → HasRoomFor tables indexes s → HasRoomFor tables indexes (versions_in s)
  beside_versions first second third room =
      room_beside (index_put version by_blpu (table_put version s)) version by_street tables indexes third
      (room_beside (table_put version s) version by_blpu tables indexes second (room_still s version refl tables indexes refl first room))

  beside_others : spares s received (tables ++ indexes) ≡ true → spares (table_put received s) meta (tables ++ indexes) ≡ true → HasRoomFor tables indexes s → HasRoomFor tables indexes (others_in s)
  beside_others first second room = room_still (table_put received s) meta refl tables indexes refl second (room_still s received refl tables indexes refl first room)

module _ (s : Schema) (room : HasRoomForFirst s) where
  pub versions_first : HasRoomForVersions s
  versions_first = record {
    free = (room.free.0, (room.free.1.1.1.0, (room.free.1.1.1.1.0, tt)));
    unreferred = (room.unreferred.0, tt);
    counted = room.counted;
  }

  others_first : HasRoomForOthers s
  others_first = record { free = (room.free.1.0, (room.free.1.1.0, tt)); unreferred = (room.unreferred.1.0, (room.unreferred.1.1.0, tt)); counted = room.counted }

  pub others_then : HasRoomForOthers (versions_in s)
  unfolding same_name
  others_then = beside_versions (received.name ∷ meta.name ∷ []) [] s refl refl refl others_first

module _ (s : Schema) (room : HasRoom s) where
  pub room_for_first : HasRoomForFirst s
  room_for_first = record {
    free = (room.free.0, (room.free.1.0, (room.free.1.1.0, (room.free.1.1.1.1.0, (room.free.1.1.1.1.1.0, tt)))));
    unreferred = (room.unreferred.0, (room.unreferred.1.0, (room.unreferred.1.1.0, tt)));
    counted = room.counted;
  }

  second_first : HasRoomForSecond s
  second_first = record {
    free = (room.free.1.1.1.0, (room.free.1.1.1.1.1.1.0, (room.free.1.1.1.1.1.1.1.0, tt)));
    unreferred = (room.unreferred.1.1.1.0, tt);
    counted = room.counted;
  }

  pub room_for_second : HasRoomForSecond (first_in s)
  unfolding same_name
  room_for_second =
      beside_others (version2.name ∷ []) (by_blpu2.name ∷ by_street2.name ∷ []) (versions_in s) refl refl
      (beside_versions (version2.name ∷ []) (by_blpu2.name ∷ by_street2.name ∷ []) s refl refl refl second_first)

  -- ---- which tables stand in the end

  module _ (low : AreLow (store_in s)) where
    abbrev others : Schema
    others = table_put received (versions_in s)

    low_first : AreLow (first_in s)
    low_first = low_before (first_in s) version2 low

    low_received : AreLow others
    low_received = low_before others meta low_first

    low_versions : AreLow (table_put version s)
    low_versions = low_before (versions_in s) received low_received

    abbrev room_others : HasRoomForOthers (versions_in s)
    room_others = others_then s room_for_first

    pub old_there : HasTable version (store_in s)
    old_there =
        in_second (first_in s) version
        (has_still others meta refl version
        (has_still (versions_in s) received refl version
        (has_beside (index_put version by_blpu (table_put version s)) version by_street version
        (has_beside (table_put version s) version by_blpu version (version_there s (versions_first s room_for_first) low_versions)))))

    pub all_there : AreThere (store_in s)
    all_there = record {
      firsts = is_listed version (store_in s) old_there;
      versions = second_there (first_in s) room_for_second low;
      receiveds =
          in_second (first_in s) received
          (has_still others meta refl received
          (has_gained (versions_in s) received refl (takes_received (versions_in s) room_others) (last_low (versions_in s) received low_received)));
      metas = in_second (first_in s) meta (has_gained others meta refl (takes_meta (versions_in s) room_others) (last_low others meta low_first));
    }
