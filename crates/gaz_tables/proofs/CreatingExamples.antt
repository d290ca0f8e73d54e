-- Which schemas have room for a store, and what becomes of them.
use Rattle.std.proofs.Common.{◌≡◌, ◌∙◌, ℕ, codes, true, false, List, Option, None, Some, refl, sym}
use Rattle.sqlite_schema.specs.Names.{index_named, same_name, table_named}
use Rattle.gaz_tables.specs.Creating.{HasRoom, HasRoomForSecond, no_schema, second_in, store_in}
use Rattle.gaz_tables.specs.CreatingExamples.{WorkedCreating, of_meta, only_reasons, only_received, uncounted, with_by_street2}
use Rattle.gaz_tables.specs.Schema.{first_schema, store_schema, version}
use Rattle.gaz_tables.specs.StoreExamples.{reasons}
use Rattle.gaz_tables.specs.Tables.{tree_named, tree_of}
use Rattle.gaz_sql_facts.specs.Making.{IsFree}

pub of_nothing : store_in no_schema ≡ store_schema
unfolding tree_named same_name
of_nothing = refl

pub of_schema_1 : second_in first_schema ≡ store_schema
unfolding tree_named same_name
of_schema_1 = refl

behind_another : tree_of version (store_in only_reasons) ≡ 13
unfolding tree_named same_name
behind_another = refl

another_stays : tree_of reasons (store_in only_reasons) ≡ 11
unfolding tree_named same_name
another_stays = refl

pub room_in_nothing : HasRoom no_schema
room_in_nothing = record {
  free =
      let one : (name : List ℕ) → IsFree no_schema name = λ name. record { no_table = refl; no_index = refl; no_view = refl } in
      (one _, (one _, (one _, (one _, (one _, (one _, (one _, (one _, tt))))))));
  unreferred = (tt, (tt, (tt, (tt, tt))));
  counted = refl;
}

room_beside_another : HasRoom only_reasons
unfolding same_name
room_beside_another = record {
  free = (
    record { no_table = refl; no_index = refl; no_view = refl },
    (
      record { no_table = refl; no_index = refl; no_view = refl },
      (
        record { no_table = refl; no_index = refl; no_view = refl },
        (
          record { no_table = refl; no_index = refl; no_view = refl },
          (
            record { no_table = refl; no_index = refl; no_view = refl },
            (
              record { no_table = refl; no_index = refl; no_view = refl },
              (
                record { no_table = refl; no_index = refl; no_view = refl },
                (record { no_table = refl; no_index = refl; no_view = refl }, tt),
              ),
            ),
          ),
        ),
      ),
    ),
  );
  unreferred = ((refl, tt), ((refl, tt), ((refl, tt), ((refl, tt), tt))));
  counted = refl;
}

-- what schema 2 has beside schema 1 has room there
pub room_in_first : HasRoomForSecond first_schema
unfolding same_name
room_in_first = record {
  free = (record { no_table = refl; no_index = refl; no_view = refl }, (record { no_table = refl; no_index = refl; no_view = refl }, (record { no_table = refl; no_index = refl; no_view = refl }, tt)));
  unreferred = ((refl, (refl, (refl, tt))), tt);
  counted = refl;
}

pub used : (k : ℕ) (o : Option ℕ) → o ≡ Some k → o ≡ None → ⊥
used k o some none = let both : ◌≡◌ {A = Option ℕ} (Some k) None = sym some ∙ none in absurd (cc)

own_version : table_named store_schema (codes "version") ≡ Some 0
unfolding same_name
own_version = refl

namesake : table_named only_received (codes "received") ≡ Some 0
unfolding same_name
namesake = refl

of_an_index : index_named with_by_street2 (codes "by_street2") ≡ Some 0
unfolding same_name
of_an_index = refl

under_a_key : HasRoom of_meta → ⊥
unfolding same_name
under_a_key room = let wrong : true ≡ false = room.unreferred.1.1.0.0 in absurd (cc)

without_counts : HasRoom uncounted → ⊥
unfolding same_name
without_counts room = let wrong : true ≡ false = room.counted in absurd (cc)

pub creating_holds : WorkedCreating
creating_holds = record {
  of_nothing = of_nothing;
  of_schema_1 = of_schema_1;
  behind_another = behind_another;
  another_stays = another_stays;
  room_in_nothing = room_in_nothing;
  room_beside_another = room_beside_another;
  not_beside_its_own = λ room. used 0 _ own_version room.free.0.no_table;
  not_beside_a_namesake = λ room. used 0 _ namesake room.free.1.0.no_table;
  not_beside_an_index = λ room. used 0 _ of_an_index room.free.1.1.1.1.1.1.1.0.no_index;
  not_under_a_key = under_a_key;
  not_without_counts = without_counts;
}
