-- Of which schemas a migration is said, and what becomes of them.
use Rattle.std.proofs.Common.{◌≡◌, ◌∙◌, inl, inr, ℕ, codes, List, [], ◌∷◌, None, Some, arith, refl, sym, ap, subst}
use Rattle.sqlite_rules.specs.Lists.{Has}
use Rattle.sqlite_schema.specs.Names.{index_named, same_name, table_named}
use Rattle.sqlite.specs.Effect.{Database}
use Rattle.sqlite.specs.Order.{Row}
use Rattle.gaz_tables.proofs.CreatingExamples.{room_in_first, used}
use Rattle.gaz_tables.proofs.Four.{first_there}
use Rattle.gaz_tables.proofs.StoreExamples.{moved_like}
use Rattle.gaz_tables.specs.Creating.{HasRoomForSecond, second_in}
use Rattle.gaz_tables.specs.Migrating.{Migrates}
use Rattle.gaz_tables.specs.MigratingExamples.{WorkedMigrating, beside_version2, one_reason, reordered_first, with_by_blpu2, without_files}
use Rattle.gaz_tables.specs.Schema.{meta, received, store_schema, version, version2}
use Rattle.gaz_tables.specs.StoreExamples.{reasons}
use Rattle.gaz_tables.specs.Tables.{AreFirstThere, HasTable, tree_named, tree_of}

first_reordered : AreFirstThere reordered_first
unfolding same_name
first_reordered = record {
  versions = record { table = record version { tree = 4 }; place = 3; stands = record { named = refl; listed = refl; by_tree = refl; stored = refl }; is_like = moved_like version 4; apart = (refl, (refl, (refl, (refl, tt)))) };
  receiveds = record { table = record received { tree = 2 }; place = 2; stands = record { named = refl; listed = refl; by_tree = refl; stored = refl }; is_like = moved_like received 2; apart = (refl, (refl, (refl, (refl, tt)))) };
  metas = record { table = record meta { tree = 1 }; place = 0; stands = record { named = refl; listed = refl; by_tree = refl; stored = refl }; is_like = moved_like meta 1; apart = (refl, (refl, (refl, (refl, tt)))) };
}

room_reordered : HasRoomForSecond reordered_first
unfolding same_name
room_reordered = record {
  free = (record { no_table = refl; no_index = refl; no_view = refl }, (record { no_table = refl; no_index = refl; no_view = refl }, (record { no_table = refl; no_index = refl; no_view = refl }, tt)));
  unreferred = ((refl, (refl, (refl, (refl, tt)))), tt);
  counted = refl;
}

behind_another : tree_of version2 (second_in reordered_first) ≡ 13
unfolding tree_named same_name
behind_another = refl

versions_stay : tree_of version (second_in reordered_first) ≡ 4
unfolding tree_named same_name
versions_stay = refl

another_stays : tree_of reasons (second_in reordered_first) ≡ 11
unfolding tree_named same_name
another_stays = refl

-- ---- where a name is used, or a table is missing

own_version2 : table_named store_schema (codes "version2") ≡ Some 3
unfolding same_name
own_version2 = refl

namesake : table_named beside_version2 (codes "version2") ≡ Some 3
unfolding same_name
namesake = refl

of_an_index : index_named with_by_blpu2 (codes "by_blpu2") ≡ Some 2
unfolding same_name
of_an_index = refl

no_files : table_named without_files (codes "received") ≡ None
unfolding same_name
no_files = refl

none_stands : HasTable received without_files → ⊥
none_stands has = used has.place _ (sym (ap (table_named without_files) has.is_like.name) ∙ has.stands.named) no_files

-- ---- what isn't a migration

version_at : tree_of version reordered_first ≡ 4
unfolding tree_named same_name
version_at = refl

meta_at : tree_of meta reordered_first ≡ 1
unfolding tree_named same_name
meta_at = refl

none_left : (row : Row) → ◌≡◌ {A = List Row} [] (row ∷ []) → ⊥
none_left row e = absurd (cc)

emptied : (number : ℕ) (register : List ℕ) (old new : Database) → old.schema ≡ reordered_first → old.trees reasons.tree ≡ one_reason ∷ [] → new.trees reasons.tree ≡ [] → ¬ Migrates number register old new
emptied number register old new is had gone h =
    let there : Has old.schema.tables reasons = subst (λ s. Has s.tables reasons) (sym is) (inr (inl refl)) in
    let same = (h.others reasons there
    (λ e. let clash : 11 ≡ 4 = e ∙ ap (tree_of version) is ∙ version_at in absurd (omega (arith, clash)))
    (λ e. let clash : 11 ≡ 1 = e ∙ ap (tree_of meta) is ∙ meta_at in absurd (omega (arith, clash)))).1 in
    none_left one_reason (sym gone ∙ same ∙ had)

pub migrating_holds : WorkedMigrating
migrating_holds = record {
  own = record { there = first_there; room = room_in_first };
  in_another_order = record { there = first_reordered; room = room_reordered };
  behind_another = behind_another;
  versions_stay = versions_stay;
  another_stays = another_stays;
  not_once_more = λ it. used 3 _ own_version2 it.room.free.0.no_table;
  not_without_files = λ it. none_stands it.there.receiveds;
  not_beside_a_namesake = λ it. used 3 _ namesake it.room.free.0.no_table;
  not_beside_an_index = λ it. used 2 _ of_an_index it.room.free.1.0.no_index;
  another_is_emptied = emptied;
}
