-- Which schemas have a store's tables.
use Rattle.std.proofs.Common.{◌≡◌, ◌∙◌, ℕ, codes, true, false, [], ◌∷◌, inl, inr, Option, Some, length, slice_get, arith, refl, sym, ap, subst}
use Rattle.sqlite_rules.specs.Lists.{Has}
use Rattle.sqlite_schema.specs.declared.schema.Column.{Column}
use Rattle.sqlite_schema.specs.declared.schema.Schema.{Schema}
use Rattle.sqlite_schema.specs.declared.schema.Table.{Table}
use Rattle.sqlite_schema.specs.Names.{same_name, table_named}
use Rattle.sqlite_value.specs.Keys.{joined}
use Rattle.gaz_sql_facts.specs.Standing.{IsApart}
use Rattle.gaz_tables.proofs.Four.{all_there}
use Rattle.gaz_tables.proofs.Standing.{likes_itself, listed}
use Rattle.gaz_tables.specs.Schema.{meta, received, version, version2}
use Rattle.gaz_tables.specs.StoreExamples.{WorkedStores, narrower, of_files, reordered, unindexed, with_reasons, without_rule}
use Rattle.gaz_tables.specs.Tables.{AreThere, HasTable, IsLike, tree_named, tree_of}

without_indexes : AreThere unindexed
unfolding same_name
without_indexes = record {
  firsts = record { table = version; there = inl refl; name = refl; columns = refl };
  versions = record { table = version2; place = 3; stands = record { named = refl; listed = refl; by_tree = refl; stored = refl }; is_like = likes_itself version2; apart = (refl, (refl, (refl, (refl, tt)))) };
  receiveds = record { table = received; place = 1; stands = record { named = refl; listed = refl; by_tree = refl; stored = refl }; is_like = likes_itself received; apart = (refl, (refl, (refl, (refl, tt)))) };
  metas = record { table = meta; place = 2; stands = record { named = refl; listed = refl; by_tree = refl; stored = refl }; is_like = likes_itself meta; apart = (refl, (refl, (refl, (refl, tt)))) };
}

with_another : AreThere with_reasons
unfolding same_name
with_another = record {
  firsts = record { table = version; there = inr (inl refl); name = refl; columns = refl };
  versions = record { table = version2; place = 4; stands = record { named = refl; listed = refl; by_tree = refl; stored = refl }; is_like = likes_itself version2; apart = (refl, (refl, (refl, (refl, (refl, tt))))) };
  receiveds = record { table = received; place = 2; stands = record { named = refl; listed = refl; by_tree = refl; stored = refl }; is_like = likes_itself received; apart = (refl, (refl, (refl, (refl, (refl, tt))))) };
  metas = record { table = meta; place = 3; stands = record { named = refl; listed = refl; by_tree = refl; stored = refl }; is_like = likes_itself meta; apart = (refl, (refl, (refl, (refl, (refl, tt))))) };
}

pub moved_like : (like : Table) (tree : ℕ) → IsLike like (record like { tree = tree })
moved_like like tree = record { name = refl; columns = refl; key = refl; uniques = refl; orders = refl; computed = refl; stamps = refl; is_counted = refl }

in_another_order : AreThere reordered
unfolding same_name
in_another_order = record {
  firsts = record { table = record version { tree = 6 }; there = inr (inr (inr (inl refl))); name = refl; columns = refl };
  versions = record { table = record version2 { tree = 1 }; place = 0; stands = record { named = refl; listed = refl; by_tree = refl; stored = refl }; is_like = moved_like version2 1; apart = (refl, (refl, (refl, (refl, tt)))) };
  receiveds = record { table = record received { tree = 4 }; place = 2; stands = record { named = refl; listed = refl; by_tree = refl; stored = refl }; is_like = moved_like received 4; apart = (refl, (refl, (refl, (refl, tt)))) };
  metas = record { table = record meta { tree = 3 }; place = 1; stands = record { named = refl; listed = refl; by_tree = refl; stored = refl }; is_like = moved_like meta 3; apart = (refl, (refl, (refl, (refl, tt)))) };
}

-- none of the others has the name of `version`
no_first : (t : Table) → Has (received ∷ meta ∷ version2 ∷ []) t → t.name ≡ codes "version" → ⊥
no_first t (inl is) named = let clash : codes "received" ≡ codes "version" = sym (ap (λ (u : Table). u.name) is) ∙ named in absurd (cc)
no_first t (inr (inl is)) named = let clash : codes "meta" ≡ codes "version" = sym (ap (λ (u : Table). u.name) is) ∙ named in absurd (cc)
no_first t (inr (inr (inl is))) named = let clash : codes "version2" ≡ codes "version" = sym (ap (λ (u : Table). u.name) is) ∙ named in absurd (cc)
no_first t (inr (inr (inr never))) named = absurd never

found_there : tree_of received reordered ≡ 4
unfolding tree_named same_name
found_there = refl

-- which table stands at a name is told by the name alone
the_table : (at : ℕ) (t : Table) (s : Schema) (has : HasTable received s) → table_named s (codes "received") ≡ Some at → slice_get s.tables at ≡ Some t → has.table ≡ t
the_table at t s has named listed =
    let here : table_named s has.table.name ≡ Some at = ap (table_named s) has.is_like.name ∙ named in
    let place : ◌≡◌ {A = Option ℕ} (Some has.place) (Some at) = sym has.stands.named ∙ here in
    let same : has.place ≡ at = cc in
    let both : ◌≡◌ {A = Option Table} (Some has.table) (Some t) = sym has.stands.listed ∙ ap (slice_get s.tables) same ∙ listed in
    cc

second_named : table_named narrower (codes "received") ≡ Some 1
unfolding same_name
second_named = refl

not_narrower : HasTable received narrower → ⊥
not_narrower has =
    let is : has.table ≡ without_rule = the_table 1 without_rule narrower has second_named refl in
    let fewer : 5 ≡ 6 = ap (λ (t : Table). length {A = Column} t.columns) (sym is) ∙ ap {B = ℕ} (length {A = Column}) has.is_like.columns in
    omega (arith, fewer)

third_named : table_named of_files (codes "received") ≡ Some 2
unfolding same_name
third_named = refl

led_to : IsApart of_files 4 → ⊥
unfolding same_name joined
led_to it = let wrong : true ≡ false = it.0 in absurd (cc)

not_led_to : HasTable received of_files → ⊥
not_led_to has =
    let is : has.table ≡ received = the_table 2 received of_files has third_named refl in
    led_to (subst (λ (t : Table). IsApart of_files t.tree) is has.apart)

others_still : HasTable version2 of_files
unfolding same_name joined
others_still = record { table = version2; place = 4; stands = record { named = refl; listed = refl; by_tree = refl; stored = refl }; is_like = likes_itself version2; apart = (refl, (refl, (refl, (refl, (refl, tt))))) }

pub stores_hold : WorkedStores
stores_hold = record {
  own = all_there;
  without_indexes = without_indexes;
  with_another = with_another;
  in_another_order = in_another_order;
  found_there = found_there;
  not_without_first = λ are. no_first are.firsts.table are.firsts.there are.firsts.name;
  not_with_a_column_less = not_narrower;
  not_where_a_key_leads_there = not_led_to;
  others_still = others_still;
}
