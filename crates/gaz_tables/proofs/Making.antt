-- What the texts that make the tables and indexes do, whatever is there.
use Rattle.std.proofs.Common.{◌≡◌, ◌∙◌, inl, inr, ℕ, List, [], ◌∷◌, false, Some, Ok, Err, Result, OnOk, arith, refl, sym, ap, subst}
use Rattle.sqlite_tied.specs.Compute.{everything}
use Rattle.sqlite_catalog.proofs.StepLemmas.{table_below}
use Rattle.sqlite_rules.specs.Lists.{Has}
use Rattle.sqlite_rules.proofs.ListLemmas.{has_either, has_left}
use Rattle.sqlite_schema.specs.declared.schema.Index.{Index}
use Rattle.sqlite_schema.specs.Names.{same_name}
use Rattle.sqlite.specs.Table.{Table}
use Rattle.sqlite.specs.Change.{created, indexed, next_tree}
use Rattle.sqlite.specs.Effect.{Database}
use Rattle.sqlite.specs.declared.error.Error.{Error}
use Rattle.sqlite.specs.Listing.{understood}
use Rattle.sqlite.specs.State.{State, ExecutesInside}
use Rattle.gaz_sql_facts.specs.Gains.{GainsTable, GainsIndex}
use Rattle.gaz_sql_facts.specs.Making.{IsFree, table_made}
use Rattle.gaz_sql_facts.proofs.Gains.{IsTableText, unplaced_table, unplaced_index, table_gained, index_gained}
use Rattle.gaz_sql_facts.proofs.Grown.{counts_still, gained}
use Rattle.gaz_sql_facts.proofs.MadeTexts.{IsIndexAlone, index_text, table_text}
use Rattle.gaz_tables.proofs.Standing as standing
use Rattle.gaz_tables.specs.Creating.{Gains, IsFresh, TakesIndex, TakesTable, index_put, no_schema}
use Rattle.gaz_tables.specs.Schema.{version, version_text, version_checks, received, received_text, meta, meta_text, by_blpu_text, by_street_text, by_blpu, by_street}
use Rattle.gaz_tables.specs.Schema.{version2, version2_text, version2_checks, by_blpu2_text, by_street2_text, by_blpu2, by_street2}

-- ---- the texts, over nothing and over their table alone

-- over nothing the text makes this table, under its name
pub record IsTableAlone (text : List ℕ) (table : Table) : Type 0 where
  pub made : table_made text ≡ Some table.name
  pub text_is : IsTableText no_schema text (unplaced_table table)

makes_version : IsTableAlone version_text version
unfolding understood everything version_checks
makes_version = record { made = refl; text_is = record { is = refl; text = refl; plain = (refl, refl); defined = refl } }

makes_received : IsTableAlone received_text received
unfolding understood everything
makes_received = record { made = refl; text_is = record { is = refl; text = refl; plain = (refl, refl); defined = refl } }

makes_meta : IsTableAlone meta_text meta
unfolding understood everything
makes_meta = record { made = refl; text_is = record { is = refl; text = refl; plain = (refl, refl); defined = refl } }

makes_version2 : IsTableAlone version2_text version2
unfolding understood everything version2_checks
makes_version2 = record { made = refl; text_is = record { is = refl; text = refl; plain = (refl, refl); defined = refl } }

makes_by_blpu : IsIndexAlone version by_blpu_text by_blpu.name (unplaced_index by_blpu)
unfolding understood everything same_name
makes_by_blpu = record { made = refl; free = record { no_table = refl; no_index = refl; no_view = refl }; read = _; is = refl; command_is = refl; no_rows = refl; no_time = refl; whole = refl; defined = refl }

makes_by_street : IsIndexAlone version by_street_text by_street.name (unplaced_index by_street)
unfolding understood everything same_name
makes_by_street = record { made = refl; free = record { no_table = refl; no_index = refl; no_view = refl }; read = _; is = refl; command_is = refl; no_rows = refl; no_time = refl; whole = refl; defined = refl }

makes_by_blpu2 : IsIndexAlone version2 by_blpu2_text by_blpu2.name (unplaced_index by_blpu2)
unfolding understood everything same_name
makes_by_blpu2 = record { made = refl; free = record { no_table = refl; no_index = refl; no_view = refl }; read = _; is = refl; command_is = refl; no_rows = refl; no_time = refl; whole = refl; defined = refl }

makes_by_street2 : IsIndexAlone version2 by_street2_text by_street2.name (unplaced_index by_street2)
unfolding understood everything same_name
makes_by_street2 = record { made = refl; free = record { no_table = refl; no_index = refl; no_view = refl }; read = _; is = refl; command_is = refl; no_rows = refl; no_time = refl; whole = refl; defined = refl }

-- ---- what is gained

module _ (old new : Database) (u : Table) (it : GainsTable (unplaced_table u) old new) where
  is_fresh : (t : Table) → t ≡ gained old.schema u → IsFresh old new t
  is_fresh t is = record {
    empty = ap (λ (t : Table). new.trees t.tree) is ∙ it.empty;
    apart = λ v there same. let low = table_below old.schema v there in let tree : t.tree ≡ next_tree old.schema = ap (λ (t : Table). t.tree) is in omega (arith, low, same, tree);
  }

  gains_table : Gains (created old.schema u) old new
  gains_table = record {
    schema_is = it.schema_is;
    sound = it.sound;
    stay = λ t there. (subst (λ s. Has s.tables t) (sym it.schema_is) (has_left old.schema.tables (gained old.schema u ∷ []) t there), it.others t there);
    fresh = λ t there. elim (has_either old.schema.tables (gained old.schema u ∷ []) t (subst (λ s. Has s.tables t) it.schema_is there)) [
      | inl was ↦ inl was
      | inr last ↦ elim last [ inl is ↦ inr (is_fresh t is) | inr never ↦ absurd never ]
    ];
  }

module _ (old new : Database) (t : Table) (i : Index) (it : GainsIndex t i old new) where
  gains_index : Gains (indexed old.schema t i) old new
  gains_index = record {
    schema_is = it.schema_is;
    sound = it.sound;
    stay = λ u there. (subst (λ s. Has s.tables u) (sym it.schema_is) there, it.others u there);
    fresh = λ u there. inl (subst (λ s. Has s.tables u) it.schema_is there);
  }

-- ---- calls of the texts

free_nowhere : (name : List ℕ) → IsFree no_schema name
free_nowhere name = record { no_table = refl; no_index = refl; no_view = refl }

module _ (old new : State) (text : List ℕ) where
  pub table_gains : (u : Table) → IsTableAlone text u → u.is_counted ≡ false → TakesTable u old.now.schema → (r : Result ℕ Error) → ExecutesInside 0 text [] old new r → OnOk r (Gains (created old.now.schema u) old.now new.now)
  table_gains u it uncounted room (Err e) h = tt
  table_gains u it uncounted room (Ok count) h =
      let there = table_text text u.name it.made no_schema old.now.schema (free_nowhere u.name) room.free.0 (unplaced_table u) it.text_is in
      let gains = table_gained old.now.schema text old new refl (unplaced_table u) there (counts_still old.now.schema (unplaced_table u) uncounted room.counted) count h.0 in
      gains_table old.now new.now u gains.0

  pub index_gains : (like : Table) (i : Index) → IsIndexAlone like text i.name (unplaced_index i) → TakesIndex like i old.now.schema → (r : Result ℕ Error) → ExecutesInside 0 text [] old new r → OnOk r (Gains (index_put like i old.now.schema) old.now new.now)
  index_gains like i it takes (Err e) h = tt
  index_gains like i it takes (Ok count) h =
      let has = takes.there in
      let table = standing.table like old.now.schema has in
      let stands = standing.stands like old.now.schema has in
      let there = index_text like text i.name (unplaced_index i) it old.now.schema has.place table (standing.reads like old.now.schema has) stands takes.free in
      gains_index old.now new.now table _ (index_gained old.now.schema text old new refl has.place table _ stands.listed there count h.0).0

module _ (old new : State) (r : Result ℕ Error) where
  pub version_made : TakesTable version old.now.schema → ExecutesInside 0 version_text [] old new r → OnOk r (Gains (created old.now.schema version) old.now new.now)
  version_made takes = table_gains old new version_text version makes_version refl takes r

  pub received_made : TakesTable received old.now.schema → ExecutesInside 0 received_text [] old new r → OnOk r (Gains (created old.now.schema received) old.now new.now)
  received_made takes = table_gains old new received_text received makes_received refl takes r

  pub meta_made : TakesTable meta old.now.schema → ExecutesInside 0 meta_text [] old new r → OnOk r (Gains (created old.now.schema meta) old.now new.now)
  meta_made takes = table_gains old new meta_text meta makes_meta refl takes r

  pub version2_made : TakesTable version2 old.now.schema → ExecutesInside 0 version2_text [] old new r → OnOk r (Gains (created old.now.schema version2) old.now new.now)
  version2_made takes = table_gains old new version2_text version2 makes_version2 refl takes r

  pub by_blpu_made : TakesIndex version by_blpu old.now.schema → ExecutesInside 0 by_blpu_text [] old new r → OnOk r (Gains (index_put version by_blpu old.now.schema) old.now new.now)
  by_blpu_made takes = index_gains old new by_blpu_text version by_blpu makes_by_blpu takes r

  pub by_street_made : TakesIndex version by_street old.now.schema → ExecutesInside 0 by_street_text [] old new r → OnOk r (Gains (index_put version by_street old.now.schema) old.now new.now)
  by_street_made takes = index_gains old new by_street_text version by_street makes_by_street takes r

  pub by_blpu2_made : TakesIndex version2 by_blpu2 old.now.schema → ExecutesInside 0 by_blpu2_text [] old new r → OnOk r (Gains (index_put version2 by_blpu2 old.now.schema) old.now new.now)
  by_blpu2_made takes = index_gains old new by_blpu2_text version2 by_blpu2 makes_by_blpu2 takes r

  pub by_street2_made : TakesIndex version2 by_street2 old.now.schema → ExecutesInside 0 by_street2_text [] old new r → OnOk r (Gains (index_put version2 by_street2 old.now.schema) old.now new.now)
  by_street2_made takes = index_gains old new by_street2_text version2 by_street2 makes_by_street2 takes r
