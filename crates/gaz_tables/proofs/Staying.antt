-- What stays where a table is written.
use Rattle.std.proofs.Common.{◌≡◌, ◌≢◌, ◌∙◌, inl, inr, bytes_eq, false, List, Option, Some, find, ◌==◌, sym, ap, subst}
use Rattle.std.proofs.lemmas.Bool.Decides.{eqb_tells}
use Rattle.std.proofs.lemmas.Slice.Eq.{bytes_eq-Decides}
use Rattle.sqlite_schema.specs.declared.schema.Schema.{Schema}
use Rattle.sqlite_schema.specs.declared.schema.Table.{Table}
use Rattle.sqlite_trees.specs.declared.store.Shape.TheVariants as shape
use Rattle.sqlite.specs.Effect.{Database}
use Rattle.sqlite.specs.Order.{Row}
use Rattle.sqlite.specs.View.{IsShaped}
use Rattle.gaz_tables.proofs.Standing as standing
use Rattle.gaz_tables.specs.Laws.{TablesStay}
use Rattle.gaz_tables.specs.Schema.{meta, received, version2}
use Rattle.gaz_tables.specs.Stores.{ChangesTable, HasTables}
use Rattle.gaz_tables.specs.Tables.{AreThere, HasTable, rows_of, tree_of}

same_some : (t u : Table) → ◌≡◌ {A = Option Table} (Some t) (Some u) → t ≡ u
same_some t u e = cc

-- tables of two names have two trees
pub two_trees : (a b : Table) (s : Schema) → HasTable a s → HasTable b s → a.name ≢ b.name → tree_of a s ≢ tree_of b s
two_trees a b s has also other same =
    let trees : has.table.tree ≡ also.table.tree = sym (standing.tree_is a s has) ∙ same ∙ standing.tree_is b s also in
    let first : find (λ t. t.tree == also.table.tree) s.tables ≡ Some has.table = subst (λ tree. find (λ t. t.tree == tree) s.tables ≡ Some has.table) trees has.stands.by_tree in
    let one : has.table ≡ also.table = same_some has.table also.table (sym first ∙ also.stands.by_tree) in
    other (sym has.is_like.name ∙ ap (λ (t : Table). t.name) one ∙ also.is_like.name)

-- two names that compute to others are others
pub other_name : (a b : Table) → bytes_eq a.name b.name ≡ false → a.name ≢ b.name
other_name a b apart same = let is = (bytes_eq-Decides a.name b.name).1 same in absurd (cc)

-- a schema that stays has the tables that it had
pub there_still : (s t : Schema) → t ≡ s → AreThere s → AreThere t
there_still s t same has = subst AreThere (sym same) has

module _ (table : Table) (Becomes : List Row → List Row → Type 0) (old new : Database) (there : HasTable table old.schema) (h : ChangesTable table Becomes old new) where
  -- the rows of another table stay
  pub rows_stay : (other : Table) → HasTable other old.schema → other.name ≢ table.name → rows_of new other ≡ rows_of old other
  rows_stay other has apart =
      ap (λ s. new.trees (tree_of other s)) h.schema_stays
      ∙ h.others (standing.table other old.schema has) (standing.listed other old.schema has) (two_trees other table old.schema has there apart)

  -- a table that had rowids has them still
  pub shaped_still : (other : Table) → HasTable other old.schema → IsShaped shape.Table (rows_of old other) → IsShaped shape.Table (rows_of new other)
  shaped_still other has good = elim (eqb_tells (tree_of other old.schema) (tree_of table old.schema)) [
    | inl same ↦
        let was = subst (λ k. IsShaped shape.Table (old.trees k)) same.1 good in
        let now : IsShaped shape.Table (new.trees (tree_of table old.schema)) = subst (λ s. IsShaped shape.Table (new.trees (tree_of table s))) h.schema_stays (h.shaped was) in
        let there = subst (λ k. IsShaped shape.Table (new.trees k)) (sym same.1) now in
        subst (λ s. IsShaped shape.Table (new.trees (tree_of other s))) (sym h.schema_stays) there
    | inr apart ↦
        let same = h.others (standing.table other old.schema has) (standing.listed other old.schema has) apart.1 in
        subst (λ s. IsShaped shape.Table (new.trees (tree_of other s))) (sym h.schema_stays) (subst (IsShaped shape.Table) (sym same) good)
  ]

  module _ (has : HasTables old) where
    pub tables_now : HasTables new
    tables_now = record {
      there = there_still old.schema new.schema h.schema_stays has.there;
      sound = h.sound;
      versions_shaped = shaped_still version2 has.there.versions has.versions_shaped;
      receiveds_shaped = shaped_still received has.there.receiveds has.receiveds_shaped;
      metas_shaped = shaped_still meta has.there.metas has.metas_shaped;
    }

    -- both, of a table whose name computes to another
    pub stays : HasTables new × ((other : Table) → HasTable other old.schema → bytes_eq other.name table.name ≡ false → rows_of new other ≡ rows_of old other)
    stays = (tables_now, λ other has apart. rows_stay other has (other_name other table apart))

pub tables_stay : TablesStay
tables_stay table old new has there h = (tables_now table _ old new there h has, rows_stay table _ old new there h)
