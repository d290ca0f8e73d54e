-- What stands in a schema, or has no name there, once the schema gains a table or an index.
use Rattle.std.proofs.Common.{◌≡◌, ◌∙◌, ℕ, ◌+◌, ◌^◌, ◌<◌, nat_le, Bool, true, false, cond, ◌==◌, ◌&&◌, ◌||◌, not, codes, List, [], ◌∷◌, length, find, slice_get, Option, None, Some, is_some, option_map, option_and_then, unwrap_or, refl, ap, arith}
use Rattle.std.specs.List.{AllByRecursion, list_all, list_any}
use Rattle.std.specs.Option.{option_or}
use Rattle.std.proofs.lemmas.Bool.{and_parts, eq-eqb, ne_eqb, not-false, not-true, or_parts}
use Rattle.std.proofs.lemmas.List.Folds.{find-append, list_any-append}
use Rattle.sqlite_catalog.proofs.StepLemmas.{table_below}
use Rattle.sqlite_catalog.specs.Change.{automatics, created, indexed, next_tree}
use Rattle.sqlite_rules.specs.Lists.{Has}
use Rattle.sqlite_rules.proofs.ListLemmas.{all_from, all_has, has_found}
use Rattle.sqlite_schema.specs.declared.schema.Index.{Index}
use Rattle.sqlite_schema.specs.declared.schema.Reference.{Reference}
use Rattle.sqlite_schema.specs.declared.schema.Schema.{Schema}
use Rattle.sqlite_schema.specs.declared.schema.Table.{Table}
use Rattle.sqlite_schema.specs.Names.{same_name, table_named}
use Rattle.sqlite_schema.specs.Rules.{ParentKey, declared_order, key_in, key_places}
use Rattle.sqlite_value.specs.declared.keys.Order.{Order}
use Rattle.sqlite.specs.Does.{lacks_sequence}
use Rattle.sqlite.specs.Rows.{sequence}
use Rattle.gaz_sql_facts.proofs.Ends.{all_last, found_last, found_still, got_last, got_still, none_still, placed_behind, placed_still}
use Rattle.gaz_sql_facts.proofs.Sound.{itself}
use Rattle.gaz_sql_facts.specs.Making.{IsFree, IsUnreferred}
use Rattle.gaz_sql_facts.specs.Standing.{IsApart, StandsAt, leads_to}

module _ (s : Schema) (u : Table) where
  -- the table that is gained
  abbrev pub gained : Table
  gained = record u { tree = next_tree s }

  below : (t : Table) → Has s.tables t → (t.tree == next_tree s) ≡ false
  below t there = let low = table_below s t there in ne_eqb t.tree (next_tree s) (λ same. omega (arith, low, same))

  pub stands_still : (at : ℕ) (t : Table) → StandsAt s at t → StandsAt (created s u) at t
  stands_still at t h = record {
    named = placed_still (λ x. same_name x.name t.name) 0 at s.tables (gained ∷ []) h.named;
    listed = got_still s.tables (gained ∷ []) at t h.listed;
    by_tree = found_still (λ x. x.tree == t.tree) s.tables (gained ∷ []) t h.by_tree;
    stored = h.stored;
  }

  pub stands_gained : IsFree s u.name → nat_le (2 ^ 31) (next_tree s) ≡ false → StandsAt (created s u) (length s.tables) gained
  stands_gained free low = let last : 0 + length s.tables ≡ length s.tables = omega arith in record {
    named = placed_behind (λ x. same_name x.name u.name) 0 s.tables (gained ∷ []) free.no_table ∙ rw (itself u.name) (ap Some last);
    listed = got_last s.tables gained;
    by_tree = found_last (λ x. x.tree == next_tree s) s.tables gained below (eq-eqb (next_tree s) (next_tree s) refl);
    stored = low;
  }

  -- ---- names

  free_still : (name : List ℕ) → IsFree s name → same_name u.name name ≡ false → list_any (λ i. same_name i.name name) (automatics gained 0 (next_tree s + 1) u.uniques) ≡ false → IsFree (created s u) name
  free_still name free other others = record {
    no_table = none_still (λ x. same_name x.name name) 0 s.tables (gained ∷ []) free.no_table (rw other refl);
    no_index = none_still (λ i. same_name i.name name) 0 s.indexes (automatics gained 0 (next_tree s + 1) u.uniques) free.no_index others;
    no_view = free.no_view;
  }

  -- neither the table nor the indexes that its keys get take one of the names
  abbrev pub spares : List (List ℕ) → Bool
  spares names = list_all (λ name. not (same_name u.name name || list_any (λ i. same_name i.name name) (automatics gained 0 (next_tree s + 1) u.uniques))) names

  pub all_free_still : (names : List (List ℕ)) → AllByRecursion (IsFree s) names → spares names ≡ true → AllByRecursion (IsFree (created s u)) names
  all_free_still [] free h = tt
  all_free_still (name ∷ names) free h =
      let parts = and_parts _ _ h in
      let clear = or_parts _ _ (not-true _ parts.0) in
      (free_still name free.0 clear.0 clear.1, all_free_still names free.1 parts.1)

  -- ---- foreign keys, where the table that is gained has none

  module _ (none : u.references ≡ []) where
    pub unreferred_still : (names : List (List ℕ)) → AllByRecursion (IsUnreferred s) names → AllByRecursion (IsUnreferred (created s u)) names
    unreferred_still [] h = tt
    unreferred_still (name ∷ names) h =
        (all_last (λ t. list_any (λ ref. same_name name ref.parent) t.references ≡ false) s.tables gained h.0 (ap (list_any (λ ref. same_name name ref.parent)) none), unreferred_still names h.1)

    abbrev at_parent : Reference → Table → Option ParentKey
    at_parent ref t = option_and_then (key_in t) (key_places t ref.parent_columns)

    abbrev leads_by : ℕ → Reference → Option Table → Bool
    leads_by tree ref found = unwrap_or (option_map (λ key. key.0 == tree) (option_and_then (at_parent ref) found)) false

    by_order : (tree : ℕ) (t : Table) (places : List ℕ) (o : Option Order) → (t.tree == tree) ≡ false → unwrap_or (option_map (λ (key : ParentKey). key.0 == tree) (option_map (λ o. (t.tree, places, o)) o)) false ≡ false
    by_order tree t places None other = refl
    by_order tree t places (Some o) other = other

    by_places : (tree : ℕ) (t : Table) (o : Option (List ℕ)) → (t.tree == tree) ≡ false → unwrap_or (option_map (λ (key : ParentKey). key.0 == tree) (option_and_then (key_in t) o)) false ≡ false
    by_places tree t None other = refl
    by_places tree t (Some places) other = by_order tree t places (declared_order t places) other

    other_tree : (tree : ℕ) (ref : Reference) (t : Table) → (t.tree == tree) ≡ false → leads_by tree ref (Some t) ≡ false
    other_tree tree ref t other = by_places tree t (key_places t ref.parent_columns) other

    abbrev is_parent : Reference → Table → Bool
    is_parent ref t = same_name t.name ref.parent

    -- a foreign key that leads to no older table may lead to the new one, and to no other
    by_last : (tree : ℕ) (ref : Reference) (b : Bool) → (next_tree s == tree) ≡ false → leads_by tree ref (cond b (Some gained) None) ≡ false
    by_last tree ref true other = other_tree tree ref gained other
    by_last tree ref false other = refl

    by_found : (tree : ℕ) (ref : Reference) (found : Option Table) → (next_tree s == tree) ≡ false → leads_by tree ref found ≡ false → leads_by tree ref (option_or found (find (is_parent ref) (gained ∷ []))) ≡ false
    by_found tree ref None other h = by_last tree ref (is_parent ref gained) other
    by_found tree ref (Some t) other h = h

    leads_still : (tree : ℕ) (ref : Reference) → (next_tree s == tree) ≡ false → leads_to s tree ref ≡ false → leads_to (created s u) tree ref ≡ false
    leads_still tree ref other h = ap (leads_by tree ref) (find-append (is_parent ref) s.tables (gained ∷ [])) ∙ by_found tree ref (find (is_parent ref) s.tables) other h

    any_still : (tree : ℕ) (refs : List Reference) → (next_tree s == tree) ≡ false → list_any (leads_to s tree) refs ≡ false → list_any (leads_to (created s u) tree) refs ≡ false
    any_still tree [] other h = refl
    any_still tree (ref ∷ refs) other h = let parts = or_parts (leads_to s tree ref) (list_any (leads_to s tree) refs) h in rw (leads_still tree ref other parts.0) (any_still tree refs other parts.1)

    pub apart_still : (tree : ℕ) → tree < next_tree s → IsApart s tree → IsApart (created s u) tree
    apart_still tree low apart =
        let other : (next_tree s == tree) ≡ false = ne_eqb (next_tree s) tree (λ same. omega (arith, low, same)) in
        all_last (λ t. list_any (leads_to (created s u) tree) t.references ≡ false) s.tables gained
        (all_from (λ t. list_any (leads_to (created s u) tree) t.references ≡ false) s.tables (λ t there. any_still tree t.references other (all_has (λ (t : Table). list_any (leads_to s tree) t.references ≡ false) s.tables t apart there)))
        (ap (list_any (leads_to (created s u) tree)) none)

    -- where no foreign key names it, none leads to the new one
    by_old : (ref : Reference) (found : Option Table) → find (is_parent ref) s.tables ≡ found → same_name u.name ref.parent ≡ false → leads_by (next_tree s) ref (option_or found (find (is_parent ref) (gained ∷ []))) ≡ false
    by_old ref None is other = rw other refl
    by_old ref (Some t) is other = other_tree (next_tree s) ref t (below t (has_found (is_parent ref) s.tables t is).0)

    leads_elsewhere : (ref : Reference) → same_name u.name ref.parent ≡ false → leads_to (created s u) (next_tree s) ref ≡ false
    leads_elsewhere ref other = ap (leads_by (next_tree s) ref) (find-append (is_parent ref) s.tables (gained ∷ [])) ∙ by_old ref (find (is_parent ref) s.tables) refl other

    none_leads : (refs : List Reference) → list_any (λ ref. same_name u.name ref.parent) refs ≡ false → list_any (leads_to (created s u) (next_tree s)) refs ≡ false
    none_leads [] h = refl
    none_leads (ref ∷ refs) h = let parts = or_parts (same_name u.name ref.parent) (list_any (λ ref. same_name u.name ref.parent) refs) h in rw (leads_elsewhere ref parts.0) (none_leads refs parts.1)

    pub apart_gained : IsUnreferred s u.name → IsApart (created s u) (next_tree s)
    apart_gained unnamed =
        all_last (λ t. list_any (leads_to (created s u) (next_tree s)) t.references ≡ false) s.tables gained
        (all_from (λ t. list_any (leads_to (created s u) (next_tree s)) t.references ≡ false) s.tables (λ t there. none_leads t.references (all_has (λ (t : Table). list_any (λ ref. same_name u.name ref.parent) t.references ≡ false) s.tables t unnamed there)))
        (ap (list_any (leads_to (created s u) (next_tree s))) none)

  -- ---- rowids that are counted

  there_still : (o : Option ℕ) (x : Option Table) → table_named s (codes "sqlite_sequence") ≡ o → option_and_then (slice_get s.tables) o ≡ x → is_some x ≡ true → is_some (sequence (created s u)) ≡ true
  there_still None None named got h = absurd (cc)
  there_still None (Some t) named got h = absurd (cc)
  there_still (Some at) None named got h = absurd (cc)
  there_still (Some at) (Some t) named got h =
      rw (placed_still (λ x. same_name x.name (codes "sqlite_sequence")) 0 at s.tables (gained ∷ []) named, got_still s.tables (gained ∷ []) at t got) refl

  by_counted : (b c : Bool) → u.is_counted ≡ false → (b && not (is_some (sequence s))) ≡ false → (is_some (sequence s) ≡ true → c ≡ true) → ((b || (u.is_counted || false)) && not c) ≡ false
  by_counted true c uncounted h so = let there : is_some (sequence s) ≡ true = not-false _ h in rw (so there) refl
  by_counted false c uncounted h so = rw uncounted refl

  pub counts_still : u.is_counted ≡ false → lacks_sequence s ≡ false → lacks_sequence (created s u) ≡ false
  counts_still uncounted h =
      ap (λ b. b && not (is_some (sequence (created s u)))) (list_any-append (λ t. t.is_counted) s.tables (gained ∷ []))
      ∙ by_counted (list_any (λ t. t.is_counted) s.tables) (is_some (sequence (created s u))) uncounted h (there_still (table_named s (codes "sqlite_sequence")) (sequence s) refl refl)

-- an index takes its own name alone
module _ (s : Schema) (t : Table) (i : Index) where
  free_beside : (name : List ℕ) → IsFree s name → same_name i.name name ≡ false → IsFree (indexed s t i) name
  free_beside name free other = record {
    no_table = free.no_table;
    no_index = none_still (λ x. same_name x.name name) 0 s.indexes _ free.no_index (rw other refl);
    no_view = free.no_view;
  }

  pub all_free_beside : (names : List (List ℕ)) → AllByRecursion (IsFree s) names → list_all (λ name. not (same_name i.name name)) names ≡ true → AllByRecursion (IsFree (indexed s t i)) names
  all_free_beside [] free h = tt
  all_free_beside (name ∷ names) free h =
      let parts = and_parts _ _ h in
      (free_beside name free.0 (not-true _ parts.0), all_free_beside names free.1 parts.1)
