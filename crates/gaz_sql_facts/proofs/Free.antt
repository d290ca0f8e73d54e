-- Where no foreign key leads to a table, a write of it sets off no action.
use Rattle.std.proofs.Common.{◌≡◌, ℕ, Bool, true, false, ◌&&◌, ◌==◌, if◌then◌else◌, List, [], ◌∷◌, length, Option, None, Some, option_map, unwrap_or, filter_map, flat_map, refl}
use Rattle.std.specs.List.{AllByRecursion, list_any}
use Rattle.std.proofs.lemmas.Bool.{or_parts}
use Rattle.sqlite_value.specs.Order.{Row}
use Rattle.sqlite_schema.specs.declared.schema.Keys.{Keys}
use Rattle.sqlite_schema.specs.declared.schema.Reference.{Reference}
use Rattle.sqlite_schema.specs.declared.schema.Schema.{Schema}
use Rattle.sqlite_schema.specs.declared.schema.Table.{Table}
use Rattle.sqlite_schema.specs.Rules.{ParentKey, parent_key}
use Rattle.sqlite_rules.specs.declared.action.Deed.{Deed}
use Rattle.sqlite_rules.specs.Action.{Work, work_by, work_for, works, deed_for, pairs}
use Rattle.gaz_sql_facts.specs.Standing.{leads_to, IsApart}

module _ (schema : Schema) (keys : Keys) (tree : ℕ) (olds news : List Row) where
  by_key : (child : Table) (ref : Reference) (deed : Option Deed) (key : Option ParentKey) → unwrap_or (option_map (λ k. k.0 == tree) key) false ≡ false → work_by 0 tree (pairs olds news) child ref deed key ≡ None
  by_key child ref None key h = refl
  by_key child ref (Some deed) None h = refl
  by_key child ref (Some deed) (Some key) h = rw h

  by_references : (child : Table) (refs : List Reference) → list_any (leads_to schema tree) refs ≡ false → filter_map (work_for schema keys 0 tree olds news child) refs ≡ []
  by_references child [] h = refl
  by_references child (ref ∷ more) h =
      let p = or_parts _ _ h in
      let none : work_for schema keys 0 tree olds news child ref ≡ None = by_key child ref (deed_for keys (length news == 0) ref) (parent_key schema.tables ref) p.0 in
      rw none (by_references child more p.1)

  by_tables : (tables : List Table) → AllByRecursion (λ t. list_any (leads_to schema tree) t.references ≡ false) tables
      → flat_map (λ child. filter_map (work_for schema keys 0 tree olds news child) child.references) tables ≡ []
  by_tables [] h = refl
  by_tables (t ∷ tables) h = rw (by_references t t.references h.0) (by_tables tables h.1)

  pub free : IsApart schema tree → works schema keys 0 tree olds news ≡ []
  free apart = by_tables schema.tables apart

-- a row that comes sets off no action, whatever leads to the table
by_flag : (q : Bool) (w : Work) → (if q && false then Some w else None) ≡ None
by_flag true w = refl
by_flag false w = refl

by_none : (tree : ℕ) (child : Table) (ref : Reference) (deed : Option Deed) (key : Option ParentKey) → work_by 0 tree [] child ref deed key ≡ None
by_none tree child ref None key = refl
by_none tree child ref (Some deed) None = refl
by_none tree child ref (Some deed) (Some key) = by_flag (key.0 == tree) _

none_of : (schema : Schema) (keys : Keys) (tree : ℕ) (news : List Row) (child : Table) (refs : List Reference) → filter_map (work_for schema keys 0 tree [] news child) refs ≡ []
none_of schema keys tree news child [] = refl
none_of schema keys tree news child (ref ∷ more) =
    let none : work_for schema keys 0 tree [] news child ref ≡ None = by_none tree child ref (deed_for keys (length news == 0) ref) (parent_key schema.tables ref) in
    rw none (none_of schema keys tree news child more)

no_works : (schema : Schema) (keys : Keys) (tree : ℕ) (news : List Row) (tables : List Table) → flat_map (λ child. filter_map (work_for schema keys 0 tree [] news child) child.references) tables ≡ []
no_works schema keys tree news [] = refl
no_works schema keys tree news (t ∷ tables) = rw (none_of schema keys tree news t t.references) (no_works schema keys tree news tables)

pub free_insert : (schema : Schema) (keys : Keys) (tree : ℕ) (news : List Row) → works schema keys 0 tree [] news ≡ []
free_insert schema keys tree news = no_works schema keys tree news schema.tables
