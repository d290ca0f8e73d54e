-- What a column's name stands for, where FROM has one table.
use Rattle.std.proofs.Common.{◌≡◌, ℕ, zero, suc, ◌^◌, nat_lt, Bool, true, false, cond, ◌&&◌, ◌==◌, if◌then◌else◌, codes, List, [], ◌∷◌, Option, None, Some, option_map, option_and_then, unwrap_or, slice_get, Ok, refl, sym, ap, ◌∙◌}
use Rattle.std.proofs.lemmas.Bool.{leb-false, lt-ltb}
use Rattle.sqlite_sql.specs.Term.{Term, col}
use Rattle.sqlite_schema.specs.declared.schema.Schema.{Schema}
use Rattle.sqlite_schema.specs.declared.schema.Table.{Table}
use Rattle.sqlite_schema.specs.Names.{column_named, place_of}
use Rattle.sqlite_resolve.specs.declared.compare.Affinity.TheVariants as affinity
use Rattle.sqlite_resolve.specs.declared.error.CompileError.TheVariants.{NoSuchColumn}
use Rattle.sqlite_resolve.specs.declared.scope.Bound.{Bound}
use Rattle.sqlite_resolve.specs.declared.scope.Found.{Found}
use Rattle.sqlite_resolve.specs.declared.scope.Found.TheVariants.{Column, Rowid}
use Rattle.sqlite_resolve.specs.declared.scope.Output.{Output}
use Rattle.sqlite_resolve.specs.declared.state.Carried.{Carried}
use Rattle.sqlite_resolve.specs.declared.state.State.{State}
use Rattle.sqlite_resolve.specs.Body.{found_name, declared as named_in}
use Rattle.sqlite_resolve.specs.Compare.{of_column, at_place, or_else as or_outer}
use Rattle.sqlite_resolve.specs.Lowering.{Checked, and_then, or_else, Lowering, ◌>>=◌, ◌>>◌, lift, pure, carry, nothing}
use Rattle.sqlite_resolve.specs.Scope.{Name, Context, is_rowid, column_in, is_among, rowid_in, hit, at_most_one, only, in_level, find, declared, column_at, term_of, column}
use Rattle.sqlite_resolve.specs.Select.{outermost}
use Rattle.gaz_sql_facts.specs.Simple.{known_in, none_known}
use Rattle.gaz_sql_facts.specs.Standing.{StandsAt}

abbrev pub bound : ℕ → Name → Bound
bound at name = record { name = name; table = at; slot = 1; shared = [] }

-- the context of an expression over that table
abbrev pub over : Schema → ℕ → Name → List Output → Bool → Context
over schema at name shown may_aggregate = record {
  schema = schema;
  levels = record { tables = bound at name ∷ []; shown = shown } ∷ [];
  may_aggregate = may_aggregate;
  may_alias = true;
}

-- the contexts say the same of each name that is known, and of each column
pub record Same (known : Name → Bool) (c d : Context) : Type 0 where
  pub columns : (n : Name) → known n ≡ true → (st : State) → column c None n st ≡ column d None n st
  pub places : (slot k : ℕ) → of_column c slot k ≡ of_column d slot k
  pub headings : (n text : Name) → known n ≡ true → found_name c.schema text (find c None n) ≡ found_name d.schema text (find d None n)
  pub grouping : c.may_aggregate ≡ d.may_aggregate

settled : (o : Option Found) → and_then (at_most_one None o) (λ f. Ok f) ≡ Ok o
settled None = refl
settled (Some x) = refl

-- a column at its place, or else the rowid
abbrev found_at : ℕ → Option ℕ → Found
found_at at (Some k) = Column 1 at k
found_at at None = Rowid 1 at

abbrev pub column_of : Table → ℕ → Checked (Term × Carried)
column_of t k = or_else (option_map (λ c. (col 1 (place_of t k), declared t k c)) (slice_get t.columns k)) NoSuchColumn

abbrev pub term_at : Table → Option ℕ → Lowering Term
term_at t (Some k) = lift (column_of t k) >>= (λ found. carry found.1 >> pure found.0)
term_at t None = carry nothing >> pure (col 1 0)

abbrev called_at : Table → Name → Option ℕ → Name
called_at t text (Some k) = unwrap_or (option_map (λ c. c.name) (slice_get t.columns k)) text
called_at t text None = unwrap_or (option_and_then (λ k. option_map (λ c. c.name) (slice_get t.columns k)) t.key) (codes "rowid")

module _ (schema : Schema) (at : ℕ) (table : Table) (stands : StandsAt schema at table) (name : Name) (shown : List Output) (may : Bool) where
  abbrev b : Bound
  b = bound at name

  abbrev cx : Context
  cx = over schema at name shown may

  column_in_is : (n : Name) → column_in schema n b ≡ option_map (Column 1 at) (column_named table n)
  unfolding column_in
  column_in_is n = rw stands.listed

  low : nat_lt table.tree (2 ^ 31) ≡ true
  low = lt-ltb table.tree (2 ^ 31) (leb-false (2 ^ 31) table.tree stands.stored)

  rowid_in_is : rowid_in schema b ≡ Some (Rowid 1 at)
  unfolding rowid_in
  rowid_in_is = rw (stands.listed, low)

  hit_is : (n : Name) → hit schema None n false b ≡ option_map (Column 1 at) (column_named table n)
  unfolding hit is_among
  hit_is n = column_in_is n

  hit_rowid : (n : Name) → hit schema None n true b ≡ Some (Rowid 1 at)
  unfolding hit is_among
  hit_rowid n = rowid_in_is

  only_is : (n : Name) → only schema None n false (b ∷ []) ≡ Ok (option_map (Column 1 at) (column_named table n))
  unfolding only
  only_is n = ap (λ (o : Option Found). and_then (at_most_one None o) (λ f. Ok f)) (hit_is n) ∙ settled (option_map (Column 1 at) (column_named table n))

  only_rowid : (n : Name) → only schema None n true (b ∷ []) ≡ Ok (Some (Rowid 1 at))
  unfolding only
  only_rowid n = ap (λ (o : Option Found). and_then (at_most_one None o) (λ f. Ok f)) (hit_rowid n)

  -- what a name that is known is found to be
  find_is : (n : Name) → known_in table n ≡ true → (o : Option ℕ) → column_named table n ≡ o → find cx None n ≡ Ok (found_at at o)
  unfolding find in_level
  find_is n h (Some k) is = let here : only schema None n false (b ∷ []) ≡ Ok (Some (Column 1 at k)) = rw is at (only_is n) in rw here
  find_is n h None is =
      let none : only schema None n false (b ∷ []) ≡ Ok None = rw is at (only_is n) in
      let named : is_rowid n ≡ true = rw is at h in
      rw (none, named, only_rowid n)

  column_at_is : (k : ℕ) → column_at schema 1 at k ≡ column_of table k
  unfolding column_at
  column_at_is k = rw stands.listed

  term_is : (n : Name) (o : Option ℕ) → find cx None n ≡ Ok (found_at at o) → (st : State) → column cx None n st ≡ term_at table o st
  unfolding column term_of
  term_is n (Some k) is st = rw (is, column_at_is k)
  term_is n None is st = rw is

  pub column_is : (n : Name) → known_in table n ≡ true → (st : State) → column cx None n st ≡ term_at table (column_named table n) st
  column_is n h st = term_is n (column_named table n) (find_is n h (column_named table n) refl) st

  called_is : (n text : Name) (o : Option ℕ) → find cx None n ≡ Ok (found_at at o) → found_name schema text (find cx None n) ≡ called_at table text o
  unfolding named_in
  called_is n text (Some k) is = rw (is, stands.listed)
  called_is n text None is = rw (is, stands.listed)

  heading_is : (n text : Name) → known_in table n ≡ true → found_name schema text (find cx None n) ≡ called_at table text (column_named table n)
  heading_is n text h = called_is n text (column_named table n) (find_is n h (column_named table n) refl)

-- the same table but for what no name asks
abbrev pub as_read : Table → Table → Table
as_read like table = record table { name = like.name; columns = like.columns; key = like.key; computed = like.computed; stamps = like.stamps }

module _ (s s' : Schema) (at at' : ℕ) (like table : Table) (stands : StandsAt s at (as_read like table)) (stands' : StandsAt s' at' like) (name : Name) (shown : List Output) (may : Bool) where
  abbrev c : Context
  c = over s at name shown may

  abbrev d : Context
  d = over s' at' name shown may

  at_place_same : (k : ℕ) → at_place s at k ≡ at_place s' at' k
  at_place_same zero = refl
  at_place_same (suc k) = rw (stands.listed, stands'.listed)

  places_same : (slot k : ℕ) → of_column c slot k ≡ of_column d slot k
  unfolding of_column
  places_same slot k =
      elim (1 == slot) as (λ (q : Bool).
      (if slot == 0 && k == 0 then affinity.None else unwrap_or (option_map (λ t. at_place s t k) (or_outer (option_map (λ (x : Bound). x.table) (cond q (Some (bound at name)) None)) None)) affinity.None)
      ≡ (if slot == 0 && k == 0 then affinity.None else unwrap_or (option_map (λ t. at_place s' t k) (or_outer (option_map (λ (x : Bound). x.table) (cond q (Some (bound at' name)) None)) None)) affinity.None))
      [ true ↦ λ i. if slot == 0 && k == 0 then affinity.None else at_place_same k i | false ↦ refl ]

  pub same_over : Same (known_in like) c d
  same_over = record {
    columns = λ n h st. column_is s at (as_read like table) stands name shown may n h st ∙ sym (column_is s' at' like stands' name shown may n h st);
    places = places_same;
    headings = λ n text h. heading_is s at (as_read like table) stands name shown may n text h ∙ sym (heading_is s' at' like stands' name shown may n text h);
    grouping = refl;
  }

-- outside of a table no name is known
pub same_outside : (s s' : Schema) → Same none_known (outermost s) (outermost s')
unfolding of_column
same_outside s s' = record { columns = λ n h st. absurd (cc); places = λ slot k. refl; headings = λ n text h. absurd (cc); grouping = refl }
