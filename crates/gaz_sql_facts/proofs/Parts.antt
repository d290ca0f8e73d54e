-- What the tests of a simple statement say of its parts.
use Rattle.std.proofs.Common.{◌≡◌, true, List, [], ◌∷◌, Option, None, Some, is_none, refl, ap}
use Rattle.std.proofs.lemmas.Bool.{and_parts}
use Rattle.std.proofs.lemmas.Slice.Eq.{bytes_eq-Decides}
use Rattle.sqlite_ast.specs.declared.Core.{out-Core}
use Rattle.sqlite_ast.specs.declared.Origin.{Origin}
use Rattle.sqlite_ast.specs.declared.Origin.TheVariants as origin
use Rattle.sqlite_ast.specs.declared.Select.{Select, out-Select}
use Rattle.sqlite_ast.specs.declared.Source.{Source}
use Rattle.sqlite_schema.specs.declared.schema.Table.{Table}
use Rattle.sqlite_resolve.specs.Scope.{Name}
use Rattle.gaz_sql_facts.specs.Simple.{is_empty, names_table, is_bare_source, is_bare_from, is_simple_select, is_simple_or_none, are_simple_shown, are_simple_sorts, known_in, none_known}
use Rattle.gaz_sql_facts.proofs.Queries.{IsOver}
use Rattle.gaz_sql_facts.proofs.Readings.{IsAlone}
use Rattle.gaz_sql_facts.proofs.Typed.{negated}

pub empty_is : {A : Type 0} (xs : List A) → is_empty xs ≡ true → xs ≡ []
empty_is [] h = refl
empty_is (x ∷ xs) h = absurd (cc)

none_is : {A : Type 0} (o : Option A) → is_none o ≡ true → o ≡ None
none_is None h = refl
none_is (Some a) h = absurd (cc)

named_by : (name : Name) (o : Origin Select) → names_table name o ≡ true → o ≡ origin.Table name
named_by name (origin.Table table) h = ap origin.Table ((bytes_eq-Decides table name).0 h)
named_by name (origin.Query q) h = absurd (cc)

one_bare : (name : Name) (all : List Source) → is_bare_from name all ≡ true → (src : Source) × (all ≡ src ∷ []) × (is_bare_source name src ≡ true)
one_bare name [] h = absurd (cc)
one_bare name (s ∷ []) h = (s, refl, h)
one_bare name (s ∷ t ∷ more) h = absurd (cc)

-- a SELECT from the one table, and its simple parts
pub record IsSimpleSelect (table : Table) (sel : Select) : Type 0 where
  pub src : Source
  pub alone : IsAlone sel
  pub plain : IsOver table.name (out-Select sel).first src
  pub shown : are_simple_shown (known_in table) (out-Core (out-Select sel).first).shown ≡ true
  pub filter : is_simple_or_none (known_in table) (out-Core (out-Select sel).first).filter ≡ true
  pub order : are_simple_sorts (known_in table) (out-Select sel).order ≡ true
  pub limit : is_simple_or_none none_known (out-Select sel).limit ≡ true
  pub offset : is_simple_or_none none_known (out-Select sel).offset ≡ true

pub select_is : (table : Table) (sel : Select) → is_simple_select table sel ≡ true → IsSimpleSelect table sel
select_is table sel h =
    let with = and_parts _ _ h in
    let others = and_parts _ _ with.1 in
    let first = and_parts _ _ others.1 in
    let order = and_parts _ _ first.1 in
    let pages = and_parts _ _ order.1 in
    let from = and_parts _ _ first.0 in
    let group = and_parts _ _ from.1 in
    let having = and_parts _ _ group.1 in
    let parts = and_parts _ _ having.1 in
    let one = one_bare table.name _ from.0 in
    let named = and_parts _ _ one.2 in
    let left = and_parts _ _ named.1 in
    let alias = and_parts _ _ left.1 in
    let on = and_parts _ _ alias.1 in
    record {
      src = one.0;
      alone = record { with_is = empty_is _ with.0; others_is = empty_is _ others.0 };
      plain = record {
        from_is = one.1;
        group_is = empty_is _ group.0;
        having_is = none_is _ having.0;
        origin_is = named_by table.name _ named.0;
        left_is = negated _ left.0;
        alias_is = none_is _ alias.0;
        on_is = none_is _ on.0;
        using_is = empty_is _ on.1;
      };
      shown = parts.0;
      filter = parts.1;
      order = order.0;
      limit = pages.0;
      offset = pages.1;
    }
