-- One SELECT with no WITH: what it is read as, where its parts are known, and what its parts are, where it is read.
use Rattle.std.proofs.Common.{◌≡◌, List, [], Ok, Err, refl, sym, ◌∙◌}
use Rattle.sqlite_ast.specs.declared.Select.{Select, out-Select}
use Rattle.sqlite_ast.specs.declared.Source.{Source}
use Rattle.sqlite_sql.specs.Term.{Term}
use Rattle.sqlite_schema.specs.declared.command.Command.TheVariants.{Select as Selects}
use Rattle.sqlite_schema.specs.declared.program.Program.{Program}
use Rattle.sqlite_schema.specs.declared.program.Table.{Table as Let}
use Rattle.sqlite_schema.specs.declared.schema.Schema.{Schema}
use Rattle.sqlite_resolve.specs.declared.error.CompileError.{CompileError}
use Rattle.sqlite_resolve.specs.declared.error.CompileError.TheVariants.{NoSuchTable, NeedsView}
use Rattle.sqlite_resolve.specs.Compile.{read}
use Rattle.sqlite_resolve.specs.Lowering.{Checked}
use Rattle.sqlite_resolve.specs.Program.{Building, query, query_to, level, with, whole, alone, single, sources, source, view, view_text, viewing, program, Shown as Answered}
use Rattle.sqlite_resolve.specs.Scope.{Name}
use Rattle.sqlite_resolve.specs.Select.{named, paging}
use Rattle.gaz_sql_facts.proofs.Queries.{IsOver}
use Rattle.gaz_sql_facts.proofs.Typing.{same_ok}

-- one SELECT, with no WITH
pub record IsAlone (sel : Select) : Type 0 where
  pub with_is : (out-Select sel).with ≡ []
  pub others_is : (out-Select sel).others ≡ []

module _ (s : Schema) (name : Name) (sel : Select) (src : Source) (one : IsAlone sel) (plain : IsOver name (out-Select sel).first src) where
  abbrev core_named : Term × Term → Checked Answered
  core_named page = named s (out-Select sel).first (out-Select sel).order page

  module _ (page : Term × Term) (paged : paging s sel ≡ Ok page) where
    single_is : (q : Schema → Select → Building Answered) (it : Answered) → core_named page ≡ Ok it → single q s (out-Select sel).first (out-Select sel).order page [] ≡ Ok ((it, s), [])
    unfolding single sources source viewing
    single_is q it e = rw (plain.from_is, plain.origin_is, e)

    level_is : (q : Schema → Select → Building Answered) (it : Answered) → core_named page ≡ Ok it → level q s sel [] ≡ Ok (it, [])
    unfolding level with whole alone
    level_is q it e = rw (one.with_is, paged, one.others_is, single_is q it e)

    pub query_is : (it : Answered) → core_named page ≡ Ok it → query s sel ≡ Ok (it, [])
    unfolding query query_to
    query_is it e = level_is (query_to 15) it e

    -- what isn't named, in a schema with no view, isn't read
    single_fails : s.views ≡ [] → (q : Schema → Select → Building Answered) (e : CompileError) → core_named page ≡ Err e → (f : CompileError) × (single q s (out-Select sel).first (out-Select sel).order page [] ≡ Err f)
    unfolding single sources source viewing view view_text
    single_fails bare q (NeedsView at) is = (NoSuchTable, rw (plain.from_is, plain.origin_is, is, bare))
    single_fails bare q e is = (e, rw (plain.from_is, plain.origin_is, is))

    level_fails : s.views ≡ [] → (q : Schema → Select → Building Answered) (e : CompileError) → core_named page ≡ Err e → (f : CompileError) × (level q s sel [] ≡ Err f)
    unfolding level with whole alone
    level_fails bare q e is = let it = single_fails bare q e is in (it.0, rw (one.with_is, paged, one.others_is, it.1))

    pub query_fails : s.views ≡ [] → (e : CompileError) → core_named page ≡ Err e → (f : CompileError) × (query s sel ≡ Err f)
    unfolding query query_to
    query_fails bare e is = level_fails bare (query_to 15) e is

  level_unpaged : (q : Schema → Select → Building Answered) (e : CompileError) → paging s sel ≡ Err e → level q s sel [] ≡ Err e
  unfolding level with whole
  level_unpaged q e is = rw (one.with_is, is)

  query_unpaged : (e : CompileError) → paging s sel ≡ Err e → query s sel ≡ Err e
  unfolding query query_to
  query_unpaged e is = level_unpaged (query_to 15) e is

  -- its parts, where it is read
  pub record IsRead (q : Answered × List Let) : Type 0 where
    pub page : Term × Term
    pub paged : paging s sel ≡ Ok page
    pub it : Answered
    pub named_is : core_named page ≡ Ok it
    pub is : q ≡ (it, [])

  pub query_parts : s.views ≡ [] → (q : Answered × List Let) → query s sel ≡ Ok q → IsRead q
  query_parts bare q h = by_page (paging s sel) refl
    where
      by_named : (page : Term × Term) → paging s sel ≡ Ok page → (r : Checked Answered) → core_named page ≡ r → IsRead q
      by_named page paged (Ok it) is = record { page = page; paged = paged; it = it; named_is = is; is = same_ok (sym h ∙ query_is page paged it is) }
      by_named page paged (Err e) is = let f = query_fails page paged bare e is in absurd (let clash : ◌≡◌ {A = Checked (Answered × List Let)} (Ok q) (Err f.0) = sym h ∙ f.1 in cc)

      by_page : (r : Checked (Term × Term)) → paging s sel ≡ r → IsRead q
      by_page (Ok page) paged = by_named page paged (core_named page) refl
      by_page (Err e) is = absurd (let clash : ◌≡◌ {A = Checked (Answered × List Let)} (Ok q) (Err e) = sym h ∙ query_unpaged e is in cc)

  pub read_is : (page : Term × Term) (it : Answered) (p : Program) → paging s sel ≡ Ok page → core_named page ≡ Ok it → program s [] it.0 ≡ Ok p → read s sel ≡ Ok (Selects p it.1)
  unfolding read
  read_is page it p paged e typed = rw (query_is page paged it e, typed)
