-- SELECT from the table that stands at a place, one part after another.
use Rattle.std.proofs.Common.{◌≡◌, ℕ, Bool, true, false, not, ◌&&◌, ◌==◌, List, [], ◌∷◌, length, map, None, Ok, Err, refl, ap, ◌∙◌}
use Rattle.sqlite_value.specs.declared.keys.Key.{Key}
use Rattle.sqlite_ast.specs.declared.Core.{Core, out-Core}
use Rattle.sqlite_ast.specs.declared.Origin.TheVariants as origin
use Rattle.sqlite_ast.specs.declared.Sort.{Sort}
use Rattle.sqlite_ast.specs.declared.Source.{Source, out-Source}
use Rattle.sqlite_sql.specs.Term.{Term}
use Rattle.sqlite_schema.specs.declared.schema.Schema.{Schema}
use Rattle.sqlite_schema.specs.declared.schema.Table.{Table}
use Rattle.sqlite_draft.specs.declared.join.Step.TheVariants.{Inner}
use Rattle.sqlite_resolve.specs.declared.body.Body.{Body}
use Rattle.sqlite_resolve.specs.declared.body.Joined.{Joined}
use Rattle.sqlite_resolve.specs.declared.scope.Bound.{Bound}
use Rattle.sqlite_resolve.specs.declared.scope.Level.{Level}
use Rattle.sqlite_resolve.specs.declared.scope.Output.{Output}
use Rattle.sqlite_resolve.specs.declared.select.Clauses.{Clauses}
use Rattle.sqlite_resolve.specs.declared.state.State.{State}
use Rattle.sqlite_resolve.specs.Body.{table_in, bound as bind, bounds, join, joins, inner_join, shared, tests, outputs_from, outputs, result, matching, body}
use Rattle.sqlite_resolve.specs.Expr.{lower}
use Rattle.sqlite_resolve.specs.Lowering.{Checked, and_then, take_slot, fresh, max_budget}
use Rattle.sqlite_resolve.specs.Order.{keys, sorts, sorts_from}
use Rattle.sqlite_resolve.specs.Program.{Shown as Answered}
use Rattle.sqlite_resolve.specs.Scope.{Name}
use Rattle.sqlite_resolve.specs.Select.{outermost, inside, having, parts, assembled, named}
use Rattle.gaz_sql_facts.specs.Standing.{StandsAt}
use Rattle.gaz_sql_facts.proofs.Looks.{bound, over}

-- the SELECT is FROM the one table by its name, with no GROUP BY
pub record IsOver (name : Name) (core : Core) (src : Source) : Type 0 where
  pub from_is : (out-Core core).from ≡ src ∷ []
  pub group_is : (out-Core core).group ≡ []
  pub having_is : (out-Core core).having ≡ None
  pub origin_is : (out-Source src).origin ≡ origin.Table name
  pub left_is : (out-Source src).is_left ≡ false
  pub alias_is : (out-Source src).alias ≡ None
  pub on_is : (out-Source src).on ≡ None
  pub using_is : (out-Source src).using ≡ []

-- the state behind FROM
abbrev pub begun : State
begun = record (fresh 1 max_budget) { next = 2 }

abbrev pub made : ℕ → Table → List Output → List Term → Body
made at table all filter = record { level = record { tables = bound at table.name ∷ []; shown = all }; steps = Inner table.tree ∷ []; filter = filter }

abbrev pub clauses : Body → Bool → List (Term × Key) → Clauses
clauses b grouped order = record { body = b; is_grouped = grouped; keys = []; collations = []; having = []; order = order }

abbrev pub is_grouped : State → Bool
is_grouped s = not (length s.aggregates == 0)

abbrev pub answered : Core → Term × Term → Clauses × State → Checked Answered
answered core page r = and_then (assembled (out-Core core).distinct page.0 page.1 r.0 r.1) (λ d. Ok (d, map (λ o. o.name) r.0.body.level.shown, map (λ o. o.carried.collation) r.0.body.level.shown))

module _ (s : Schema) (at : ℕ) (table : Table) (core : Core) (order : List Sort) (page : Term × Term) where
  abbrev tables : List Bound
  tables = bound at table.name ∷ []

  abbrev level_of : List Output → Level
  level_of all = record { tables = tables; shown = all }

  -- the columns of the result, WHERE and ORDER BY
  abbrev pub outs : Checked (List Output × State)
  outs = outputs_from lower (over s at table.name [] true) tables [] (out-Core core).shown begun

  abbrev pub tested : List Output × State → Checked (List Term × State)
  tested q = tests lower (over s at table.name q.0 false) [] (out-Core core).filter q.1

  abbrev pub sorted : List Output × State → List Term × State → Checked (List (Term × Key) × State)
  sorted q f = sorts_from lower (over s at table.name q.0 (is_grouped f.1)) q.0 [] order f.1

  -- the whole of it
  abbrev pub asked : Checked Answered
  asked = and_then outs (λ q. and_then (tested q) (λ f. and_then (sorted q f) (λ o. answered core page (clauses (made at table q.0 f.0) (is_grouped f.1) o.0, o.1))))

  module _ (stands : StandsAt s at table) (src : Source) (plain : IsOver table.name core src) where
    bounds_at : bounds s (src ∷ []) (fresh 1 max_budget) ≡ Ok (tables, begun)
    unfolding bounds bind take_slot table_in
    bounds_at = rw (plain.origin_is, stands.named, plain.alias_is, plain.using_is)

    bounds_is : bounds s (out-Core core).from (fresh 1 max_budget) ≡ Ok (tables, begun)
    bounds_is = rw plain.from_is bounds_at

    joins_at : (all : List Output) (st : State) → joins lower (over s at table.name all false) tables (src ∷ []) st ≡ Ok (record { steps = Inner table.tree ∷ []; filter = [] }, st)
    unfolding joins join shared inner_join tests
    joins_at all st = rw (plain.on_is, plain.using_is, plain.left_is, stands.listed)

    joins_is : (all : List Output) (st : State) → joins lower (over s at table.name all false) tables (out-Core core).from st ≡ Ok (record { steps = Inner table.tree ∷ []; filter = [] }, st)
    joins_is all st = rw plain.from_is (joins_at all st)

    matching_is : (all : List Output) (st : State) → matching lower (outermost s) (level_of all) core st ≡ and_then (tested (all, st)) (λ f. Ok (record { steps = Inner table.tree ∷ []; filter = f.0 }, f.1))
    unfolding matching
    matching_is all st = ap {B = Checked (Joined × State)} (λ (r : Checked (Joined × State)). and_then r (λ j. and_then (tests lower (over s at table.name all false) j.0.filter (out-Core core).filter j.1) (λ f. Ok (record j.0 { filter = f.0 }, f.1)))) (joins_is all st)

    abbrev bodied : List Output × State → Checked (Body × State)
    bodied q = and_then (tested q) (λ f. Ok (made at table q.0 f.0, f.1))

    abbrev level_body : List Output × State → Joined × State → Checked (Body × State)
    level_body q j = Ok (record { level = level_of q.0; steps = j.0.steps; filter = j.0.filter }, j.1)

    by_bounds : body lower (outermost s) core (fresh 1 max_budget) ≡ and_then outs (λ q. and_then (matching lower (outermost s) (level_of q.0) core q.1) (level_body q))
    unfolding body result outputs
    by_bounds =
        ap {B = Checked (Body × State)} (λ (r : Checked (List Bound × State)). and_then r (λ ts. and_then (result lower (outermost s) (record { tables = ts.0; shown = [] }) core ts.1) (λ q.
        and_then (matching lower (outermost s) (record { tables = ts.0; shown = q.0 }) core q.1) (λ j. Ok (record { level = record { tables = ts.0; shown = q.0 }; steps = j.0.steps; filter = j.0.filter }, j.1))))) bounds_is

    by_tests : (q : List Output × State) (r : Checked (List Term × State))
        → and_then (and_then r (λ f. Ok (record { steps = Inner table.tree ∷ []; filter = f.0 }, f.1))) (level_body q) ≡ and_then r (λ f. Ok (made at table q.0 f.0, f.1))
    by_tests q (Ok f) = refl
    by_tests q (Err e) = refl

    body_is : body lower (outermost s) core (fresh 1 max_budget) ≡ and_then outs bodied
    body_is =
        by_bounds
        ∙ (λ i. and_then outs (λ q. and_then (matching_is q.0 q.1 i) (level_body q)))
        ∙ (λ i. and_then outs (λ q. by_tests q (tested q) i))

    -- what follows the body
    abbrev after_body : Body × State → Checked (Clauses × State)
    after_body w =
        let g = not (length (out-Core core).group == 0 && length w.1.aggregates == 0) in
        and_then (keys lower (inside s w.0.level false) w.0.level.shown (out-Core core).group w.1) (λ by.
        and_then (having (inside s w.0.level g) (out-Core core).having by.1) (λ kept.
        and_then (sorts lower (inside s w.0.level g) w.0.level.shown order kept.1) (λ o.
        Ok (record { body = w.0; is_grouped = g; keys = by.0.0; collations = by.0.1; having = kept.0; order = o.0 }, o.1))))

    after_is : (w : Body × State) → after_body w ≡ and_then (sorts_from lower (inside s w.0.level (is_grouped w.1)) w.0.level.shown [] order w.1) (λ o. Ok (clauses w.0 (is_grouped w.1) o.0, o.1))
    unfolding keys having tests sorts
    after_is w = rw (plain.group_is, plain.having_is)

    by_sorts : (b : Body) (g : Bool) (r : Checked (List (Term × Key) × State)) → and_then (and_then r (λ o. Ok (clauses b g o.0, o.1))) (answered core page) ≡ and_then r (λ o. answered core page (clauses b g o.0, o.1))
    by_sorts b g (Ok o) = refl
    by_sorts b g (Err e) = refl

    by_filter : (q : List Output × State) (r : Checked (List Term × State)) → and_then (and_then (and_then r (λ f. Ok (made at table q.0 f.0, f.1))) after_body) (answered core page)
        ≡ and_then r (λ f. and_then (sorted q f) (λ o. answered core page (clauses (made at table q.0 f.0) (is_grouped f.1) o.0, o.1)))
    by_filter q (Ok f) = ap (λ (r : Checked (Clauses × State)). and_then r (answered core page)) (after_is (made at table q.0 f.0, f.1)) ∙ by_sorts (made at table q.0 f.0) (is_grouped f.1) (sorted q f)
    by_filter q (Err e) = refl

    by_outs : (r : Checked (List Output × State)) → and_then (and_then (and_then r bodied) after_body) (answered core page)
        ≡ and_then r (λ q. and_then (tested q) (λ f. and_then (sorted q f) (λ o. answered core page (clauses (made at table q.0 f.0) (is_grouped f.1) o.0, o.1))))
    by_outs (Ok q) = by_filter q (tested q)
    by_outs (Err e) = refl

    by_body : named s core order page ≡ and_then (and_then (body lower (outermost s) core (fresh 1 max_budget)) after_body) (answered core page)
    unfolding named parts
    by_body = refl

    pub named_is : named s core order page ≡ asked
    named_is = by_body ∙ ap (λ (r : Checked (Body × State)). and_then (and_then r after_body) (answered core page)) body_is ∙ by_outs outs
