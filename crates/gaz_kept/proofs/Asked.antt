-- A query of no table.
use Rattle.std.proofs.Common.{◌≡◌, ◌⊎◌, inl, inr, List, [], ◌∷◌, ℕ, pos, true, false, None, codes, refl, subst, Result, Ok, Err, IfErr, IfOk, OnOk, Vec}
use Rattle.std.specs.declared.alloc.Global.{Global}
use Rattle.sqlite_tied.specs.Compute.{everything}
use Rattle.sqlite.specs.declared.error.Error.{Error}
use Rattle.sqlite.specs.Clock.{timed}
use Rattle.sqlite.specs.Listing.{understood}
use Rattle.sqlite.specs.Order.{Row}
use Rattle.sqlite.specs.Schema.{Schema}
use Rattle.sqlite.specs.Term.{lit}
use Rattle.sqlite.specs.declared.types.Value.TheVariants.{Int}
use Rattle.sqlite.specs.State.{CommitsShowing, FailsToQuery, IsUnchanged, Shown, ShowsRows, State, Survives}
use Rattle.sqlite.proofs.Callers.{IsPlain, never_commits}
use Rattle.sqlite.proofs.StateLemmas.{survives_weaker}
use Rattle.gaz_sql_facts.specs.Reasons.{HasReason}
use Rattle.sqlite_sql.specs.Query.{Query, end}
use Rattle.gaz_sql_facts.specs.Selects.{every}
use Rattle.gaz_sql_facts.proofs.Reasons.{asks, query_reason}
use Rattle.gaz_sql_facts.proofs.Texts.{IsSelect}

abbrev pub probe_text : List ℕ
probe_text = codes "SELECT 1"

pub plain : (schema : Schema) → IsPlain (understood schema probe_text)
unfolding understood everything
plain schema = (refl, refl)

pub stays_open : (params : Row) (old new : State) (r : Result (Vec Row Global) Error) → IfOk r (λ rows. Shown probe_text params old new rows.items) → OnOk r (IsUnchanged old new)
unfolding Shown
stays_open params old new (Err e) h = tt
stays_open params old new (Ok rows) h =
    let none = (subst IsPlain h.1.is (plain old.now.schema)).0 in
    let it = subst (ShowsRows old new probe_text h.0 (timed params h.0.formats h.1.now) rows.items) none h.2 in it.3

pub leaves_nothing : (params : Row) (old new : State) → Survives old new (CommitsShowing probe_text params old) → Survives old new (λ _. ⊥)
leaves_nothing params old new s = survives_weaker old new _ (λ _. ⊥) (λ clean db commits. never_commits probe_text params old db (plain old.now.schema) commits) s

-- no table is asked
abbrev query : Query
query = record {
  from = end;
  filter = [];
  group = None;
  project = lit (Int (pos 1)) ∷ [];
  distinct = false;
  collations = [];
  order = [];
  limit = every;
  offset = lit (Int (pos 0));
}

text : (schema : Schema) → IsSelect schema probe_text query (codes "1" ∷ [])
unfolding understood everything
text schema = record { is = refl; plain = (refl, refl); unlisted = refl }

fits : asks 0 probe_text ≡ true
unfolding everything
fits = refl

pub fails_by_others : (old new : State) (r : Result (Vec Row Global) Error) → IfErr r (FailsToQuery probe_text [] old new) → IfErr r (HasReason old new)
fails_by_others old new (Ok rows) h = tt
fails_by_others old new (Err e) h = query_reason old.now.schema probe_text _ query (text old.now.schema) [] old new refl fits refl (λ over. by over) e h
  where
    by : ⊥ ⊎ ⊥ → ⊥
    by (inl none) = none
    by (inr none) = none
