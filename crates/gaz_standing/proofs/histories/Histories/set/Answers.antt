use Rattle.std.proofs.Common.{rules, ◌≡◌, ◌∙◌, ◌++◌, ◌∷◌, [], ap, sym, subst, false}
use Rattle.std.specs.Prelude.{Some, None}
use Rattle.std.specs.HashMap.Entry.{MatchEntry, entry_key, entry_value, map_with_value}
use Rattle.std.specs.Map.{lookup_key}
use Rattle.std.specs.Option.{IsSome, option_map_or}
use Rattle.std.specs.Ordering.{eq_by_cmp}
use Rattle.gaz_histories.specs.Histories.{before, standing_at}
use Rattle.gaz_records.specs.Keys.{key_cmp}
use Rattle.gaz_views.proofs.Outcomes.{where_err}
use Rattle.gaz_standing.proofs.KeyHistories.{row_at}
use Rattle.gaz_standing.proofs.Stored.{keys_put, keys_stay, stored, stores_again, stores_now, was_nowhere, was_there}
use Rattle.gaz_standing.specs.KeyHistories.{ItemVersions, versions_at}
use Rattle.gaz_standing.specs.Indexes.{has_mark}
use Rattle.gaz_standing.proofs.histories.Histories.set.Goals as goal

pub invariant_of-self-in_err-set_in-in-Occupied : goal.invariant_of-self-in_err-set_in-in-Occupied
invariant_of-self-in_err-set_in-in-Occupied c =
    let there = sym c.in_ok-entry.ensures.value ∙ ap entry_value c.in-Occupied.is ∙ c.into_mut.ensures.value in
    keys_stay c.self.inside.order c.self.inside.by_key.entries _ (map_with_value c.in_ok-entry.field-0 c.set_in.new.history).entries c.of-key.result c.set_in.new.history c.into_mut.result.now c.self.invariant
    there (search rules) (c.in_ok-entry.ensures.update.0 c.set_in.new.history).0

pub returns-in_err-set_in-in-Occupied-clause-err : goal.returns-in_err-set_in-in-Occupied-clause-err
returns-in_err-set_in-in-Occupied-clause-err c =
    let there = sym c.in_ok-entry.ensures.value ∙ ap entry_value c.in-Occupied.is ∙ c.into_mut.ensures.value in
    where_err c.from_residual-in_err-set_in-in-Occupied.result
    (stores_again c.args.self.now c.self.inside.by_key.entries c.of-key.result c.self.view_is _ (map_with_value c.in_ok-entry.field-0 c.set_in.new.history).entries c.set_in.new.history c.into_mut.result.now
    (search rules) (c.in_ok-entry.ensures.update.0 c.set_in.new.history).0 c.in_err-set_in-in-Occupied.ensures.err there)

pub invariant_of-self-in-Occupied : goal.invariant_of-self-in-Occupied
invariant_of-self-in-Occupied c =
    let there = sym c.in_ok-entry.ensures.value ∙ ap entry_value c.in-Occupied.is ∙ c.into_mut.ensures.value in
    keys_stay c.self.inside.order c.self.inside.by_key.entries _ (map_with_value c.in_ok-entry.field-0 c.set_in.new.history).entries c.of-key.result c.set_in.new.history c.into_mut.result.now c.self.invariant
    there (search rules) (c.in_ok-entry.ensures.update.0 c.set_in.new.history).0

pub invariant_of-self-in-Vacant : goal.invariant_of-self-in-Vacant
invariant_of-self-in-Vacant c =
    keys_put c.self.inside.order _ c.self.inside.by_key.entries _ (map_with_value c.in_ok-entry.field-0 c.set_in-in-Vacant.new.history).entries c.of-key.result c.set_in-in-Vacant.new.history c.self.invariant
    c.in-Ok.ensures.ok (search rules) (c.in_ok-entry.ensures.update.0 c.set_in-in-Vacant.new.history).0

pub returns-in_ok-set_in-in-Occupied-clause-ok : goal.returns-in_ok-set_in-in-Occupied-clause-ok
returns-in_ok-set_in-in-Occupied-clause-ok c =
    let es = c.self.inside.by_key.entries in
    let there = sym c.in_ok-entry.ensures.value ∙ ap entry_value c.in-Occupied.is ∙ c.into_mut.ensures.value in
    let was = was_there c.args.self.now es c.of-key.result c.self.view_is c.into_mut.result.now there in
    rw (← c.of-key.ensures) (stores_now c.args.self.now es c.of-key.result c.self.view_is _ (map_with_value c.in_ok-entry.field-0 c.set_in.new.history).entries c.set_in.new.history _ (search rules) (c.in_ok-entry.ensures.update.0 c.set_in.new.history).0
    (c.in_ok-set_in-in-Occupied.ensures.ok ∙ ap (λ (vs : ItemVersions). before vs c.args.volume ++ (c.args.volume, c.args.item) ∷ []) was))

pub returns-in_ok-set_in-in-Occupied-clause-marks : goal.returns-in_ok-set_in-in-Occupied-clause-marks
returns-in_ok-set_in-in-Occupied-clause-marks c m is =
    let there = sym c.in_ok-entry.ensures.value ∙ ap entry_value c.in-Occupied.is ∙ c.into_mut.ensures.value in
    let was = was_there c.args.self.now c.self.inside.by_key.entries c.of-key.result c.self.view_is c.into_mut.result.now there in
    c.in_ok-set_in-in-Occupied.ensures.marks m (ap (λ o. option_map_or (has_mark m) o false) (ap (λ (vs : ItemVersions). standing_at vs c.args.volume) (was ∙ ap (versions_at c.args.self.now) c.of-key.ensures) ∙ row_at c.args.self.now c.args.volume c.args.key) ∙ is)

pub returns-in_ok-set_in-in-Vacant-clause-ok : goal.returns-in_ok-set_in-in-Vacant-clause-ok
returns-in_ok-set_in-in-Vacant-clause-ok c =
    let es = c.self.inside.by_key.entries in
    let there = IsSome (stored es c.of-key.result) × (lookup_key (eq_by_cmp key_cmp c.of-key.result) es ≡ Some (entry_key c.in_ok-entry.field-0)) in
    let none = subst (λ e. MatchEntry e there (stored es c.of-key.result ≡ None)) c.in-Vacant.is c.in_ok-entry.ensures.found in
    let was = c.insert.ensures.value ∙ c.new.ensures ∙ was_nowhere c.args.self.now es c.of-key.result c.self.view_is none in
    rw (← c.of-key.ensures) (stores_now c.args.self.now es c.of-key.result c.self.view_is _ (map_with_value c.in_ok-entry.field-0 c.set_in-in-Vacant.new.history).entries c.set_in-in-Vacant.new.history _ (search rules) (c.in_ok-entry.ensures.update.0 c.set_in-in-Vacant.new.history).0
    (c.in_ok-set_in-in-Vacant.ensures.ok ∙ ap (λ (vs : ItemVersions). before vs c.args.volume ++ (c.args.volume, c.args.item) ∷ []) was))

pub returns-in_ok-set_in-in-Vacant-clause-marks : goal.returns-in_ok-set_in-in-Vacant-clause-marks
returns-in_ok-set_in-in-Vacant-clause-marks c m is =
    let es = c.self.inside.by_key.entries in
    let there = IsSome (stored es c.of-key.result) × (lookup_key (eq_by_cmp key_cmp c.of-key.result) es ≡ Some (entry_key c.in_ok-entry.field-0)) in
    let none = subst (λ e. MatchEntry e there (stored es c.of-key.result ≡ None)) c.in-Vacant.is c.in_ok-entry.ensures.found in
    let was = c.insert.ensures.value ∙ c.new.ensures ∙ was_nowhere c.args.self.now es c.of-key.result c.self.view_is none in
    c.in_ok-set_in-in-Vacant.ensures.marks m (ap (λ o. option_map_or (has_mark m) o false) (ap (λ (vs : ItemVersions). standing_at vs c.args.volume) (was ∙ ap (versions_at c.args.self.now) c.of-key.ensures) ∙ row_at c.args.self.now c.args.volume c.args.key) ∙ is)
