use Rattle.std.proofs.Common.{rules, ◌≡◌, ◌∙◌, [], ap, refl, subst, sym, unwrap_or}
use Rattle.std.specs.FinMap as finite
use Rattle.std.specs.HashMap.{HashMap}
use Rattle.gaz_histories.specs.Histories.{lived}
use Rattle.gaz_records.specs.declared.key.Key.{Key}
use Rattle.gaz_views.proofs.Outcomes.{where_err}
use Rattle.gaz_standing.proofs.Stored.{keys_noted, keys_put, keys_stay, stores, stores_again, versions_stored, was_nowhere}
use Rattle.gaz_standing.specs.KeyHistories.{HasTheKeysOf, ItemVersions}
use Rattle.gaz_standing.proofs.histories.Histories.live.Goals as goal

pub invariant_of-self : goal.invariant_of-self
invariant_of-self c =
    let writes = (c.get_mut.follows.holds c.live.new.self).3 (search rules) in
    keys_stay c.self.inside.order c.self.inside.by_key.entries _ _ c.of-key.result c.live.new.self c.in-Some.history.now c.self.invariant (sym c.in-Some.ensures.value) refl writes.0

pub returns-in_err-live-clause-err : goal.returns-in_err-live-clause-err
returns-in_err-live-clause-err c =
    let writes = (c.get_mut.follows.holds c.live.new.self).3 (search rules) in
    where_err c.from_residual.result
    (stores_again c.args.self.now c.self.inside.by_key.entries c.of-key.result c.self.view_is _ _ c.live.new.self c.in-Some.history.now refl writes.0 c.in_err-live.ensures.err (sym c.in-Some.ensures.value))

pub invariant_of-self-in-Some : goal.invariant_of-self-in-Some
invariant_of-self-in-Some c =
    let writes = (c.get_mut.follows.holds c.live.new.self).3 (search rules) in
    keys_stay c.self.inside.order c.self.inside.by_key.entries _ _ c.of-key.result c.live.new.self c.in-Some.history.now c.self.invariant (sym c.in-Some.ensures.value) refl writes.0

pub returns-in-Some-clause-ok : goal.returns-in-Some-clause-ok
returns-in-Some-clause-ok c =
    let writes = (c.get_mut.follows.holds c.live.new.self).3 (search rules) in
    let es = c.self.inside.by_key.entries in
    let was = ap (λ o. unwrap_or o []) c.in-Some.ensures.value ∙ sym (versions_stored c.args.self.now es c.of-key.result c.self.view_is) in
    rw (← c.of-key.ensures) (stores c.args.self.now es _ c.of-key.result c.live.new.self _ c.self.view_is writes.0 (c.in_ok-live.ensures.ok ∙ ap (λ (vs : ItemVersions). lived vs c.args.born c.args.gone c.args.item) was))

pub invariant_of-self-in_err-insert : goal.invariant_of-self-in_err-insert
invariant_of-self-in_err-insert c =
    let m = c.get_mut.follows.lender-at-none in
    let same : m ≡ c.self.inside.by_key = c.get_mut.follows.holds-at-none in
    keys_noted c.self.inside.order c.note.new.self c.self.inside.by_key.entries c.insert.new.self.entries c.of-key.result c.self.invariant c.in_ok-note.ensures.ok (c.in_err-insert.ensures.err ∙ ap (λ (n : HashMap Key ItemVersions _). n.entries) same)

pub invariant_of-self-2 : goal.invariant_of-self-2
invariant_of-self-2 c =
    let m = c.get_mut.follows.lender-at-none in
    let same : m ≡ c.self.inside.by_key = c.get_mut.follows.holds-at-none in
    let all = subst (λ (n : HashMap Key ItemVersions _). HasTheKeysOf c.self.inside.order n.entries) (sym same) c.self.invariant in
    keys_put c.self.inside.order c.note.new.self m.entries c.insert.new.self.entries c.insert.new.self.entries c.of-key.result c.live-2.new.self all c.in_ok-note.ensures.ok refl c.in_ok-insert.ensures.updates.0

pub returns-clause-ok : goal.returns-clause-ok
returns-clause-ok c =
    let m = c.get_mut.follows.lender-at-none in
    let same : m ≡ c.self.inside.by_key = c.get_mut.follows.holds-at-none in
    let is = ap (λ (n : HashMap Key ItemVersions _). finite.from_entries n.entries) same ∙ c.self.view_is in
    let none = c.new-history.ensures ∙ was_nowhere c.args.self.now c.self.inside.by_key.entries c.of-key.result c.self.view_is (sym c.in_default.ensures.value) in
    rw (← c.of-key.ensures) (stores c.args.self.now m.entries c.insert.new.self.entries c.of-key.result c.live-2.new.self _ is c.in_ok-insert.ensures.updates.0
    (c.in_ok-live-2.ensures.ok ∙ ap (λ (vs : ItemVersions). lived vs c.args.born c.args.gone c.args.item) none))
