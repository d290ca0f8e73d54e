use Rattle.std.proofs.Common.{rules, ◌≡◌, ◌∙◌, [], ap, refl, sym, unwrap_or}
use Rattle.std.specs.FinMap as finite
use Rattle.std.specs.HashMap.{HashMap}
use Rattle.gaz_histories.specs.Histories.{before}
use Rattle.gaz_records.specs.declared.key.Key.{Key}
use Rattle.gaz_standing.proofs.Stored.{cut_none, emptied, keys_stay, stores, versions_stored}
use Rattle.gaz_standing.specs.KeyHistories.{ItemVersions, KeyHistories, versions_at}
use Rattle.gaz_standing.proofs.histories.Histories.cut_there.Goals as goal

pub returns-in_default-clause-changes : goal.returns-in_default-clause-changes
returns-in_default-clause-changes c =
    let m = c.get_mut.follows.lender-at-none in
    let same : m ≡ c.self.inside.by_key = c.get_mut.follows.holds-at-none in
    let is = ap (λ (n : HashMap Key ItemVersions _). finite.from_entries n.entries) same ∙ c.self.view_is in
    let none = versions_stored c.args.self.now c.self.inside.by_key.entries c.of.result c.self.view_is ∙ sym (ap (λ o. unwrap_or o []) c.in_default.ensures.value) in
    rw (← c.of.ensures) (λ k. ap (λ (g : KeyHistories). versions_at g k) is ∙ cut_none c.args.self.now c.of.result c.args.volume none k)

pub invariant_of-self-2 : goal.invariant_of-self-2
invariant_of-self-2 c =
    let writes = (c.get_mut.follows.holds c.cut.new.self).3 (search rules) in
    keys_stay c.self.inside.order c.self.inside.by_key.entries _ _ c.of.result c.cut.new.self c.in-Some.history.now c.self.invariant (sym c.in-Some.ensures.value) refl writes.0

pub returns-clause-changes : goal.returns-clause-changes
returns-clause-changes c =
    let writes = (c.get_mut.follows.holds c.cut.new.self).3 (search rules) in
    let es = c.self.inside.by_key.entries in
    let was = ap (λ o. unwrap_or o []) c.in-Some.ensures.value ∙ sym (versions_stored c.args.self.now es c.of.result c.self.view_is) in
    rw (← c.of.ensures) (stores c.args.self.now es _ c.of.result c.cut.new.self _ c.self.view_is writes.0 (c.cut.ensures ∙ ap (λ (vs : ItemVersions). before vs c.args.volume) was))

pub returns-clause-empty : goal.returns-clause-empty
returns-clause-empty c =
    let es = c.self.inside.by_key.entries in
    let was = ap (λ o. unwrap_or o []) c.in-Some.ensures.value ∙ sym (versions_stored c.args.self.now es c.of.result c.self.view_is) ∙ ap (versions_at c.args.self.now) c.of.ensures in
    emptied c.args.self.now _ c.args.key.now (before (versions_at c.args.self.now c.args.key.now) c.args.volume) c.cut.new.self c.is_empty.result (returns-clause-changes c)
    (c.cut.ensures ∙ ap (λ (vs : ItemVersions). before vs c.args.volume) was) c.is_empty.ensures
