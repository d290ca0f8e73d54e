use Rattle.std.proofs.Common.{rules, ◌≡◌, ◌∙◌, [], ℕ, ap, sym, unwrap_or}
use Rattle.std.specs.FinMap as finite
use Rattle.std.specs.HashMap.{HashMap}
use Rattle.gaz_histories.specs.Histories.{Versions, before}
use Rattle.gaz_views.specs.declared.custody.Custody.{Custody}
use Rattle.gaz_standing.proofs.Stored.{nothing_in}
use Rattle.gaz_ledger.proofs.Becoming.{becomes, becomes_none, forgets_none, passed_stored}
use Rattle.gaz_ledger.specs.Custodies.{Custodies, passed_at}
use Rattle.gaz_ledger.proofs.custodies.Custodies.cut.Goals as goal

pub returns-then-is_empty : goal.returns-then-is_empty
returns-then-is_empty c =
    let writes = (c.get_mut.follows.holds c.cut.new.self).3 (search rules) in
    let was = ap (λ o. unwrap_or o []) c.in-Some.ensures.value ∙ sym (passed_stored c.args.self.now c.self.inside.by_uprn.entries c.args.uprn c.self.view_is) in
    let none = sym (nothing_in c.cut.new.self (sym c.if-is_empty.true ∙ c.is_empty.ensures)) in
    let now = becomes_none c.args.self.now c.self.inside.by_uprn.entries _ c.remove.new.self.entries c.args.uprn c.cut.new.self _ c.self.view_is writes.0 c.remove.ensures.updates.0
    (none ∙ c.cut.ensures ∙ ap (λ (vs : Versions Custody). before vs c.args.volume) was) in
    let is : c.match-remove.self ≡ finite.from_entries c.remove.new.self.entries = search rules in
    λ n. ap (λ (d : Custodies). passed_at d n) is ∙ now n

pub returns-else-is_empty : goal.returns-else-is_empty
returns-else-is_empty c =
    let writes = (c.get_mut.follows.holds c.cut.new.self).3 (search rules) in
    let was = ap (λ o. unwrap_or o []) c.in-Some.ensures.value ∙ sym (passed_stored c.args.self.now c.self.inside.by_uprn.entries c.args.uprn c.self.view_is) in
    becomes c.args.self.now c.self.inside.by_uprn.entries _ c.args.uprn c.cut.new.self _ c.self.view_is writes.0 (c.cut.ensures ∙ ap (λ (vs : Versions Custody). before vs c.args.volume) was)

pub returns-in_default : goal.returns-in_default
returns-in_default c =
    let m = c.get_mut.follows.lender-at-none in
    let same : m ≡ c.self.inside.by_uprn = c.get_mut.follows.holds-at-none in
    let is = ap (λ (n : HashMap ℕ (Versions Custody) _). finite.from_entries n.entries) same ∙ c.self.view_is in
    let none : [] ≡ passed_at c.args.self.now c.args.uprn = ap (λ o. unwrap_or o []) c.in_default.ensures.value ∙ sym (passed_stored c.args.self.now c.self.inside.by_uprn.entries c.args.uprn c.self.view_is) in
    λ n. ap (λ (d : Custodies). passed_at d n) is ∙ forgets_none c.args.self.now c.args.volume c.args.uprn none n
