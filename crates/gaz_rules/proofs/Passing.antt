-- That what a change makes of a number is as the rules ask.
use Rattle.std.proofs.Common.{◌≡◌, ◌<◌, ℕ, ◌+◌, Bool, true, false, cond, List, refl, sym, ap, ◌∙◌, subst, arith, eqb-true}
use Rattle.std.specs.Prelude.{◌==◌, nat_lt, Option, Some, None}
use Rattle.std.specs.Option.{option_and_then, option_or}
use Rattle.std.specs.Cmp.{unsigned_tied}
use Rattle.std.proofs.lemmas.Bool.Decides.{nat_tests}
use Rattle.std.proofs.lemmas.Option.{none-some, same_Some}
use Rattle.gaz_changefile.specs.declared.action.Action.{Action}
use Rattle.gaz_changefile.specs.declared.action.Action.TheVariants.{Insert, Update, Delete}
use Rattle.gaz_records.specs.declared.item.Item.{Item}
use Rattle.gaz_records.specs.declared.item.Item.TheVariants as item
use Rattle.gaz_register.specs.Registers.{Blocks}
use Rattle.gaz_views.specs.View.{View, custody_at, hop_at}
use Rattle.gaz_views.specs.declared.custody.Custody.{Custody}
use Rattle.gaz_views.specs.declared.custody.Custody.TheVariants.{Adopted, Released}
use Rattle.gaz_rules.specs.CustodyRules.{basis_of, holds_number, is_released_to, was_released}
use Rattle.gaz_rules.specs.Passing.{IsAsked, PassesAsAsked, made_of}
use Rattle.gaz_rules.specs.Rules.{effect_of, entry_effect, record_rules}
use Rattle.gaz_changefile.specs.Rules.{first_broken}
use Rattle.gaz_rules.proofs.Judged.{after_passing, none_broken}
use Rattle.gaz_rules.proofs.PassingSentences.{released_told}
use Rattle.gaz_end_rules.proofs.Booleans.{and_then_gives, not_false, some_passes}

-- ---- the effect

entry_stays : (uprn : ℕ) (v : View) (a : Action) (i : Item) → custody_at (entry_effect a v i) uprn ≡ custody_at v uprn
entry_stays uprn v Insert i = refl
entry_stays uprn v Update i = refl
entry_stays uprn v Delete i = refl

passed_at : (uprn n : ℕ) (v : View) (x : Custody) (now : Option Custody) → now ≡ cond (uprn == n) (Some x) (custody_at v uprn) → now ≡ option_or (cond (uprn == n) (Some x) None) (custody_at v uprn)
passed_at uprn n v x now e = e ∙ turned (uprn == n)
  where
    turned : (b : Bool) → cond b (Some x) (custody_at v uprn) ≡ option_or (cond b (Some x) None) (custody_at v uprn)
    turned true = refl
    turned false = refl

custody_after : (uprn : ℕ) (v : View) (a : Action) (i : Item) → custody_at (effect_of a v i) uprn ≡ option_or (made_of uprn i) (custody_at v uprn)
custody_after uprn v a (item.Street s) = entry_stays uprn v a (item.Street s)
custody_after uprn v a (item.Descriptor s) = entry_stays uprn v a (item.Descriptor s)
custody_after uprn v a (item.Blpu s) = entry_stays uprn v a (item.Blpu s)
custody_after uprn v a (item.Xref s) = entry_stays uprn v a (item.Xref s)
custody_after uprn v a (item.Lpi s) = entry_stays uprn v a (item.Lpi s)
custody_after uprn v a (item.Release r) =
    let x = Released r.to r.hop in
    passed_at uprn r.uprn v x _ (after_passing v uprn r.uprn x ∙ ap (λ b. cond b (Some x) (custody_at v uprn)) (unsigned_tied uprn r.uprn))
custody_after uprn v a (item.Adopt y) =
    let x = Adopted y.from y.hop in
    passed_at uprn y.blpu.uprn v x _ (after_passing v uprn y.blpu.uprn x ∙ ap (λ b. cond b (Some x) (custody_at v uprn)) (unsigned_tied uprn y.blpu.uprn))

-- ---- the rules

made_at : (uprn n : ℕ) (e f : Custody) → cond (uprn == n) (Some e) None ≡ Some f → (n ≡ uprn) × (e ≡ f)
made_at uprn n e f =
    elim (uprn == n) as (λ b. (uprn == n) ≡ b → cond b (Some e) None ≡ Some f → (n ≡ uprn) × (e ≡ f)) [
      | true ↦ λ t is. (sym (eqb-true uprn n t), same_Some e f is)
      | false ↦ λ _ none. absurd (none-some f none)
    ] refl

less : (a b : ℕ) → nat_lt a b ≡ true → a < b
less a b h = grind (arith, nat_tests)

change_asked : (c : ℕ) (own : Blocks) (out : List (ℕ × View)) (v : View) (a : Action) (i : Item) (uprn : ℕ) (e : Custody)
    → first_broken (record_rules c own out v a i) ≡ None → made_of uprn i ≡ Some e → IsAsked c own out v uprn e
change_asked c own out v a (item.Street s) uprn e fits made = absurd (none-some e made)
change_asked c own out v a (item.Descriptor s) uprn e fits made = absurd (none-some e made)
change_asked c own out v a (item.Blpu s) uprn e fits made = absurd (none-some e made)
change_asked c own out v a (item.Xref s) uprn e fits made = absurd (none-some e made)
change_asked c own out v a (item.Lpi s) uprn e fits made = absurd (none-some e made)
change_asked c own out v a (item.Release r) uprn e fits made =
    let none = none_broken (record_rules c own out v a (item.Release r)) fits in
    let at = made_at uprn r.uprn (Released r.to r.hop) e made in
    let next = eqb-true r.hop (hop_at v r.uprn + 1) (not_false (r.hop == hop_at v r.uprn + 1) none.1.1.1.1.1.0) in
    subst (IsAsked c own out v uprn) at.1
    (subst (λ n. IsAsked c own out v n (Released r.to r.hop)) at.0 (not_false (holds_number own v r.uprn) none.0, next))
change_asked c own out v a (item.Adopt y) uprn e fits made =
    let none = none_broken (record_rules c own out v a (item.Adopt y)) fits in
    let at = made_at uprn y.blpu.uprn (Adopted y.from y.hop) e made in
    let x = some_passes (option_and_then (λ w. custody_at w y.blpu.uprn) (basis_of out y.from)) (is_released_to c y.hop)
    (not_false (was_released c out y.blpu.uprn y.from y.hop) none.1.1.1.1.1.1.0) in
    let w = and_then_gives (λ u. custody_at u y.blpu.uprn) (basis_of out y.from) x.0 x.1 in
    let later = less (hop_at v y.blpu.uprn) y.hop (not_false (nat_lt (hop_at v y.blpu.uprn) y.hop) none.1.1.1.1.1.1.1.0) in
    subst (IsAsked c own out v uprn) at.1
    (subst (λ n. IsAsked c own out v n (Adopted y.from y.hop)) at.0 (w.0, w.1, w.2 ∙ ap Some (released_told c y.hop x.0 x.2), later))

pub passes_as_asked_holds : PassesAsAsked
passes_as_asked_holds = record { after = custody_after; asked = change_asked }
