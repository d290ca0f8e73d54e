-- What the definitions on numbers that are passed on come to on worked examples.
use Rattle.std.proofs.Common.{◌≡◌, ◌≤◌, ◌<◌, ◌∙◌, ◌||◌, ℕ, Bool, true, false, cond, arith, refl, sym, ap, subst, [], ◌∷◌, is_some, unwrap_or}
use Rattle.std.specs.Prelude.{◌==◌, Option, Some, None}
use Rattle.std.proofs.lemmas.List.Elements.{All-cons, All-head, All-nil, All-tail}
use Rattle.std.specs.Cmp.{nat_cmp_total, unsigned_tied}
use Rattle.std.specs.FinMap as map
use Rattle.std.specs.FinSet as set
use Rattle.std.specs.List.{All}
use Rattle.std.specs.Ordering.{eq_by_cmp, nat_cmp}
use Rattle.gaz_histories.specs.Histories.{Version, Versions, standing_at, was_used_at}
use Rattle.gaz_records.proofs.KeyOrder.{keys_total}
use Rattle.gaz_records.specs.Keys.{key_cmp}
use Rattle.gaz_records.specs.declared.item.Item.{Item}
use Rattle.gaz_records.specs.declared.item.Item.TheVariants as item
use Rattle.gaz_records.specs.declared.key.Key.{Key}
use Rattle.gaz_records.specs.declared.key.Key.TheVariants as key
use Rattle.gaz_views.specs.CustodyExamples.{alone}
use Rattle.gaz_views.proofs.Emptiness.{no_custody}
use Rattle.gaz_views.specs.View.{custody_at, empty_view, was_used}
use Rattle.gaz_views.specs.declared.custody.Custody.{Custody}
use Rattle.gaz_views.specs.declared.custody.Custody.TheVariants.{Adopted, Released}
use Rattle.gaz_standing.proofs.KeyHistories.{contains_at, get_at}
use Rattle.gaz_ledger.proofs.Becoming.{passed_after}
use Rattle.gaz_ledger.specs.Custodies.{IsPassing, passed_at, view_with}
use Rattle.gaz_ledger.specs.PassingExamples.{WorkedPassing, its_key, two_passings}

abbrev passings : Versions Custody
passings = (1, Some (Released 1002 1)) ∷ (3, Some (Adopted 1002 2)) ∷ []

abbrev of_number : ℕ → Versions Custody
of_number n = unwrap_or (cond (eq_by_cmp nat_cmp n 500) (Some passings) None) []

became : (n : ℕ) → passed_at two_passings n ≡ of_number n
became n = ap (λ (o : Option (Versions Custody)). unwrap_or o []) (map.get-insert nat_cmp_total map.empty 500 passings n ∙ ap (cond (eq_by_cmp nat_cmp n 500) (Some passings)) (map.get-empty nat_cmp n))

custody_there : (volume n : ℕ) → custody_at (view_with its_key two_passings volume) n ≡ standing_at (of_number n) volume
custody_there volume n = passed_after two_passings volume n ∙ ap (λ (vs : Versions Custody). standing_at vs volume) (became n)

abbrev standing : Versions Item
standing = (1, None) ∷ (3, Some (item.Blpu alone)) ∷ []

stood : (k : Key) → map.get its_key k ≡ cond (eq_by_cmp key_cmp k (key.Blpu 500)) (Some standing) None
stood k = map.get-insert keys_total map.empty (key.Blpu 500) standing k ∙ ap (cond (eq_by_cmp key_cmp k (key.Blpu 500)) (Some standing)) (map.get-empty key_cmp k)

item_there : (volume : ℕ) (k : Key) → map.get (view_with its_key two_passings volume).items k ≡ standing_at (unwrap_or (cond (eq_by_cmp key_cmp k (key.Blpu 500)) (Some standing) None) []) volume
item_there volume k = get_at its_key volume k ∙ ap (λ (o : Option (Versions Item)). standing_at (unwrap_or o []) volume) (stood k)

used_there : (volume : ℕ) (k : Key) → was_used (view_with its_key two_passings volume) k ≡ was_used_at (unwrap_or (cond (eq_by_cmp key_cmp k (key.Blpu 500)) (Some standing) None) []) volume
used_there volume k = contains_at its_key volume k ∙ ap (λ (o : Option (Versions Item)). was_used_at (unwrap_or o []) volume) (stood k)

abbrev Within : ℕ → Versions Custody → Type 0
Within n vs = All (λ (e : Version Custody). (0 < e.0) × (e.0 ≤ n)) vs

abbrev Settled : ℕ → Versions Custody → Type 0
Settled n vs = All (λ (e : Version Custody). e.0 ≤ n) vs

both_within : Within 3 passings
both_within =
    let one : (0 < 1) × (1 ≤ 3) = (omega arith, omega arith) in
    let three : (0 < 3) × (3 ≤ 3) = (omega arith, omega arith) in
    All-cons (λ (e : Version Custody). (0 < e.0) × (e.0 ≤ 3)) (1, Some (Released 1002 1)) ((3, Some (Adopted 1002 2)) ∷ []) one
    (All-cons (λ (e : Version Custody). (0 < e.0) × (e.0 ≤ 3)) (3, Some (Adopted 1002 2)) [] three (All-nil (λ (e : Version Custody). (0 < e.0) × (e.0 ≤ 3))))

alone_false : (b : Bool) → (b || false) ≡ false → b ≡ false
alone_false true e = e
alone_false false e = refl

passing_holds : IsPassing 2 two_passings (500 ∷ [])
passing_holds = record {
  within = λ n. subst (Within 3) (sym (became n)) (by_tie n (eq_by_cmp nat_cmp n 500));
  touched = λ n none. subst (Settled 2) (sym (became n)) (untouched n none);
}
  where
    by_tie : (n : ℕ) (b : Bool) → Within 3 (unwrap_or (cond b (Some passings) None) [])
    by_tie n true = both_within
    by_tie n false = All-nil (λ (e : Version Custody). (0 < e.0) × (e.0 ≤ 3))

    untouched : (n : ℕ) → ((n == 500) || false) ≡ false → Settled 2 (of_number n)
    untouched n none = subst (λ (t : Bool). Settled 2 (unwrap_or (cond t (Some passings) None) [])) (sym (unsigned_tied n 500 ∙ alone_false (n == 500) none)) (All-nil (λ (e : Version Custody). e.0 ≤ 2))

last_late : (n : ℕ) → Settled n passings → 3 ≤ n
last_late n all = All-head (λ (e : Version Custody). e.0 ≤ n) (3, Some (Adopted 1002 2)) [] (All-tail (λ (e : Version Custody). e.0 ≤ n) (1, Some (Released 1002 1)) ((3, Some (Adopted 1002 2)) ∷ []) all)

pub passing_examples : WorkedPassing
passing_examples = record {
  not_yet = custody_there 0 500;
  not_used_yet = used_there 0 (key.Blpu 500);
  released = custody_there 1 500;
  none_stands = ap is_some (item_there 1 (key.Blpu 500));
  but_is_used = used_there 1 (key.Blpu 500);
  still_released = custody_there 2 500;
  adopted = custody_there 3 500;
  stands = item_there 3 (key.Blpu 500);
  another_number = custody_there 3 501;
  within = passing_holds;
  touched_by_none = λ is. let late = last_late 2 (subst (Settled 2) (became 500) (is.touched 500 refl)) in omega arith;
  begins_too_late = λ is. let late = last_late 2 (λ i e there. (subst (Within 2) (became 500) (is.within 500) i e there).1) in omega arith;
  as_released = refl;
  as_adopted = refl;
  adopts_a_blpu = refl;
  not_put_back_yet = no_custody 500;
  put_back = map.get-insert nat_cmp_total empty_view.custody 500 (Released 1002 1) 500;
  put_back_used = set.contains-insert keys_total empty_view.used (key.Blpu 500) (key.Blpu 500);
  adopts_no_street = refl;
}
