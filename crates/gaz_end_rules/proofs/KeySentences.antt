-- That the tests of keys say what the sentences say, for keys of every kind.
use Rattle.std.proofs.Common.{◌≡◌, ℕ, true, false, not, ◌&&◌, refl, sym, ap, ◌∙◌, true≢false, is_some}
use Rattle.std.specs.Prelude.{Some, None}
use Rattle.std.specs.Option.{option_and_then}
use Rattle.std.specs.FinMap as fin
use Rattle.gaz_records.specs.declared.item.Item.TheVariants as item
use Rattle.gaz_records.specs.declared.key.Key.{Key}
use Rattle.gaz_records.specs.declared.key.Key.TheVariants as key
use Rattle.gaz_views.specs.View.{View, holds}
use Rattle.gaz_views.specs.Words.{has_children, same_lang, tied}
use Rattle.gaz_end_rules.specs.EndRules.{as_blpu, closed_under_lpi, is_closed, is_past, lacks_own_street, lacks_parent, leaves_lpi, leaves_parts, leaves_ties, parent_of, past_under_lpi}
use Rattle.gaz_end_rules.specs.Sentences.{ClosedUnderLpi, LacksOwnStreet, LacksParent, LeavesLpi, LeavesParts, LeavesTies, PastUnderLpi, TestsSay}
use Rattle.gaz_end_rules.proofs.Ties.{part_at, parts_from, parts_gives, tied_from, tied_gives}
use Rattle.gaz_end_rules.proofs.Approved.{on_from, on_gives, same_lang_is, same_lang_itself, some_from, some_gives}
use Rattle.gaz_end_rules.proofs.Sentences.{blpu_says, closed_from, closed_told, descriptor_says, found_says, lpi_at, lpi_told, names_past_says, nowhere_says, open_says, past_from, past_told, second_says, street_says, unheld_none}
use Rattle.gaz_end_rules.proofs.Booleans.{both_parts, joined, not_true, passes_some, some_passes}

leaves_told : (v : View) (k : Key) → leaves_lpi v k ≡ true → LeavesLpi v k
leaves_told v (key.Descriptor usrn lang) h =
    let parts = both_parts (not (holds v (key.Descriptor usrn lang)) && holds v (key.Street usrn)) _ h in
    let first = both_parts (not (holds v (key.Descriptor usrn lang))) _ parts.0 in
    let m = on_gives v usrn (Some lang) parts.1 in
    record {
      usrn = usrn;
      lang = lang;
      is = refl;
      gone = not_true _ first.0;
      street_there = first.1;
      lpi_key = m.key;
      lpi = m.lpi;
      lpi_there = lpi_told v m.key m.lpi m.at;
      on_it = m.its;
      in_it = same_lang_is _ _ m.speaks;
    }
leaves_told v (key.Street n) h = absurd (true≢false (sym h))
leaves_told v (key.Blpu n) h = absurd (true≢false (sym h))
leaves_told v (key.Xref t) h = absurd (true≢false (sym h))
leaves_told v (key.Lpi t) h = absurd (true≢false (sym h))

leaves_from : (v : View) (k : Key) → LeavesLpi v k → leaves_lpi v k ≡ true
leaves_from v k is =
    let gone : holds v (key.Descriptor is.usrn is.lang) ≡ false = ap (holds v) (sym is.is) ∙ is.gone in
    ap (leaves_lpi v) is.is
    ∙ joined _ _ (joined _ _ (ap not gone) is.street_there)
    (on_from v is.usrn (Some is.lang) is.lpi_key is.lpi (lpi_at v is.lpi_key is.lpi is.lpi_there) is.on_it (ap (λ x. same_lang x is.lang) is.in_it ∙ same_lang_itself is.lang))

parent_told : (v : View) (k : Key) → lacks_parent v k ≡ true → LacksParent v k
parent_told v (key.Blpu uprn) h =
    let p = some_passes (parent_of v uprn) (λ n. not (holds v (key.Blpu n))) h in
    let part = part_at v uprn p.0 p.1 in
    record { uprn = uprn; blpu = part.0; parent = p.0; is = refl; there = part.1; is_part = part.2; gone = unheld_none v (key.Blpu p.0) p.2 }
parent_told v (key.Street n) h = absurd (true≢false (sym h))
parent_told v (key.Descriptor n l) h = absurd (true≢false (sym h))
parent_told v (key.Xref t) h = absurd (true≢false (sym h))
parent_told v (key.Lpi t) h = absurd (true≢false (sym h))

parent_from : (v : View) (k : Key) → LacksParent v k → lacks_parent v k ≡ true
parent_from v k is =
    let there : fin.get v.items (key.Blpu is.uprn) ≡ Some (item.Blpu is.blpu) = ap (fin.get v.items) (sym is.is) ∙ is.there in
    ap (lacks_parent v) is.is
    ∙ passes_some (parent_of v is.uprn) (λ n. not (holds v (key.Blpu n))) is.parent
    (ap (λ o. option_and_then (λ b. b.parent) (option_and_then as_blpu o)) there ∙ is.is_part) (ap (λ o. not (is_some o)) is.gone)

parts_told : (v : View) (k : Key) → leaves_parts v k ≡ true → LeavesParts v k
parts_told v (key.Blpu uprn) h =
    let parts = both_parts (not (holds v (key.Blpu uprn))) (has_children v uprn) h in
    let part = parts_gives v uprn parts.1 in
    record { uprn = uprn; is = refl; gone = unheld_none v (key.Blpu uprn) parts.0; part_key = part.key; part = part.blpu; there = part.there; is_part = part.is_part }
parts_told v (key.Street n) h = absurd (true≢false (sym h))
parts_told v (key.Descriptor n l) h = absurd (true≢false (sym h))
parts_told v (key.Xref t) h = absurd (true≢false (sym h))
parts_told v (key.Lpi t) h = absurd (true≢false (sym h))

gone_from : (v : View) (k : Key) (uprn : ℕ) → k ≡ key.Blpu uprn → fin.get v.items k ≡ None → not (holds v (key.Blpu uprn)) ≡ true
gone_from v k uprn is gone = ap (λ q. not (holds v q)) (sym is) ∙ ap (λ o. not (is_some o)) gone

parts_from_key : (v : View) (k : Key) → LeavesParts v k → leaves_parts v k ≡ true
parts_from_key v k is = ap (leaves_parts v) is.is ∙ joined _ _ (gone_from v k is.uprn is.is is.gone) (parts_from v is.uprn is.part_key is.part is.there is.is_part)

ties_told : (v : View) (k : Key) → leaves_ties v k ≡ true → LeavesTies v k
ties_told v (key.Blpu uprn) h =
    let parts = both_parts (not (holds v (key.Blpu uprn))) (tied v uprn) h in
    let tie = tied_gives v uprn parts.1 in
    record { uprn = uprn; is = refl; gone = unheld_none v (key.Blpu uprn) parts.0; item_key = tie.key; item = tie.item; there = tie.there; names = tie.names }
ties_told v (key.Street n) h = absurd (true≢false (sym h))
ties_told v (key.Descriptor n l) h = absurd (true≢false (sym h))
ties_told v (key.Xref t) h = absurd (true≢false (sym h))
ties_told v (key.Lpi t) h = absurd (true≢false (sym h))

ties_from_key : (v : View) (k : Key) → LeavesTies v k → leaves_ties v k ≡ true
ties_from_key v k is = ap (leaves_ties v) is.is ∙ joined _ _ (gone_from v k is.uprn is.is is.gone) (tied_from v is.uprn is.item_key is.item is.there is.names)

own_street_told : (v : View) (k : Key) → lacks_own_street v k ≡ true → LacksOwnStreet v k
own_street_told v (key.Descriptor usrn lang) h =
    let parts = both_parts (holds v (key.Descriptor usrn lang)) _ h in
    record { usrn = usrn; lang = lang; is = refl; there = parts.0; gone = not_true _ parts.1 }
own_street_told v (key.Street n) h = absurd (true≢false (sym h))
own_street_told v (key.Blpu n) h = absurd (true≢false (sym h))
own_street_told v (key.Xref t) h = absurd (true≢false (sym h))
own_street_told v (key.Lpi t) h = absurd (true≢false (sym h))

own_street_from : (v : View) (k : Key) → LacksOwnStreet v k → lacks_own_street v k ≡ true
own_street_from v k is = ap (lacks_own_street v) is.is ∙ joined _ _ (ap (holds v) (sym is.is) ∙ is.there) (ap not is.gone)

past_under_told : (v : View) (k : Key) → past_under_lpi v k ≡ true → PastUnderLpi v k
past_under_told v (key.Blpu uprn) h =
    let parts = both_parts (is_past v uprn) _ h in
    let m = some_gives v uprn parts.1 in
    record { uprn = uprn; is = refl; past = past_told v uprn parts.0; lpi_key = m.key; lpi = m.lpi; lpi_there = lpi_told v m.key m.lpi m.at; its = m.its }
past_under_told v (key.Street n) h = absurd (true≢false (sym h))
past_under_told v (key.Descriptor n l) h = absurd (true≢false (sym h))
past_under_told v (key.Xref t) h = absurd (true≢false (sym h))
past_under_told v (key.Lpi t) h = absurd (true≢false (sym h))

past_under_from : (v : View) (k : Key) → PastUnderLpi v k → past_under_lpi v k ≡ true
past_under_from v k is =
    ap (past_under_lpi v) is.is
    ∙ joined _ _ (past_from v is.uprn is.past) (some_from v is.uprn is.lpi_key is.lpi (lpi_at v is.lpi_key is.lpi is.lpi_there) is.its)

closed_under_told : (v : View) (k : Key) → closed_under_lpi v k ≡ true → ClosedUnderLpi v k
closed_under_told v (key.Street usrn) h =
    let parts = both_parts (is_closed v usrn) _ h in
    let m = on_gives v usrn None parts.1 in
    record { usrn = usrn; is = refl; closed = closed_told v usrn parts.0; lpi_key = m.key; lpi = m.lpi; lpi_there = lpi_told v m.key m.lpi m.at; on_it = m.its }
closed_under_told v (key.Descriptor n l) h = absurd (true≢false (sym h))
closed_under_told v (key.Blpu n) h = absurd (true≢false (sym h))
closed_under_told v (key.Xref t) h = absurd (true≢false (sym h))
closed_under_told v (key.Lpi t) h = absurd (true≢false (sym h))

closed_under_from : (v : View) (k : Key) → ClosedUnderLpi v k → closed_under_lpi v k ≡ true
closed_under_from v k is =
    ap (closed_under_lpi v) is.is
    ∙ joined _ _ (closed_from v is.usrn is.closed) (on_from v is.usrn None is.lpi_key is.lpi (lpi_at v is.lpi_key is.lpi is.lpi_there) is.on_it refl)

pub tests_say_holds : TestsSay
tests_say_holds =
    record {
      second = second_says;
      blpu = blpu_says;
      ties = λ v k. (ties_told v k, ties_from_key v k);
      found = found_says;
      nowhere = nowhere_says;
      street = street_says;
      open_street = open_says;
      descriptor = descriptor_says;
      leaves = λ v k. (leaves_told v k, leaves_from v k);
      parent = λ v k. (parent_told v k, parent_from v k);
      parts = λ v k. (parts_told v k, parts_from_key v k);
      names_past = names_past_says;
      past_under_lpi = λ v k. (past_under_told v k, past_under_from v k);
      own_street = λ v k. (own_street_told v k, own_street_from v k);
      closed_under_lpi = λ v k. (closed_under_told v k, closed_under_from v k);
    }
