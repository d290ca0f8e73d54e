-- What the definitions come to on worked examples.
use Rattle.std.proofs.Common.{◌≡◌, ◌∙◌, ◌<◌, ◌^◌, ℕ, true, false, cond, true≢false, ap, sym, refl, arith, lit<, List, [], ◌∷◌, length, get_or}
use Rattle.std.specs.Prelude.{Some, None, fold, codes, decimal}
use Rattle.std.proofs.lemmas.Fmt.{decimal-digits_value}
use Rattle.std.specs.Str.{all_ascii_digits}
use Rattle.std.specs.Str.Parse.{digits_value}
use Rattle.gaz_ids.proofs.Numerals.{own}
use Rattle.gaz_ids.specs.declared.status.Status.TheVariants.{Approved}
use Rattle.std.specs.FinMap as map
use Rattle.csv.specs.Writing.{fields_text, escaped, is_blank}
use Rattle.gaz_rows.specs.Rows.{lines_of}
use Rattle.gaz_records.proofs.KeyOrder.{keys_total}
use Rattle.gaz_records.specs.Keys.{key_cmp, key_of}
use Rattle.gaz_records.specs.declared.item.Item.{Item}
use Rattle.gaz_records.specs.declared.key.Key.{Key}
use Rattle.gaz_views.specs.View.{View, empty_view, with_item}
use Rattle.gaz_views.specs.Words.{entries}
use Rattle.gaz_views.proofs.Emptiness.{get_none}
use Rattle.gaz_views.proofs.Trees.{no_entries}
use Rattle.std.proofs.lemmas.Map.Lookups.{exact_unsigned}
use Rattle.std.specs.declared.cmp.Ordering.{Ordering}
use Rattle.std.specs.declared.cmp.Ordering.TheVariants.{Less, Equal, Greater}
use Rattle.std.specs.Ordering.{is_eq, nat_cmp}
use Rattle.gaz_extract.specs.Closing.{is_closed_elsewhere}
use Rattle.gaz_extract.specs.Examples.{WorkedClosings, WorkedExamples, WorkedExtracts, WorkedLines, WorkedLookups, two_custodians, two_in_register}
use Rattle.gaz_extract.specs.Remembering.{AreRight}

-- the entries that putting these items one after another leaves
abbrev entries_put : List (Key × Item) → List Item → List (Key × Item)
entries_put es [] = es
entries_put es (i ∷ is) = entries_put (map.put key_cmp (key_of i) i es) is

entries_after : (v : View) (es : List (Key × Item)) → entries v ≡ es → (is : List Item) → entries (fold with_item v is) ≡ entries_put es is
entries_after v es e [] = e
entries_after v es e (i ∷ is) = entries_after (with_item v i) (map.put key_cmp (key_of i) i es) (map.entries-insert keys_total v.items (key_of i) i ∙ ap (map.put key_cmp (key_of i) i) e) is

no_entries_yet : entries empty_view ≡ []
unfolding empty_view
no_entries_yet = no_entries _ _

pub these : (is : List Item) → entries (fold with_item empty_view is) ≡ entries_put [] is
these = entries_after empty_view [] no_entries_yet

pub found : (is : List Item) (k : Key) → map.get (fold with_item empty_view is).items k ≡ map.find key_cmp k (entries_put [] is)
found is k = map.get-entries (fold with_item empty_view is).items k ∙ ap (map.find key_cmp k) (these is)

-- what digits say is written as those digits
written : (ds : List ℕ) → all_ascii_digits ds ≡ true → 0 < length ds → (get_or ds 0 0 ≡ 48 → length ds ≡ 1) → digits_value 10 ds < 2 ^ 64 → decimal (digits_value 10 ds) ≡ ds
written = decimal-digits_value own

zero_written : decimal 0 ≡ codes "0"
zero_written = written (codes "0") refl (lit< tt) (λ e. refl) (lit< tt)

one_written : decimal 1 ≡ codes "1"
one_written = written (codes "1") refl (lit< tt) (λ e. refl) (lit< tt)

two_written : decimal 2 ≡ codes "2"
two_written = written (codes "2") refl (lit< tt) (λ e. refl) (lit< tt)

three_written : decimal 3 ≡ codes "3"
three_written = written (codes "3") refl (lit< tt) (λ e. refl) (lit< tt)

four_written : decimal 4 ≡ codes "4"
four_written = written (codes "4") refl (lit< tt) (λ e. refl) (lit< tt)

five_written : decimal 5 ≡ codes "5"
five_written = written (codes "5") refl (lit< tt) (λ e. refl) (lit< tt)

six_written : decimal 6 ≡ codes "6"
six_written = written (codes "6") refl (lit< tt) (λ e. refl) (lit< tt)

seven_written : decimal 7 ≡ codes "7"
seven_written = written (codes "7") refl (lit< tt) (λ e. refl) (lit< tt)

twelve_written : decimal 12 ≡ codes "12"
twelve_written = written (codes "12") refl (lit< tt) (λ e. absurd (omega arith)) (lit< tt)

fourteen_written : decimal 14 ≡ codes "14"
fourteen_written = written (codes "14") refl (lit< tt) (λ e. absurd (omega arith)) (lit< tt)

forty_two_written : decimal 42 ≡ codes "42"
forty_two_written = written (codes "42") refl (lit< tt) (λ e. absurd (omega arith)) (lit< tt)

high_street_written : decimal 101 ≡ codes "101"
high_street_written = written (codes "101") refl (lit< tt) (λ e. absurd (omega arith)) (lit< tt)

county_written : decimal 1001 ≡ codes "1001"
county_written = written (codes "1001") refl (lit< tt) (λ e. absurd (omega arith)) (lit< tt)

street_written : decimal 150 ≡ codes "150"
street_written = written (codes "150") refl (lit< tt) (λ e. absurd (omega arith)) (lit< tt)

district_written : decimal 1002 ≡ codes "1002"
district_written = written (codes "1002") refl (lit< tt) (λ e. absurd (omega arith)) (lit< tt)

house_written : decimal 100001 ≡ codes "100001"
house_written = written (codes "100001") refl (lit< tt) (λ e. absurd (omega arith)) (lit< tt)

on_lines : WorkedLines
on_lines = record {
  a_flat = simp (twelve_written, fourteen_written);
  a_house = simp fourteen_written;
  no_postcode = simp seven_written;
  no_numbers = refl;
  no_town = simp seven_written;
}

on_lookups : WorkedLookups
on_lookups = record {
  own_street = simp (found, these) (ap (λ (t : List ℕ). Some (record { custodian = 1001; uprn = 42; status = Approved; line = Some t })) on_lines.a_flat);
  street_of_another = simp (found, these) (ap (λ (t : List ℕ). Some (record { custodian = 1002; uprn = 100001; status = Approved; line = Some t })) on_lines.no_postcode);
  nowhere = simp (found, these);
  no_descriptor = simp (found, these, get_none, no_entries_yet);
  no_address = simp (found, these, get_none, no_entries_yet);
}

shut : is_closed_elsewhere two_custodians two_in_register 1002 150 ≡ true
shut = simp (found, these)

stays : is_closed_elsewhere two_custodians two_in_register 1001 150 ≡ false
stays = simp (found, these)

told_right : AreRight two_custodians two_in_register 1002 ((150, true) ∷ [])
told_right usrn told e = here (nat_cmp usrn 150) refl e
  where
    here : (o : Ordering) → nat_cmp usrn 150 ≡ o → cond (is_eq o) (Some true) None ≡ Some told → told ≡ is_closed_elsewhere two_custodians two_in_register 1002 usrn
    here Less is e = cc
    here Equal is e =
        let same : usrn ≡ 150 = exact_unsigned usrn 150 is in
        let said : told ≡ true = cc in
        said ∙ sym shut ∙ ap (is_closed_elsewhere two_custodians two_in_register 1002) (sym same)
    here Greater is e = cc

on_closings : WorkedClosings
on_closings = record {
  one_address = simp (found, these);
  county_road_shut = shut;
  own_street_stays = stays;
  high_street_open = simp (found, these);
  nobodys_street = simp (found, these);
  nothing_asked = λ usrn told e. cc;
  asked_by_the_district = told_right;
  never_open = λ right. true≢false (sym shut ∙ sym (right 150 false refl));
  never_for_the_county = λ right. true≢false (right 150 true refl ∙ stays);
}

on_extracts : WorkedExtracts
unfolding fields_text escaped is_blank lines_of
on_extracts = record {
  of_the_district = simp (found, these, zero_written, one_written, two_written, seven_written, street_written, district_written, house_written);
  earlier = simp (these, zero_written, one_written, two_written, three_written, four_written, five_written, six_written, seven_written, twelve_written, fourteen_written, forty_two_written, high_street_written, street_written, county_written);
  last = simp (these, zero_written, one_written, two_written, three_written, four_written, five_written, six_written, seven_written, twelve_written, fourteen_written, forty_two_written, high_street_written, street_written, county_written);
  before_the_first = simp (no_entries_yet, zero_written, county_written);
  not_reached = refl;
  before_any = refl;
}

pub worked_examples_hold : WorkedExamples
worked_examples_hold = record { on_lines = on_lines; on_lookups = on_lookups; on_closings = on_closings; on_extracts = on_extracts }
