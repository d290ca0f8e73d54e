-- What the definitions come to on worked examples.
use Rattle.std.proofs.Common.{◌≡◌, ◌∙◌, ◌||◌, cond, ap, refl, false, List, [], ◌∷◌}
use Rattle.std.specs.Prelude.{Some, None, fold, codes}
use Rattle.std.specs.Ordering.{eq_by_cmp}
use Rattle.std.specs.FinMap as map
use Rattle.std.specs.FinMap.{get-entries}
use Rattle.std.specs.FinSet as set
use Rattle.gaz_records.proofs.KeyOrder.{keys_total}
use Rattle.gaz_ids.specs.declared.lang.Lang.TheVariants.{Eng}
use Rattle.gaz_ids.specs.declared.status.Status.TheVariants.{Approved}
use Rattle.gaz_records.specs.Keys.{key_cmp, key_of}
use Rattle.gaz_records.specs.declared.item.Item.{Item}
use Rattle.gaz_records.specs.declared.key.Key.{Key}
use Rattle.gaz_records.specs.declared.key.Key.TheVariants as key
pub use Rattle.gaz_views.proofs.Emptiness.{get_none, used_none}
use Rattle.gaz_views.proofs.Emptiness.{no_entries_yet}
use Rattle.gaz_views.specs.Examples.{WorkedExamples, WorkedJudgements, WorkedPages, WorkedViews, WorkedWords, all_kinds, lpi, no_more, one_street, put_in_turn, street}
use Rattle.gaz_views.specs.Judgements.{judgements}
use Rattle.gaz_views.specs.View.{View, empty_view, was_used, with_item}
use Rattle.gaz_views.specs.Words.{entries}

pub get_one : (k : Key) → map.get one_street.items k ≡ cond (eq_by_cmp key_cmp k (key.Street 101)) (Some (street 101)) None
get_one k = map.get-insert keys_total empty_view.items (key.Street 101) (street 101) k ∙ ap (cond (eq_by_cmp key_cmp k (key.Street 101)) (Some (street 101))) (get_none k)

pub used_one : (k : Key) → was_used one_street k ≡ (eq_by_cmp key_cmp k (key.Street 101) || false)
used_one k = set.contains-insert keys_total empty_view.used (key.Street 101) k ∙ ap (λ b. eq_by_cmp key_cmp k (key.Street 101) || b) (used_none k)

pub get_no_more : (k : Key) → map.get no_more.items k ≡ cond (eq_by_cmp key_cmp k (key.Street 101)) None (map.get one_street.items k)
get_no_more k = map.get-remove keys_total one_street.items (key.Street 101) k

-- the entries that putting these items one after another leaves
abbrev pub entries_put : List (Key × Item) → List Item → List (Key × Item)
entries_put es [] = es
entries_put es (i ∷ is) = entries_put (map.put key_cmp (key_of i) i es) is

entries_after : (v : View) (es : List (Key × Item)) → entries v ≡ es → (is : List Item) → entries (fold with_item v is) ≡ entries_put es is
entries_after v es e [] = e
entries_after v es e (i ∷ is) = entries_after (with_item v i) (map.put key_cmp (key_of i) i es) (map.entries-insert keys_total v.items (key_of i) i ∙ ap (map.put key_cmp (key_of i) i) e) is

these : (is : List Item) → entries (fold with_item empty_view is) ≡ entries_put [] is
these = entries_after empty_view [] no_entries_yet

-- the entries of a gazetteer of all kinds
pub in_turn : entries all_kinds ≡ entries_put [] put_in_turn
in_turn = these put_in_turn

judgements_hold : WorkedJudgements
unfolding judgements
judgements_hold = record {
  none_judged = refl;
  three_judged = refl;
  their_views = refl;
}

pub worked_examples_hold : WorkedExamples
worked_examples_hold = record { on_views = on_views; on_words = on_words; on_pages = on_pages; on_judgements = judgements_hold }
  where
    on_views : WorkedViews
    on_views = record {
      nothing_held = rw (get_none (key.Street 101)) refl;
      nothing_used = used_none (key.Street 101);
      is_there = get_one (key.Street 101);
      is_held = rw (get_one (key.Street 101)) refl;
      is_used = used_one (key.Street 101);
      other_not_held = rw (get_one (key.Street 102)) refl;
      other_not_used = used_one (key.Street 102);
      is_taken = rw (get_no_more (key.Street 101)) refl;
      stays_used = used_one (key.Street 101);
    }

    one_address : List Item
    one_address = lpi (codes "L4") 1002 Eng Approved 101 ∷ []

    on_words : WorkedWords
    on_words = record {
      its_addresses = rw in_turn refl;
      of_a_part = rw in_turn refl;
      of_none = rw in_turn refl;
      of_nothing = rw no_entries_yet refl;
      the_address = rw in_turn refl;
      no_address = rw in_turn refl;
      the_property = rw (get-entries all_kinds.items (key.Blpu 1002), in_turn) refl;
      no_property = rw (get-entries all_kinds.items (key.Blpu 1003), in_turn) refl;
      on_street = rw in_turn refl;
      on_street_in_welsh = rw in_turn refl;
      another_name_alone = rw in_turn refl;
      part_on_street = rw (these one_address) refl;
      not_in_welsh = rw (these one_address) refl;
      has_a_part = rw in_turn refl;
      has_no_part = rw in_turn refl;
    }

    on_pages : WorkedPages
    on_pages = record {
      first_street = rw in_turn refl;
      second_street = rw in_turn refl;
      no_more_streets = rw in_turn refl;
      welsh_first = rw in_turn refl;
      after_welsh = rw in_turn refl;
      properties = rw in_turn refl;
      cross_references = rw in_turn refl;
      two_addresses = rw in_turn refl;
      none_asked = refl;
    }
