-- Worked examples of the record rules, computed from the definitions, and files for more of them.
use Rattle.std.specs.Prelude.{◌≡◌, ℕ, true, false, List, [], ◌∷◌, Option, Some, None, codes}
use Rattle.gaz_ids.specs.declared.lang.Lang.TheVariants.{Cym, Eng}
use Rattle.gaz_ids.specs.declared.status.Status.TheVariants.{Alternative, Approved}
use Rattle.gaz_records.specs.declared.item.Item.{Item}
use Rattle.gaz_changefile.specs.Reading.{Reading, Good}
use Rattle.gaz_changefile.specs.declared.action.Action.{Action}
use Rattle.gaz_changefile.specs.declared.action.Action.TheVariants.{Insert, Update, Delete}
use Rattle.gaz_changefile.specs.declared.change.Change.{Change}
use Rattle.gaz_views.specs.Examples.{blpu, council_tax, lpi, name, no_more, one_street, street}
use Rattle.gaz_views.specs.View.{View, empty_view, with_item}
use Rattle.gaz_register.specs.Registers.{Blocks}
use Rattle.gaz_changefile.specs.Rules.{first_broken}
use Rattle.gaz_rules.specs.Rules.{is_outside, record_rules, stays}

-- streets 100 to 199 and 300, properties 1000 to 1999
abbrev pub own : Blocks
own = record { uprn = (1000, 1999) ∷ []; usrn = (100, 199) ∷ (300, 300) ∷ [] }

-- the least record rule that doing this to an item breaks on a view of custodian 1001, without a
-- basis line
abbrev pub broken : View → Action → Item → Option ℕ
broken v a i = first_broken (record_rules 1001 own [] v a i)

-- of streets, where a rule is broken and where it just isn't; the views hold street 101, or held
-- it, or never did
pub record WorkedRecordRules : Type 0 where
  pub below : broken empty_view Insert (street 99) ≡ Some 20
  pub first : broken empty_view Insert (street 100) ≡ None
  pub last : broken empty_view Insert (street 199) ≡ None
  pub above : broken empty_view Insert (street 200) ≡ Some 20
  pub second_block : broken empty_view Insert (street 300) ≡ None
  pub used_again : broken one_street Insert (street 101) ≡ Some 21
  pub used_and_taken : broken no_more Insert (street 101) ≡ Some 21
  pub never_used : broken one_street Insert (street 102) ≡ None
  pub updates_nothing : broken one_street Update (street 102) ≡ Some 22
  pub updates_what_was_taken : broken no_more Update (street 101) ≡ Some 22
  pub updates : broken one_street Update (street 101) ≡ None
  pub deletes_nothing : broken one_street Delete (street 102) ≡ Some 22
  pub streets_stay : broken one_street Delete (street 101) ≡ Some 23
  pub updates_outside : broken one_street Update (street 99) ≡ Some 20
  pub deletes_outside : broken one_street Delete (street 99) ≡ Some 20

-- the rules that depend on the kind of an item
pub record WorkedKinds : Type 0 where
  pub below : is_outside own empty_view (blpu 999 None) ≡ true
  pub first : is_outside own empty_view (blpu 1000 None) ≡ false
  pub of_any_street : is_outside own empty_view (name 99 Eng) ≡ false
  pub of_any_property : is_outside own empty_view (council_tax (codes "X1") 999) ≡ false
  pub blpus_stay : stays (blpu 1000 None) ≡ true
  pub descriptors_go : stays (name 101 Eng) ≡ false
  pub addresses_go : stays (lpi (codes "L1") 1001 Eng Approved 101) ≡ false

-- a view with an English address of property 1001 on street 101
abbrev pub one_address : View
one_address = with_item empty_view (lpi (codes "L1") 1001 Eng Approved 101)

abbrev pub one_reference : View
one_reference = with_item empty_view (council_tax (codes "X1") 1001)

-- of what a text names, which keeps its property, and an address its language
pub record WorkedTexts : Type 0 where
  pub of_another_property : broken one_address Update (lpi (codes "L1") 1002 Eng Approved 101)
      ≡ Some 24
  pub in_another_language : broken one_address Update (lpi (codes "L1") 1001 Cym Approved 101)
      ≡ Some 24
  pub another_name : broken one_address Update (lpi (codes "L1") 1001 Eng Alternative 101) ≡ None
  pub on_another_street : broken one_address Update (lpi (codes "L1") 1001 Eng Approved 102) ≡ None
  pub taken_as_another : broken one_address Delete (lpi (codes "L1") 1002 Eng Approved 101) ≡ None
  pub reference_to_another : broken one_reference Update (council_tax (codes "X1") 1002) ≡ Some 24
  pub reference_to_the_same : broken one_reference Update (council_tax (codes "X1") 1001) ≡ None
  pub same_text_of_another_kind : broken one_address Insert (council_tax (codes "L1") 1001) ≡ None

-- ---- files

-- a file with these changes, and no basis
abbrev pub file_of : List Change → Reading
file_of changes = Good (record {
  date = record { year = 2024; month = 1; day = 2 };
  bases = [];
  changes = changes;
})

-- record 2 of a file inserts street 101
abbrev pub insertion : Change
insertion = record { place = 2; action = Insert; item = street 101 }

-- record 3 does it again
abbrev pub again : Change
again = record { place = 3; action = Insert; item = street 101 }
