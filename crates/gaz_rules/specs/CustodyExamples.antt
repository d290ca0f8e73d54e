-- Worked examples of the rules on numbers that pass between custodians, computed from the
-- definitions.
use Rattle.std.specs.Prelude.{◌≡◌, ℕ, List, [], ◌∷◌, Option, Some, None, codes}
use Rattle.gaz_records.specs.declared.item.Item.{Item}
use Rattle.gaz_records.specs.declared.item.Item.TheVariants as item
use Rattle.gaz_records.specs.declared.key.Key.TheVariants as key
use Rattle.gaz_changefile.specs.declared.action.Action.TheVariants.{Insert, Update, Delete}
use Rattle.gaz_views.specs.CustodyExamples.{alone}
use Rattle.gaz_views.specs.Examples.{blpu, council_tax, one_street, street}
use Rattle.gaz_views.specs.View.{View, empty_view, with_adoption, with_item, with_release}
use Rattle.gaz_rules.specs.CustodyRules.{adopt_breach, release_breach}
use Rattle.gaz_rules.specs.Examples.{broken, one_reference, own}
use Rattle.gaz_rules.specs.Rules.{delete_breach, insert_breach, record_rules}
use Rattle.gaz_changefile.specs.Rules.{first_broken}
use Rattle.gaz_rules.specs.Rules.{update_breach}

-- number 1001 given up to 1002, and property 500, of none of the own blocks, taken from 1002
abbrev pub release : (uprn hop : ℕ) → Item
release uprn hop = item.Release (record { uprn = uprn; to = 1002; hop = hop })

abbrev pub adoption : ℕ → Item
adoption hop = item.Adopt (record { blpu = alone; from = 1002; hop = hop })

-- a view in which property 1001 stands
abbrev pub with_1001 : View
with_1001 = with_item empty_view (blpu 1001 None)

-- it was given up
abbrev pub without_1001 : View
without_1001 = with_release with_1001 1001 1002 1

-- a view in which property 500 was taken from 1002 at the first hop, or at a later one
abbrev pub with_500 : ℕ → View
with_500 hop = with_adoption empty_view alone 1002 hop

-- rule 20 asks who holds the number, and rule 40 for the next hop; that the key was used is no
-- fault of a release, nor that its BLPU isn't there
pub record WorkedReleases : Type 0 where
  pub there : broken with_1001 Insert (release 1001 1) ≡ None
  pub never_there : broken empty_view Insert (release 1001 1) ≡ None
  pub of_no_block : broken empty_view Insert (release 999 1) ≡ Some 20
  pub released_before : broken without_1001 Insert (release 1001 2) ≡ Some 20
  pub too_late_a_hop : broken with_1001 Insert (release 1001 2) ≡ Some 40
  pub adopted : broken (with_500 1) Insert (release 500 2) ≡ None
  pub at_its_own_hop : broken (with_500 1) Insert (release 500 1) ≡ Some 40
  pub after_later_hop : broken (with_500 7) Insert (release 500 8) ≡ None
  pub as_an_update : broken empty_view Update (release 1001 1) ≡ None
  pub as_a_deletion : broken with_1001 Delete (release 1001 1) ≡ None

-- what may become of a BLPU whose number passed on
pub record WorkedHolders : Type 0 where
  pub gone : broken without_1001 Insert (blpu 1001 None) ≡ Some 20
  pub gone_changed : broken without_1001 Update (blpu 1001 None) ≡ Some 20
  pub another : broken without_1001 Insert (blpu 1002 None) ≡ None
  pub of_no_block : broken empty_view Update (blpu 500 None) ≡ Some 20
  pub adopted : broken (with_500 1) Update (blpu 500 None) ≡ None
  pub adopted_again : broken (with_500 1) Insert (blpu 500 None) ≡ Some 21
  pub adopted_deleted : broken (with_500 1) Delete (blpu 500 None) ≡ Some 23

-- the least record rule that an adoption breaks in a file that rests on these views
abbrev pub adopts : List (ℕ × View) → View → Item → Option ℕ
adopts others v i = first_broken (record_rules 1001 own others v Insert i)

-- the view of custodian 1002, in which 500 is given up to this custodian at this hop
abbrev pub gives : (to hop : ℕ) → ℕ × View
gives to hop = (1002, with_release empty_view 500 to hop)

-- rule 41 asks for the release on a basis line, and rule 42 that it is none of the past
pub record WorkedAdoptions : Type 0 where
  pub released : adopts (gives 1001 1 ∷ []) empty_view (adoption 1) ≡ None
  pub no_basis : adopts [] empty_view (adoption 1) ≡ Some 41
  pub basis_of_another : adopts ((1003, with_release empty_view 500 1001 1) ∷ []) empty_view
      (adoption 1) ≡ Some 41
  pub second_basis : adopts ((1003, empty_view) ∷ gives 1001 1 ∷ []) empty_view (adoption 1) ≡ None
  pub not_released : adopts ((1002, empty_view) ∷ []) empty_view (adoption 1) ≡ Some 41
  pub to_another : adopts (gives 1003 1 ∷ []) empty_view (adoption 1) ≡ Some 41
  pub at_a_later_hop : adopts (gives 1001 2 ∷ []) empty_view (adoption 1) ≡ Some 41
  pub at_an_earlier_hop : adopts (gives 1001 1 ∷ []) empty_view (adoption 2) ≡ Some 41
  pub taken_back : adopts ((1002, with_adoption empty_view alone 1001 1) ∷ []) empty_view
      (adoption 1) ≡ Some 41
  pub twice : adopts (gives 1001 1 ∷ []) (with_500 1) (adoption 1) ≡ Some 42
  pub after_a_later_hop : adopts (gives 1001 1 ∷ []) (with_500 3) (adoption 1) ≡ Some 42
  pub after_an_earlier_hop : adopts (gives 1001 4 ∷ []) (with_500 3) (adoption 4) ≡ None
  pub used : adopts (gives 1001 1 ∷ []) (with_item empty_view (item.Blpu alone)) (adoption 1) ≡ None

-- the least rule that each kind of change breaks, as the functions ask it that judge
pub record WorkedBreaches : Type 0 where
  pub released : release_breach own with_1001 1001 1 ≡ None
  pub released_too_late : release_breach own with_1001 1001 2 ≡ Some 40
  pub released_of_no_block : release_breach own empty_view 999 2 ≡ Some 20
  pub adopted : adopt_breach 1001 empty_view (gives 1001 1 ∷ []) 500 1002 1 ≡ None
  pub adopted_unreleased : adopt_breach 1001 empty_view [] 500 1002 1 ≡ Some 41
  pub adopted_twice : adopt_breach 1001 (with_500 1) (gives 1001 1 ∷ []) 500 1002 1 ≡ Some 42
  pub inserted : insert_breach one_street (key.Street 102) ≡ None
  pub inserted_again : insert_breach one_street (key.Street 101) ≡ Some 21
  pub updated : update_breach one_street (key.Street 101) (street 101) ≡ None
  pub updated_nothing : update_breach one_street (key.Street 102) (street 102) ≡ Some 22
  pub moved : update_breach one_reference (key.Xref (codes "X1")) (council_tax (codes "X1") 1002)
      ≡ Some 24
  pub deleted : delete_breach one_reference (key.Xref (codes "X1"))
      (council_tax (codes "X1") 1001) ≡ None
  pub deleted_nothing : delete_breach one_street (key.Street 102) (street 102) ≡ Some 22
  pub deleted_what_stays : delete_breach one_street (key.Street 101) (street 101) ≡ Some 23

pub record WorkedPassing : Type 0 where
  pub on_releases : WorkedReleases
  pub on_holders : WorkedHolders
  pub on_adoptions : WorkedAdoptions
  pub on_breaches : WorkedBreaches
