-- Worked examples of numbers that are passed on, computed from the definitions.
use Rattle.std.specs.Prelude.{◌≡◌, true, false, Some, None}
use Rattle.std.specs.FinMap as map
use Rattle.gaz_ids.specs.declared.status.Status.TheVariants.{Approved}
use Rattle.gaz_records.specs.Blpus.{BlpuValue}
use Rattle.gaz_records.specs.declared.item.Item.TheVariants as item
use Rattle.gaz_records.specs.declared.key.Key.TheVariants as key
use Rattle.gaz_views.specs.Examples.{all_kinds, spring}
use Rattle.gaz_views.specs.Custody.{is_holding}
use Rattle.gaz_views.specs.View.{View, custody_at, empty_view, holds, hop_at}
use Rattle.gaz_views.specs.View.{was_used, with_adoption, with_release}
use Rattle.gaz_views.specs.Words.{tied}
use Rattle.gaz_views.specs.declared.custody.Custody.TheVariants.{Adopted, Released}

-- property 500, which stands alone
abbrev pub alone : BlpuValue
alone = record {
  uprn = 500;
  status = Approved;
  easting = 450000;
  northing = 250000;
  parent = None;
  postcode = None;
  start = spring;
  end = None;
}

-- number 500, in whose gazetteer nothing was ever put, given up to 1002 at the first hop
abbrev pub given_up : View
given_up = with_release empty_view 500 1002 1

-- property 500 taken from 1001 at the first hop, and given back at the second
abbrev pub taken : View
taken = with_adoption empty_view alone 1001 1

abbrev pub given_back : View
given_back = with_release taken 500 1001 2

pub record WorkedCustody : Type 0 where
  -- before anything, a number of one's own blocks is held, and no other
  pub own_held : is_holding true (custody_at empty_view 500) ≡ true
  pub other_not_held : is_holding false (custody_at empty_view 500) ≡ false
  pub no_hop : hop_at empty_view 500 ≡ 0
  -- a number that was given up isn't held, though it is of one's own blocks; its key is used
  pub is_given_up : custody_at given_up 500 ≡ Some (Released 1002 1)
  pub given_up_not_held : is_holding true (custody_at given_up 500) ≡ false
  pub given_up_used : was_used given_up (key.Blpu 500) ≡ true
  pub others_not_used : was_used given_up (key.Blpu 501) ≡ false
  pub others_held : is_holding true (custody_at given_up 501) ≡ true
  -- what was taken is held, though it is of no block of one's own, and stands
  pub is_taken : custody_at taken 500 ≡ Some (Adopted 1001 1)
  pub taken_held : is_holding false (custody_at taken 500) ≡ true
  pub taken_stands : map.get taken.items (key.Blpu 500) ≡ Some (item.Blpu alone)
  -- given back it stands no more
  pub is_given_back : custody_at given_back 500 ≡ Some (Released 1001 2)
  pub given_back_not_held : is_holding false (custody_at given_back 500) ≡ false
  pub given_back_stands_not : holds given_back (key.Blpu 500) ≡ false
  pub second_hop : hop_at given_back 500 ≡ 2

-- property 1001 is named by its addresses and its cross reference; 1003 by nothing
pub record WorkedTies : Type 0 where
  pub is_tied : tied all_kinds 1001 ≡ true
  pub part_is_tied : tied all_kinds 1002 ≡ true
  pub is_not_tied : tied all_kinds 1003 ≡ false
