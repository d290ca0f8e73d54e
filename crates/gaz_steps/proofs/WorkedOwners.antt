-- The worked examples on who can have a property.
use Rattle.std.proofs.Common.{◌≡◌, ◌==◌, ℕ, true, false, true≢false, refl, sym, ap, ◌∙◌, arith}
use Rattle.std.specs.Prelude.{IsSome, Some, None, option_map}
use Rattle.std.specs.FinMap as map
use Rattle.std.specs.Option.{option_and_then}
use Rattle.gaz_chains.specs.Finding.{asked}
use Rattle.gaz_extract.proofs.Examples.{found, these}
use Rattle.gaz_extract.specs.Examples.{two_in_register}
use Rattle.gaz_extract.specs.Finding.{as_blpu}
use Rattle.gaz_extract.specs.Lookups.{lookup, said_by}
use Rattle.gaz_records.proofs.KeyOrder.{keys_total}
use Rattle.gaz_records.specs.declared.key.Key.TheVariants as key
use Rattle.gaz_keeper.specs.Board.{Board, last_view}
use Rattle.gaz_keeper.specs.Keeper.{empty_content}
use Rattle.gaz_views.specs.View.{custody_at, empty_view, holds, with_release}
use Rattle.gaz_steps.specs.Chains.{holder_from}
use Rattle.gaz_steps.specs.Hubs.{door_of}
use Rattle.gaz_steps.specs.Owners.{can_have, said_by_known, told_by_holder}
use Rattle.gaz_steps.specs.WorkedChains.{gone_over, offered}
use Rattle.gaz_steps.specs.WorkedOwners.{WorkedOwners, strayed}
use Rattle.gaz_steps.proofs.ChainFine.{none_at_first}
use Rattle.gaz_steps.proofs.Headline.{may_begin}
use Rattle.gaz_steps.proofs.OwnNumbers.{all_own_holds}
use Rattle.gaz_steps.proofs.WorkedChains.{custodies, once_adopted, while_offered}
use Rattle.gaz_steps.proofs.Following.{found_here, told_further}
use Rattle.gaz_steps.proofs.Owners.{tells}
use Rattle.gaz_steps.proofs.WorkedReadings.{none_at}

elsewhere : IsSome (lookup strayed two_in_register 42)
elsewhere = simp (none_at, found, these)

there : holds (last_view strayed 1002) (key.Blpu 42) ≡ true
there = simp found

-- the strayed property is of a number that the district doesn't hold
cannot : can_have strayed two_in_register 42 1002 ≡ false
cannot = simp none_at_first

-- it went
gone : map.get (with_release empty_view 42 1002 1).items (key.Blpu 42) ≡ None
gone = map.get-remove keys_total empty_view.items (key.Blpu 42) (key.Blpu 42)

nothing_said : (B : Board) (c : ℕ) → map.get (last_view B c).items (key.Blpu 42) ≡ None → said_by B two_in_register 42 c ≡ None
nothing_said B c none = ap (λ o. option_map (tells B two_in_register 42 c) (option_and_then as_blpu o)) none

-- the county would hold the number, and has nothing to say
county_holds : holder_from strayed 42 1001 ≡ Some 1001
county_holds =
    let shown = λ (c : ℕ). custody_at (last_view strayed c) 42 in
    sym (found_here shown (λ c. c == 1001) 10000 0 1001 (omega arith) (sym (ap (asked shown true) (none_at_first 42))))

silent : told_by_holder strayed two_in_register 42 ≡ None
silent =
    let none = nothing_said strayed 1001 (none_at (key.Blpu 42)) in
    sym (told_further strayed two_in_register 42 1001 None refl none (sym (ap (option_and_then (said_by_known strayed two_in_register 42)) county_holds ∙ none)))

district_tells : told_by_holder gone_over two_in_register 42 ≡ said_by gone_over two_in_register 42 1002
district_tells =
    sym (told_further gone_over two_in_register 42 1001 (said_by gone_over two_in_register 42 1002) refl (nothing_said gone_over 1001 gone)
    (sym (ap (option_and_then (said_by_known gone_over two_in_register 42)) once_adopted)))

nobody_tells : told_by_holder offered two_in_register 42 ≡ None
nobody_tells =
    sym (told_further offered two_in_register 42 1001 None refl (nothing_said offered 1001 gone)
    (sym (ap (option_and_then (said_by_known offered two_in_register 42)) while_offered)))

pub worked_owners_hold : WorkedOwners
worked_owners_hold = record {
  county_can = simp none_at_first;
  district_cannot = simp none_at_first;
  nobody_unknown_can = simp none_at_first;
  county_tells = simp (found, these);
  in_no_block = refl;
  district_holds = simp custodies;
  county_holds_no_more = simp custodies;
  district_tells = district_tells;
  nobody_tells = nobody_tells;
  nobody_unknown_says = refl;
  owner_silent = silent;
  found_elsewhere = elsewhere;
  may_be_empty = may_begin (door_of two_in_register) empty_content refl refl;
  never_strayed = λ may. true≢false (sym (all_own_holds two_in_register empty_content.files strayed may.partial 1002 1 42 there) ∙ cannot);
}
