-- Worked examples on who can have a property, and on what a hub's content may be.
use Rattle.std.specs.Prelude.{◌≡◌, ◌==◌, true, false, [], ◌∷◌, None, IsSome, if◌then◌else◌}
use Rattle.gaz_extract.specs.Examples.{county, two_custodians, two_in_register}
use Rattle.gaz_extract.specs.Lookups.{lookup, said_by}
use Rattle.gaz_keeper.specs.Board.{Board}
use Rattle.gaz_keeper.specs.Keeper.{Content, empty_content}
use Rattle.gaz_views.specs.declared.verdict.Verdict.TheVariants.{Applied}
use Rattle.gaz_steps.specs.Hubs.{MayHave, door_of}
use Rattle.gaz_steps.specs.Owners.{can_have, said_by_known, told_by_holder}
use Rattle.gaz_steps.specs.WorkedChains.{gone_over, offered}

-- the county's view stands as the district's, with a property of the county's block
abbrev pub strayed : Board
strayed = λ c. if c == 1002 then record { verdict = Applied; view = county } ∷ [] else []

abbrev pub strayed_content : Content
strayed_content =
    record { files = empty_content.files; board = strayed; working = empty_content.working }

pub record WorkedOwners : Type 0 where
  pub county_can : can_have two_custodians two_in_register 42 1001 ≡ true
  pub district_cannot : can_have two_custodians two_in_register 42 1002 ≡ false
  pub nobody_unknown_can : can_have two_custodians two_in_register 42 9998 ≡ false
  pub county_tells : told_by_holder two_custodians two_in_register 42
      ≡ said_by two_custodians two_in_register 42 1001
  pub in_no_block : told_by_holder two_custodians two_in_register 200000 ≡ None
  -- a number that went over is asked for where it went
  pub district_holds : can_have gone_over two_in_register 42 1002 ≡ true
  pub county_holds_no_more : can_have gone_over two_in_register 42 1001 ≡ false
  pub district_tells : told_by_holder gone_over two_in_register 42
      ≡ said_by gone_over two_in_register 42 1002
  pub nobody_tells : told_by_holder offered two_in_register 42 ≡ None
  pub nobody_unknown_says : said_by_known two_custodians two_in_register 42 9998 ≡ None
  -- on a board that isn't partial another may have it
  pub owner_silent : told_by_holder strayed two_in_register 42 ≡ None
  pub found_elsewhere : IsSome (lookup strayed two_in_register 42)
  pub may_be_empty : MayHave (door_of two_in_register) empty_content
  pub never_strayed : MayHave (door_of two_in_register) strayed_content → ⊥
