-- Worked examples on a register that grows beneath a hub.
use Rattle.std.specs.Prelude.{◌≡◌, true, false, List, [], ◌∷◌, ◌++◌, None, Some, Ok, codes}
use Rattle.gaz_changefile.specs.Profile.{profile_of}
use Rattle.gaz_register.specs.Growing.{Extends}
use Rattle.gaz_register.specs.Registers.{RegisterValue}
use Rattle.gaz_steps.specs.Examples.{gap_hub, late_hub}
use Rattle.gaz_steps.specs.Growth.{AbidesGrown, AreUnder, Period, SettledGrownRun, asked_in}
use Rattle.gaz_steps.specs.Growth.{first_ever, last_register, said_in}
use Rattle.gaz_steps.specs.Hubs.{door_of}
use Rattle.gaz_steps.specs.Runs.{ends_settled, first_received}
use Rattle.gaz_steps.specs.Sample.{sample_custodians}
use Rattle.gaz_steps.specs.Step.{Command, Pose, Replied, Response, Submit, Submitted, new_hub}
use Rattle.gaz_steps.specs.declared.answer.Answer.TheVariants.{New, Refused}
use Rattle.gaz_steps.specs.declared.outcome.Outcome.TheVariants.{Rejected}
use Rattle.gaz_steps.specs.declared.question.Question.TheVariants.{Settle}
use Rattle.gaz_steps.specs.declared.refusal.DoorRefusal.TheVariants.{UnknownCustodian}
use Rattle.gaz_steps.specs.declared.refusal.Refusal.TheVariants as refusal

-- a fourth custodian joins
abbrev pub with_new_town : RegisterValue
with_new_town =
    sample_custodians
    ++ record {
      code = 1004;
      name = codes "New Town";
      own = record { uprn = []; usrn = (400, 499) ∷ [] };
    }
    ∷ []

-- it sends an empty file
abbrev pub sends : List Command
sends = Submit 1004 1 [] ∷ []

abbrev pub refused : List Response
refused = Submitted (Refused (refusal.Door UnknownCustodian)) ∷ []

abbrev pub answered : List Response
answered = Submitted (New (Rejected 1 1)) ∷ []

-- before it joined, and again afterwards
abbrev pub sends_twice : List Period
sends_twice =
    record { register = sample_custodians; commands = sends; responses = refused }
    ∷ record { register = with_new_town; commands = sends; responses = answered } ∷ []

-- it is told to settle before it joined, and nothing is asked afterwards
abbrev pub settles_first : List Period
settles_first =
    record {
      register = sample_custodians;
      commands = Pose Settle ∷ [];
      responses = Replied Settle (Ok tt) ∷ [];
    }
    ∷ record { register = with_new_town; commands = []; responses = [] } ∷ []

pub record WorkedGrowth : Type 0 where
  pub joins : Extends sample_custodians with_new_town
  pub never_leaves : Extends with_new_town sample_custodians → ⊥
  pub last : last_register sample_custodians sends_twice ≡ with_new_town
  pub last_of_none : last_register sample_custodians [] ≡ sample_custodians
  -- a file that was refused for an unknown custodian is none; the same one afterwards is the first
  pub refused_is_none : first_received (door_of sample_custodians) (1004, 1) sends refused ≡ None
  pub first : profile_of [] ≡ None → first_ever (1004, 1) sends_twice ≡ Some []
  pub nothing_else : first_ever (1003, 1) sends_twice ≡ None
  pub of_none : first_ever (1004, 1) [] ≡ None
  -- all that was asked and said; and the two are under no one register
  pub asked : asked_in sends_twice ≡ sends ++ sends
  pub said : said_in sends_twice ≡ refused ++ answered
  -- the last answer of the second settles, that of the first doesn't, and one that asks nothing
  -- behind them changes nothing
  pub settles : ends_settled (said_in sends_twice) ≡ true
  pub refused_settles_nothing : ends_settled refused ≡ false
  pub settles_still : ends_settled (said_in (sends_twice
      ++ record { register = with_new_town; commands = []; responses = [] } ∷ [])) ≡ true
  pub under_two : AreUnder with_new_town sends_twice → ⊥
  pub under_one : AreUnder sample_custodians
      (record { register = sample_custodians; commands = sends; responses = refused } ∷ [])
  -- a hub that has it not doesn't abide
  pub never_lost : profile_of [] ≡ None
      → AbidesGrown sample_custodians new_hub sends_twice new_hub → ⊥
  -- settled before the register grew, a hub stands there after it; one that isn't settled comes of
  -- no such periods
  pub settled : SettledGrownRun with_new_town gap_hub
  pub settled_by : settled.periods ≡ settles_first
  pub never_unsettled : SettledGrownRun with_new_town late_hub → ⊥
