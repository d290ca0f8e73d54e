-- What a command does to a hub.
use Rattle.std.specs.Prelude.{◌≡◌, Result, Ok, Err}
use Rattle.gaz_keeper.specs.Keeper.{Seen}
use Rattle.gaz_steps.specs.Hubs.{MeetsDoor, door_of}
use Rattle.gaz_hub.specs.Seen.{hub_seen}
use Rattle.gaz_steps.specs.Step.{Command, Response}
use Rattle.gaz_hub.specs.Telling.{StepsTo}
use Rattle.gaz_hub.specs.declared.hub.Hub.{Hub}
use Rattle.gaz_commands.specs.Saying.{said_to}
use Rattle.gaz_commands.specs.declared.said.Said.{Said}

-- the hub answers by a step, and by its door, and what is said is that of its response
pub record IsAnswered {K : Type 0} (seen : K → Seen) (command : Command) (old new : Hub K)
    (said : Said) : Type 0 where
  pub response : Response
  pub steps : StepsTo (hub_seen seen) old.register old new command response
  pub door : MeetsDoor (door_of old.register) old.keeper new.keeper command response
  pub said_is : said ≡ said_to response

-- the hub is asked, or isn't and stays as it is
abbrev pub Obeys : {K : Type 0} → (K → Seen) → Result Command Said → Hub K → Hub K → Said → Type 0
Obeys seen (Ok command) old new said = IsAnswered seen command old new said
Obeys seen (Err at_once) old new said = (said ≡ at_once) × (new ≡ old)
