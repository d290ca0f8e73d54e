-- Ways in which a hub is used over a keeper, whatever that is.
use Rattle.std.specs.Prelude.{◌≡◌, ℕ, List, [], ◌∷◌, Result, Ok, Err}
use Rattle.gaz_register.specs.Registers.{RegisterValue}
use Rattle.gaz_keeper.specs.Keeper.{Seen}
use Rattle.gaz_keeper.specs.declared.shelf.Shelf.{Ghosts}
use Rattle.gaz_shelf.specs.Mem.{seen_in as memory}
use Rattle.gaz_shelf.specs.declared.mem_shelf.MemShelf.{MemShelf}
use Rattle.gaz_mirror.specs.Mirrored.{seen_mirrored}
use Rattle.gaz_mirror.specs.declared.mirror.Mirror.{Mirror}
use Rattle.gaz_steps.specs.Hubs.{MeetsDoor, Runs, door_of}
use Rattle.gaz_hub.specs.Seen.{RemembersNothing, hub_seen}
use Rattle.gaz_steps.specs.Step.{Command, Pose, Replied, Response}
use Rattle.gaz_hub.specs.Telling.{RepliesTo}
use Rattle.gaz_hub.specs.declared.hub.Hub.{Hub}
use Rattle.gaz_steps.specs.declared.question.Question.TheVariants.{Settle}
use Rattle.gaz_steps.specs.declared.refusal.Refusal.{Refusal}
use Rattle.gaz_commands.specs.Saying.{said_to}
use Rattle.gaz_commands.specs.declared.said.Said.{Said}
use Rattle.gaz_exchange.specs.Conversing.{Conversation, Transfer}
use Rattle.gaz_exchange.specs.Exchanges.{commands_of, responses_of}
use Rattle.gaz_exchange.specs.declared.conversation.Served.{Served}
use Rattle.gaz_exchange.specs.declared.conversation.Stopped.{Stopped}
use Rattle.gaz_loaded.specs.Files.{OnlyReads}
use Rattle.gaz_stored.specs.Filling.{CanBeMirrored, RestsBare}
use Rattle.gaz_stored.specs.Meetings.{Meeting}
use Rattle.gaz_stored.specs.Serving.{Serves}
use Rattle.gaz_stored.specs.declared.attending.Unserved.{Unserved}

-- a way leads from one keeper to another, and on it a hub is asked this and says that
abbrev pub Way : Type 0 → Type 1
Way K = K → K → List Command → List Response → Type 0

-- a hub of this register was used so over a keeper
pub record GoesBy {K : Type 0} (seen : K → Seen) (register : RegisterValue) (way : Way K)
    (first last : K) : Type 0 where
  pub commands : List Command
  pub responses : List Response
  pub went : way first last commands responses
  pub harm : (seen last).unharmed → (seen first).unharmed
  pub trust : (seen last).trusted → (seen first).trusted
  -- which was a run of its steps, where the keeper stood for a partial run
  pub runs : RestsBare seen
      → ((seen first).unharmed → CanBeMirrored (door_of register) (seen first))
      → Runs (door_of register) (seen first) (seen last) commands responses

-- nothing is asked, and all stays as it is
pub record IsUnasked {K : Type 0} (first last : K) (commands : List Command)
    (responses : List Response) : Type 0 where
  pub still : last ≡ first
  pub unasked : commands ≡ []
  pub untold : responses ≡ []

-- ---- a call

-- a command is asked, and what is said is that of the response
pub record Answers {K : Type 0} (register : RegisterValue) (command : Command) (said : Said)
    (first last : K) (commands : List Command) (responses : List Response) : Type 0 where
  pub response : Response
  pub asked : commands ≡ command ∷ []
  pub told : responses ≡ response ∷ []
  pub says : said ≡ said_to response
  pub door : MeetsDoor (door_of register) first last command response

-- by what a call asks: a command, or nothing, where something is said at once
abbrev pub Asks : {K : Type 0} → RegisterValue → Result Command Said → Said → Way K
Asks register (Ok command) said first last commands responses =
    Answers register command said first last commands responses
Asks register (Err at_once) said first last commands responses =
    (said ≡ at_once) × IsUnasked first last commands responses

-- ---- with all of it at hand, where memory allows

-- a mirror of a keeper
abbrev pub MirrorOf : {K : Type 0} → Ghosts K → Type 0
MirrorOf {K} keeper = Mirror K MemShelf keeper (record { seen = memory })

-- a hub of the register begins over a mirror of a keeper, which is only read meanwhile
pub record BeginsOver {K : Type 0} (keeper : Ghosts K) (register : RegisterValue) (first : K)
    (begun : Hub (MirrorOf keeper)) : Type 0 where
  pub of_register : begun.register ≡ register
  pub remembers : RemembersNothing begun
  pub reads : OnlyReads (keeper.seen first) (keeper.seen begun.keeper.lower)

-- a conversation is held, of at most so many requests
pub record Converses {K : Type 0} (keeper : Ghosts K) (register : RegisterValue) (most : ℕ)
    (through : Transfer) (ended : Result Served Stopped) (first last : K) (commands : List Command)
    (responses : List Response) : Type 0 where
  pub begun : Hub (MirrorOf keeper)
  pub left : Hub (MirrorOf keeper)
  pub begins : BeginsOver keeper register first begun
  pub conversation : Conversation (door_of begun.register) most through
      (hub_seen seen_mirrored begun) (hub_seen seen_mirrored left) ended
  pub back : left.keeper.lower ≡ last
  pub asked : commands ≡ commands_of conversation.exchanges
  pub told : responses ≡ responses_of conversation.exchanges

-- all is settled, and then so many connections are answered, of which this came
pub record SettlesAndServes {K : Type 0} (keeper : Ghosts K) (register : RegisterValue)
    (most served : ℕ) (met : List Meeting) (first last : K) (commands : List Command)
    (responses : List Response) : Type 0 where
  pub settled : Result (Unit {0}) Refusal
  pub begun : Hub (MirrorOf keeper)
  pub mid : Hub (MirrorOf keeper)
  pub left : Hub (MirrorOf keeper)
  pub begins : BeginsOver keeper register first begun
  pub settles : RepliesTo (hub_seen seen_mirrored) begun.register begun mid Settle settled
  pub of_register : mid.register ≡ register
  pub serves : Serves seen_mirrored most served mid left met
  pub back : left.keeper.lower ≡ last
  pub asked : commands ≡ Pose Settle ∷ serves.commands
  pub told : responses ≡ Replied Settle settled ∷ serves.responses

-- by how it ended: where nobody was told where they come, nobody came
abbrev pub Attends : {K : Type 0} → Ghosts K → RegisterValue → ℕ → Result ℕ Unserved
    → List Meeting → Way K
Attends keeper register most (Ok served) met first last commands responses =
    SettlesAndServes keeper register most served met first last commands responses
Attends keeper register most (Err why) met first last commands responses =
    (met ≡ []) × IsUnasked first last commands responses
