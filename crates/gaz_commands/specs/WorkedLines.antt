-- Worked examples on what commands ask and what they print.
use Rattle.std.specs.Prelude.{◌≡◌, ℕ, Bool, true, false, List, [], ◌∷◌, codes, Some, None, Ok}
use Rattle.std.specs.Prelude.{Err}
use Rattle.gaz_keeper.specs.declared.fault.ShelfFault.TheVariants as cause
use Rattle.gaz_steps.specs.Step.{Pose, Replied, Response, Submit, Submitted}
use Rattle.gaz_steps.specs.declared.answer.Answer.{Answer}
use Rattle.gaz_steps.specs.declared.answer.Answer.TheVariants as answer
use Rattle.gaz_steps.specs.declared.outcome.Outcome.TheVariants.{Applied, Rejected, Held}
use Rattle.gaz_steps.specs.declared.question.Question.TheVariants.{Extract, LookUp, Stand}
use Rattle.gaz_steps.specs.declared.refusal.Refusal.TheVariants as refusal
use Rattle.gaz_steps.specs.declared.standing.Standing.{Standing}
use Rattle.gaz_register.specs.declared.growth.GrowFault.TheVariants as growth
use Rattle.gaz_commands.specs.Asking.{asks_address, asks_extract, asks_standing, asks_to_submit}
use Rattle.gaz_commands.specs.Saying.{error_line, is_said_done, said_to, text_of, turned_away}
use Rattle.gaz_steps.specs.declared.refusal.DoorRefusal.TheVariants as door
use Rattle.gaz_commands.specs.declared.printed.PrintedLine.TheVariants as line
use Rattle.gaz_commands.specs.declared.said.CommandFault.{CommandFault}
use Rattle.gaz_commands.specs.declared.said.CommandFault.TheVariants as fault
use Rattle.gaz_commands.specs.declared.said.Said.{Said}
use Rattle.gaz_commands.specs.declared.said.Said.TheVariants as said

-- this is printed on standard output, and whether what was asked for was done
pub record Prints (says : Said) (out : List ℕ) (done : Bool) : Type 0 where
  pub out_is : text_of says ≡ out
  pub done_is : is_said_done says ≡ done

-- so it is of a response of the hub's
abbrev pub Tells : Response → List ℕ → Bool → Type 0
Tells response out done = Prints (said_to response) out done

-- and of the answer to a submission
abbrev pub Answers : Answer → List ℕ → Bool → Type 0
Answers told out done = Tells (Submitted told) out done

-- a response is a fault: nothing is printed there, and this line on standard error names it
pub record Fails (response : Response) (why : CommandFault) (text : List ℕ) : Type 0 where
  pub said_is : said_to response ≡ said.Failed why
  pub prints : Tells response [] false
  pub named : error_line why ≡ text

pub record WorkedSubmissions : Type 0 where
  pub new : Answers (answer.New Applied) (codes "new applied\n") true
  pub repeat : Answers (answer.Repeat Applied) (codes "repeat applied\n") true
  pub rejected : Answers (answer.New (Rejected 3 21))
      (codes "new rejected record 3 rule 21\n") false
  pub rejected_again : Answers (answer.Repeat (Rejected 3 21))
      (codes "repeat rejected record 3 rule 21\n") false
  pub held : Answers (answer.New (Held 1001 2)) (codes "new held wants 1001/2\n") false
  pub held_again : Answers (answer.Repeat (Held 1001 2)) (codes "repeat held wants 1001/2\n") false
  pub taken : Answers (answer.Taken (0 ∷ 10 ∷ 255 ∷ [])) (codes "taken 000aff\n") false
  pub unknown : Answers (answer.Refused (refusal.Door door.UnknownCustodian))
      (codes "refused 11\n") false
  pub no_volume : Answers (answer.Refused (refusal.Door door.BadVolume))
      (codes "refused 12\n") false
  pub too_large : Answers (answer.Refused (refusal.Door door.TooLarge)) (codes "refused 13\n") false
  pub other_profile : Answers (answer.Refused (refusal.Door door.UnknownProfile))
      (codes "refused 16\n") false
  pub not_received : Fails (Submitted (answer.Refused (refusal.NotReceived cause.Store)))
      fault.NotReceived (codes "gazhub: NotReceived\n")
  pub unsettled : Fails (Submitted (answer.Refused (refusal.ReceivedUnsettled cause.Memory)))
      fault.ReceivedUnsettled (codes "gazhub: ReceivedUnsettled\n")

-- custodian 1001, of whose files two are judged and one is held
abbrev pub standing : Standing
standing = record { custodian = 1001; held = 1; judged = 2; wants = Some (1001, 3) }

pub record WorkedQuestions : Type 0 where
  pub stands : Tells (Replied (Stand 1001) (Ok standing))
      (codes "custodian 1001 judged 2 held 1 wants 1001/3\n") true
  pub stands_for_good : Tells
      (Replied (Stand 1001) (Ok (record standing { held = 0; wants = None })))
      (codes "custodian 1001 judged 2 held 0 wants -\n") true
  pub unknown : Tells (Replied (Stand 9999) (Err (refusal.Door door.UnknownCustodian)))
      (codes "refused 11\n") false
  pub not_there : Tells (Replied (LookUp 42) (Ok None)) (codes "none\n") false
  pub extract : Tells (Replied (Extract 1001 1) (Ok (Some (codes "99,0\n"))))
      (codes "99,0\n") true
  pub not_reached : Tells (Replied (Extract 1001 1) (Ok None)) (codes "none\n") false
  pub no_volume : Tells (Replied (Extract 1001 0) (Err (refusal.Door door.BadVolume)))
      (codes "refused 12\n") false
  pub failed : Fails (Replied (LookUp 42) (Err (refusal.NotReceived cause.Memory)))
      fault.NotReceived (codes "gazhub: NotReceived\n")

pub record WorkedGrowth : Type 0 where
  pub extended : Prints (said.Line line.Extended) (codes "extended\n") true
  pub removed : Prints (said.Line (line.NotExtended growth.RemovedCustodian)) (codes "refused 61\n")
      false
  pub changed : Prints (said.Line (line.NotExtended growth.ChangedBlocks)) (codes "refused 62\n")
      false

pub record WorkedMigration : Type 0 where
  pub migrated : Prints (said.Line line.Migrated) (codes "migrated\n") true
  pub current : Prints (said.Line line.Current) (codes "current\n") true

pub record WorkedWords : Type 0 where
  pub submitted : asks_to_submit (codes "01001") (codes "1") (Some [])
      ≡ Err (turned_away door.UnknownCustodian)
  pub four_digits : asks_to_submit (codes "0042") (codes "000001") (Some [])
      ≡ Ok (Submit 42 1 [])
  pub code_foremost : asks_to_submit (codes "x") (codes "0") None
      ≡ Err (turned_away door.UnknownCustodian)
  pub volume_next : asks_to_submit (codes "1001") (codes "0") None
      ≡ Err (turned_away door.BadVolume)
  pub file_last : asks_to_submit (codes "1001") (codes "1") None
      ≡ Err (said.Failed fault.Unreadable)
  pub stands : asks_standing (codes "1001") ≡ Ok (Pose (Stand 1001))
  pub no_code : asks_standing (codes "12345") ≡ Err (turned_away door.UnknownCustodian)
  pub address : asks_address (codes "000000000042") ≡ Ok (Pose (LookUp 42))
  pub no_uprn : asks_address (codes "0000000000042") ≡ Err (said.Line line.Nothing)
  pub extract : asks_extract (codes "1001") (codes "2") ≡ Ok (Pose (Extract 1001 2))
  pub code_before_volume : asks_extract (codes "") (codes "")
      ≡ Err (turned_away door.UnknownCustodian)
  pub no_volume : asks_extract (codes "1001") (codes "1000000") ≡ Err (turned_away door.BadVolume)

pub record WorkedCommands : Type 0 where
  pub on_submissions : WorkedSubmissions
  pub on_questions : WorkedQuestions
  pub on_growth : WorkedGrowth
  pub on_migration : WorkedMigration
  pub on_words : WorkedWords
