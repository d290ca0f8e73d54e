-- Settling over a keeper: what a look at a custodian's next volume finds, and what judging adds.
use Rattle.std.specs.Prelude.{◌≡◌, ◌≤◌, ◌<◌, ◌+◌, ◌*◌, ◌⊎◌, ⊤, ℕ, nat_le, if◌then◌else◌, true}
use Rattle.std.specs.Prelude.{false, length, List, [], ◌∷◌, Option, Some, None, Result, Ok, Err}
use Rattle.std.specs.Prelude.{OnOk, IfOk, IfErr}
use Rattle.std.specs.FinMap as map
use Rattle.gaz_ids.specs.Limits.{last_volume}
use Rattle.gaz_changefile.specs.Contents.{Contents}
use Rattle.gaz_changefile.specs.Reading.{Good, Bad, Reading, reading}
use Rattle.gaz_register.specs.Registers.{RegisterValue}
use Rattle.gaz_keeper.specs.Board.{Board, reached}
use Rattle.gaz_keeper.specs.Keeper.{IsNotOpen, IsOpen, Seen}
use Rattle.gaz_keeper.specs.Received.{Received}
use Rattle.gaz_keeper.specs.declared.fault.ShelfFault.{ShelfFault}
use Rattle.gaz_keeper.specs.declared.fault.ShelfFault.TheVariants.{Store}
use Rattle.gaz_steps.specs.Hubs.{IsSoundFor, StandsFor, or_not_received, state_of}
use Rattle.gaz_steps.specs.Outcomes.{first_unreached, wants}
use Rattle.gaz_steps.specs.Standing.{Follows, NothingReady, next_reading, ready}
use Rattle.gaz_steps.specs.Step.{Door, blocks}
use Rattle.gaz_steps.specs.Stops.{IsLater, Stops}
use Rattle.gaz_steps.specs.declared.refusal.Refusal.{Refusal}
use Rattle.gaz_hub.specs.declared.looking.NextFile.{NextFile}
use Rattle.gaz_hub.specs.declared.looking.NextFile.TheVariants as file
use Rattle.gaz_hub.specs.declared.looking.Next.{Next}
use Rattle.gaz_hub.specs.declared.looking.Next.TheVariants as next

-- ---- looking

-- a custodian's next volume, and its bytes where it was received
abbrev pub IsNextFile : Received → Board → ℕ → NextFile → Type 0
IsNextFile files board c file.Past = last_volume ≤ reached board c
IsNextFile files board c (file.Missing volume) =
    (volume ≡ reached board c + 1) × (volume ≤ last_volume) × (map.get files (c, volume) ≡ None)
IsNextFile files board c (file.Here volume bytes) =
    (volume ≡ reached board c + 1) × (volume ≤ last_volume)
    × (map.get files (c, volume) ≡ Some bytes.items)

-- a good file that came as a volume, or what it waits for
abbrev pub IsWeighed : Board → ℕ → Contents → Next → Type 0
IsWeighed board volume f (next.Good v contents) =
    (v ≡ volume) × (contents ≡ f) × (first_unreached board f.bases ≡ None)
IsWeighed board volume f (next.Waits whom v) =
    first_unreached board f.bases ≡ Some (record { custodian = whom; volume = v })
IsWeighed board volume f (next.Bad v place rule) = ⊥
IsWeighed board volume f next.Done = ⊥

-- what is to become of bytes that came as a custodian's volume
abbrev pub IsReadAs : Board → ℕ → ℕ → List ℕ → Next → Type 0
IsReadAs board c volume bytes (next.Bad v place rule) =
    (v ≡ volume) × (reading bytes c volume ≡ Bad place rule)
IsReadAs board c volume bytes other =
    (f : Contents) × (reading bytes c volume ≡ Good f) × IsWeighed board volume f other

-- a custodian's next volume is ready and reads so
abbrev pub IsReadyAs : Received → Board → ℕ → Reading → Type 0
IsReadyAs files board c r = (ready files board c ≡ true) × (next_reading files board c ≡ Some r)

-- a custodian's next volume is ready and reads so, or it isn't and waits for this
abbrev pub IsNext : Received → Board → ℕ → Next → Type 0
IsNext files board c (next.Good volume contents) =
    (volume ≡ reached board c + 1) × IsReadyAs files board c (Good contents)
IsNext files board c (next.Bad volume place rule) =
    (volume ≡ reached board c + 1) × IsReadyAs files board c (Bad place rule)
IsNext files board c (next.Waits whom volume) =
    (ready files board c ≡ false) × (wants files board c ≡ Some (whom, volume))
IsNext files board c next.Done = (ready files board c ≡ false) × (wants files board c ≡ None)

-- what a custodian's next volume waits for, if anything
abbrev pub want_of : Next → Option (ℕ × ℕ)
want_of (next.Waits whom volume) = Some (whom, volume)
want_of (next.Good volume contents) = None
want_of (next.Bad volume place rule) = None
want_of next.Done = None

-- ---- judging

-- files were judged when they were ready, one at a time and at least so many; else nothing changed
pub record Advances (door : Door) (least : ℕ) (old new : Seen) : Type 0 where
  pub harm : new.unharmed → old.unharmed
  pub stands : StandsFor door old → new.unharmed → StandsFor door new
  pub files : StandsFor door old → new.unharmed → new.content.files ≡ old.content.files
  pub board : StandsFor door old → new.unharmed
      → Follows (blocks door) old.content.files old.content.board new.content.board
  pub many : (stood : StandsFor door old) (fine : new.unharmed)
      → least ≤ length (board stood fine).order
  pub idle : IsNotOpen new.progress
  pub kept : old.failures ≤ new.failures
  pub trust : new.trusted → old.trusted
  pub stops : IsSoundFor door old
      → Stops old new (state_of old.content) (state_of new.content) (IsLater door)

-- how many files were surely judged in a call that tells how many were
abbrev pub judged_in : Result ℕ ShelfFault → ℕ
judged_in (Ok n) = n
judged_in (Err fault) = 0

-- a custodian has this many volumes at most
abbrev pub capped : ℕ → ℕ
capped n = if nat_le n last_volume then n else last_volume

-- how many volumes of the custodians of a register are judged
abbrev pub judged_by : RegisterValue → Board → ℕ
judged_by [] board = 0
judged_by (k ∷ register) board = capped (reached board k.code) + judged_by register board

-- with so many judgements more, all volumes of the custodians would be judged
abbrev pub IsAll : Door → Board → ℕ → Type 0
IsAll door board left =
    last_volume * length door.register ≤ judged_by door.register board + left

-- a call that judges at most so many of what is ready among some custodians, and tells how many;
-- where none was, the board is as before
pub record Tries (door : Door) (left : ℕ) (old new : Seen) (result : Result ℕ ShelfFault)
    (IsAmong : ℕ → Type 0) : Type 0 where
  pub advances : Advances door (judged_in result) old new
  pub within : IfOk result (λ n. n ≤ left)
  pub same : StandsFor door old → new.unharmed
      → IfOk result (λ n. n ≡ 0 → new.content.board ≡ old.content.board)
  pub rests : StandsFor door old → new.unharmed
      → IfOk result
      (λ n. n ≡ 0 → (c : ℕ) → IsAmong c → ready old.content.files old.content.board c ≡ false)
  pub cause : StandsFor door old → new.unharmed → IsAll door old.content.board left
      → IfErr result (λ e. e ≡ Store → old.failures < new.failures)

-- a call that settles and then reads: after an Ok nothing is ready, and the answer is right
pub record Tells {T : Type 0} (door : Door) (old new : Seen) (result : Result T ShelfFault)
    (IsRight : T → Type 0) : Type 0 where
  pub advances : Advances door 0 old new
  pub settled : StandsFor door old → new.unharmed
      → OnOk result (NothingReady new.content.files new.content.board)
  pub right : StandsFor door old → new.unharmed → IfOk result IsRight
  pub cause : StandsFor door old → new.unharmed
      → IfErr result (λ e. e ≡ Store → old.failures < new.failures)

-- ---- settling and then a call

-- a call may be made on each keeper in which no judgement is open
abbrev pub TakesIdle : {K : Type 0} → (K → Seen) → (K → Type 0) → Type 0
TakesIdle {K} seen Takes = (mid : K) → IsNotOpen (seen mid).progress → Takes mid

-- all is settled, and then this call is made
pub record CalledSettled {K T : Type 0} (door : Door) (seen : K → Seen)
    (Calls : K → Result T ShelfFault → K → Type 0) (old new : K)
    (result : Result T ShelfFault) : Type 0 where
  pub mid : K
  pub settled : Tells {T = Unit {0}} door (seen old) (seen mid) (Ok tt) (λ done. ⊤)
  pub called : Calls mid result new

-- settling failed
pub record FailedSettling {K T : Type 0} (door : Door) (seen : K → Seen) (old new : K)
    (result : Result T ShelfFault) : Type 0 where
  pub fault : ShelfFault
  pub told : result ≡ Err fault
  pub failed : Tells {T = Unit {0}} door (seen old) (seen new) (Err fault) (λ done. ⊤)

abbrev pub SettlesAndCalls : {K T : Type 0} → Door → (K → Seen)
    → (K → Result T ShelfFault → K → Type 0) → K → K → Result T ShelfFault → Type 0
SettlesAndCalls door seen Calls old new result =
    CalledSettled door seen Calls old new result ⊎ FailedSettling door seen old new result

-- settling and then a call, where a fault is told as 51
pub record AnswersSettled {K T : Type 0} (door : Door) (seen : K → Seen)
    (Calls : K → Result T ShelfFault → K → Type 0) (old new : K)
    (result : Result T Refusal) : Type 0 where
  pub read : Result T ShelfFault
  pub told : result ≡ or_not_received read
  pub calls : SettlesAndCalls door seen Calls old new read
  pub is_open : IsOpen (seen new) read
