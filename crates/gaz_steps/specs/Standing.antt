-- Which files are judged, and what is left when all is settled. Judging one ready file is a step;
-- `Follows` is its closure (any number of steps), a board on which nothing is ready is a normal
-- form, and `any_order` says that there is one normal form, the standing board.
use Rattle.std.specs.Prelude.{◌≡◌, ℕ, zero, suc, ◌+◌, ◌==◌, nat_le, Bool, false, ◌&&◌}
use Rattle.std.specs.Prelude.{if◌then◌else◌, IsTrue, List, [], ◌∷◌, ◌++◌, Option}
use Rattle.std.specs.Option.{option_map, option_map_or}
use Rattle.std.specs.FinMap as map
use Rattle.gaz_ids.specs.Limits.{last_volume}
use Rattle.gaz_chains.specs.Chains.{IsPrefixOf}
use Rattle.gaz_changefile.specs.Reading.{Reading, reading}
use Rattle.gaz_keeper.specs.Board.{Judgement, Board, empty_board, reached}
use Rattle.gaz_register.specs.Registers.{Owners}
use Rattle.gaz_end_rules.specs.Bases.{are_reached}
use Rattle.gaz_rules.specs.Judging.{bases_of, judged_on}
use Rattle.gaz_keeper.specs.Received.{HasAllOf, Received}

-- ---- judging

-- how a custodian's next file reads, where it was received
abbrev pub next_reading : Received → Board → ℕ → Option Reading
next_reading files board c =
    let volume = reached board c + 1 in
    option_map (λ bytes. reading bytes c volume) (map.get files (c, volume))

-- the next volume is in the range, it was received, and all that it rests on is reached
abbrev pub ready : Received → Board → ℕ → Bool
ready files board c =
    nat_le (reached board c + 1) last_volume
    && option_map_or (λ r. are_reached board (bases_of r)) (next_reading files board c) false

-- a custodian's judgements with that of its next file
abbrev pub with_next : Owners → Received → Board → ℕ → List Judgement
with_next register files board c =
    option_map_or (λ r. board c ++ judged_on (register c) board c r ∷ [])
    (next_reading files board c) (board c)

-- the next file of one custodian is judged
abbrev pub judge_one : Owners → Received → Board → ℕ → Board
judge_one register files board c =
    λ other. if other == c then with_next register files board other else board other

-- every custodian that is ready gets its next file judged, all on the views of that board
abbrev pub round : Owners → Received → Board → Board
round register files board =
    λ c. if ready files board c then with_next register files board c else board c

abbrev pub rounds : Owners → Received → ℕ → Board → Board
rounds register files zero board = board
rounds register files (suc n) board = round register files (rounds register files n board)

-- the board on which nothing is ready any more: as many rounds as there are files, from an empty
-- one
unfoldable pub standing : Owners → Received → Board
standing register files = rounds register files (map.len files) empty_board

-- ---- runs

-- judging the next files of these custodians, one at a time and each when it is ready, leads from
-- a board to a later one
abbrev pub Leads : Owners → Received → Board → List ℕ → Board → Type 0
Leads register files board [] later = later ≡ board
Leads register files board (c ∷ cs) later =
    IsTrue (ready files board c) × Leads register files (judge_one register files board c) cs later

-- judging ready files, one at a time in some order, leads from a board to a later one
pub record Follows (register : Owners) (files : Received) (board later : Board) : Type 0 where
  pub order : List ℕ
  pub leads : Leads register files board order later

-- the board is reached from the empty one
abbrev pub IsPartial : Owners → Received → Board → Type 0
IsPartial register files board = Follows register files empty_board board

-- no custodian's next file is ready
abbrev pub NothingReady : Received → Board → Type 0
NothingReady files board = (c : ℕ) → ready files board c ≡ false

-- ---- the laws of order

-- every partial board with nothing ready is the standing one
abbrev pub AnyOrder : Type 0
AnyOrder =
    (register : Owners) (files : Received) (board : Board) → IsPartial register files board
    → NothingReady files board → board ≡ standing register files

-- the standing board is partial, and nothing is ready on it
pub record StandsSettled (register : Owners) (files : Received) : Type 0 where
  pub partial : IsPartial register files (standing register files)
  pub settled : NothingReady files (standing register files)

abbrev pub StandingIsSettled : Type 0
StandingIsSettled = (register : Owners) (files : Received) → StandsSettled register files

-- with more files each custodian's judgements go on from where they were
abbrev pub MoreFiles : Type 0
MoreFiles =
    (register : Owners) (files bigger : Received) → HasAllOf bigger files → (c : ℕ)
    → IsPrefixOf (standing register files c) (standing register bigger c)
