-- What the worked examples speak of.
use Rattle.std.specs.Prelude.{ℕ, ◌==◌, true, List, [], ◌∷◌, if◌then◌else◌}
use Rattle.std.specs.FinMap as map
use Rattle.gaz_keeper.specs.Board.{Judgement, Board, empty_board}
use Rattle.gaz_views.specs.View.{empty_view}
use Rattle.gaz_views.specs.declared.verdict.Verdict.TheVariants.{Rejected}
use Rattle.gaz_keeper.specs.Received.{Received, with_file}
use Rattle.gaz_steps.specs.Sample.{sample_custodians}
use Rattle.gaz_steps.specs.Step.{Door, HubState}

-- a file that isn't UTF-8
abbrev pub no_text : List ℕ
no_text = 0xFF ∷ []

-- ---- what was received

-- the file came as volume 1 of custodian 1003
abbrev pub first_sent : Received
first_sent = with_file map.empty 1003 1 no_text

-- it came as volume 3 too: volume 2 is missing
abbrev pub sent : Received
sent = with_file first_sent 1003 3 no_text

-- then it came as volume 2
abbrev pub all_sent : Received
all_sent = with_file sent 1003 2 no_text

-- it came as volume 1 of two custodians
abbrev pub sent_by_two : Received
sent_by_two = with_file first_sent 1002 1 no_text

-- ---- boards

-- the file breaks rule 1 at its first record
abbrev pub no_text_judged : Judgement
no_text_judged = record { verdict = Rejected 1 1; view = empty_view }

-- custodian 1003 alone has judgements
abbrev pub of_1003 : List Judgement → Board
of_1003 js = λ c. if c == 1003 then js else []

abbrev pub one_judged : Board
one_judged = of_1003 (no_text_judged ∷ [])

abbrev pub three_judged : Board
three_judged = of_1003 (no_text_judged ∷ no_text_judged ∷ no_text_judged ∷ [])

-- ---- hubs

abbrev pub first_hub : HubState
first_hub = record { received = first_sent; board = one_judged }

-- volume 3 is held for want of volume 2
abbrev pub gap_hub : HubState
gap_hub = record { received = sent; board = one_judged }

-- the files of gap_hub, of which none is judged yet
abbrev pub late_hub : HubState
late_hub = record { received = sent; board = empty_board }

abbrev pub whole_hub : HubState
whole_hub = record { received = all_sent; board = three_judged }

-- a door that takes every file for one of an unknown profile
abbrev pub foreign_door : Door
foreign_door = record { register = sample_custodians; is_foreign = λ bytes. true }
