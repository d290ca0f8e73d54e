-- Whole runs over any keeper, and the views on a board.
use Rattle.std.proofs.Common.{◌≡◌, ◌+◌, ℕ, arith, true, true≢false, List, [], ◌∷◌, refl, sym, ap, ◌∙◌, subst}
use Rattle.std.specs.Option.{option_map}
use Rattle.std.specs.Prelude.{is_some}
use Rattle.std.specs.FinMap as map
use Rattle.gaz_changefile.proofs.Orderly.{bases-rise}
use Rattle.gaz_changefile.specs.Reading.{Reading, Good, Bad, reading}
use Rattle.gaz_register.specs.Registers.{Owners, blocks_of}
use Rattle.gaz_rules.proofs.SoundBoards.{boards_stay_sound_holds}
use Rattle.gaz_rules.specs.Sound.{AreDisjoint, IsSoundBoard, NamesOthers}
use Rattle.gaz_keeper.specs.Board.{Board, empty_board, reached}
use Rattle.gaz_keeper.specs.Keeper.{Content, Seen}
use Rattle.gaz_keeper.specs.Received.{Received, pair_cmp}
use Rattle.gaz_steps.specs.Hubs.{MayHave, state_of}
use Rattle.gaz_steps.specs.Laws.{AllSound, EveryAnswerOver, EveryRunFromOver}
use Rattle.gaz_steps.specs.Standing.{Leads, judge_one, ready}
use Rattle.gaz_steps.specs.Step.{Door, blocks}
use Rattle.gaz_steps.proofs.Added.{added_is}
use Rattle.gaz_steps.proofs.Answers.{every_answer_holds}
use Rattle.gaz_steps.proofs.Leading.{follows_itself}
use Rattle.gaz_steps.proofs.Orders.{ready_gives}
use Rattle.gaz_steps.proofs.Runs.{every_run_from_holds}

-- ---- over any keeper

-- a hub may begin with nothing
pub may_begin : (d : Door) (k : Content) → k.files ≡ map.empty → k.board ≡ empty_board → MayHave d k
may_begin d k files board =
    record {
      known = λ p h. absurd (true≢false (sym h ∙ ap (λ (F : Received). is_some (map.get F p)) files ∙ ap is_some (map.get-empty pair_cmp p)));
      partial = follows_itself (blocks d) k.files empty_board k.board board;
    }

pub every_run_from_over : {K : Type 0} (seen : K → Seen) → EveryRunFromOver seen
every_run_from_over seen d old new commands responses was fine r =
    record {
      stands = r.stands was fine;
      abides = every_run_from_holds d (state_of (seen old).content) (state_of (seen new).content) commands responses was.1.partial (r.run was fine);
    }

pub every_answer_over : {K : Type 0} (seen : K → Seen) → EveryAnswerOver seen
every_answer_over seen d old new commands responses was fine r =
    every_answer_holds d (state_of (seen old).content) (state_of (seen new).content) commands responses was.1.partial (r.run was fine)

-- ---- the views on a board

names_in : (bytes : List ℕ) (c v : ℕ) (r : Reading) → reading bytes c v ≡ r → NamesOthers c r
names_in bytes c v (Good f) e = (bases-rise bytes c v f e).others
names_in bytes c v (Bad place rule) e = λ k d l. absurd (omega arith)

one_sound : (G : Owners) (F : Received) (B : Board) (c : ℕ) → AreDisjoint G → IsSoundBoard G B → ready F B c ≡ true → IsSoundBoard G (judge_one G F B c)
one_sound G F B c apart sound h =
    let is = ready_gives F B c h in
    let volume = reached B c + 1 in
    let r = reading is.bytes c volume in
    subst (IsSoundBoard G) (added_is G F B c r (ap (option_map (λ bytes. reading bytes c volume)) is.came))
    (boards_stay_sound_holds.after_file G B c r apart (names_in is.bytes c volume r refl) sound)

leads_sound : (G : Owners) (F : Received) (B : Board) (order : List ℕ) (C : Board) → AreDisjoint G → IsSoundBoard G B → Leads G F B order C → IsSoundBoard G C
leads_sound G F B [] C apart sound e = subst (IsSoundBoard G) (sym e) sound
leads_sound G F B (c ∷ order) C apart sound l = leads_sound G F (judge_one G F B c) order C apart (one_sound G F B c apart sound l.0) l.1

pub all_sound_holds : AllSound
all_sound_holds register F B is partial =
    leads_sound (blocks_of register) F empty_board partial.order B (boards_stay_sound_holds.of_register register is) (boards_stay_sound_holds.empty (blocks_of register)) partial.leads
