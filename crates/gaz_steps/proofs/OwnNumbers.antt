-- On a partial board each custodian holds the numbers of its own properties.
use Rattle.std.proofs.Common.{◌≡◌, ◌+◌, ℕ, true, List, [], ◌∷◌, sym, ap, subst}
use Rattle.std.specs.Option.{option_map}
use Rattle.gaz_changefile.specs.Reading.{reading}
use Rattle.gaz_register.specs.Registers.{Owners, RegisterValue, blocks_of}
use Rattle.gaz_rules.proofs.OwnNumbers.{own_numbers_stay_holds}
use Rattle.gaz_rules.specs.Sound.{AllHoldOwn}
use Rattle.gaz_keeper.specs.Board.{Board, empty_board, reached}
use Rattle.gaz_keeper.specs.Received.{Received}
use Rattle.gaz_steps.specs.Standing.{IsPartial, Leads, judge_one, ready}
use Rattle.gaz_steps.proofs.Added.{added_is}
use Rattle.gaz_steps.proofs.Orders.{ready_gives}

one_own : (G : Owners) (F : Received) (B : Board) (c : ℕ) → AllHoldOwn G B → ready F B c ≡ true → AllHoldOwn G (judge_one G F B c)
one_own G F B c own h =
    let is = ready_gives F B c h in
    let volume = reached B c + 1 in
    let r = reading is.bytes c volume in
    subst (AllHoldOwn G) (added_is G F B c r (ap (option_map (λ bytes. reading bytes c volume)) is.came))
    (own_numbers_stay_holds.after_judgement G B c r own)

leads_own : (G : Owners) (F : Received) (B : Board) (order : List ℕ) (C : Board) → AllHoldOwn G B → Leads G F B order C → AllHoldOwn G C
leads_own G F B [] C own e = subst (AllHoldOwn G) (sym e) own
leads_own G F B (c ∷ order) C own l = leads_own G F (judge_one G F B c) order C (one_own G F B c own l.0) l.1

pub all_own_holds : (register : RegisterValue) (F : Received) (B : Board) → IsPartial (blocks_of register) F B → AllHoldOwn (blocks_of register) B
all_own_holds register F B partial = leads_own (blocks_of register) F empty_board partial.order B (own_numbers_stay_holds.of_no_file (blocks_of register)) partial.leads
