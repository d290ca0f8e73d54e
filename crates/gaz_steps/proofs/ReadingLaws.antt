-- Readings over equal received sets, over more files, and of one property.
use Rattle.std.proofs.Common.{◌≡◌, ◌≤◌, ℕ, cond, List, [], ◌∷◌, ◌++◌, refl, sym, ap, ◌∙◌, subst, le-leb, arith}
use Rattle.std.specs.Prelude.{Option, Some, None, Ok}
use Rattle.std.specs.List.{last_or}
use Rattle.gaz_extract.specs.Extracts.{extract, extract_rows, items_of}
use Rattle.gaz_rows.specs.Rows.{lines_of}
use Rattle.gaz_keeper.specs.Board.{Board, reached}
use Rattle.gaz_steps.specs.Readings.{EqualAnswers, ExtractsStay, OneHolder}
use Rattle.gaz_steps.specs.Runs.{Run}
use Rattle.gaz_steps.specs.Standing.{standing}
use Rattle.gaz_steps.specs.Step.{Command, Door, HubState, Pose, Replied, Response, Step, Told, answer_to}
use Rattle.gaz_steps.specs.declared.question.Question.{Question}
use Rattle.gaz_register.specs.Registers.{owner_of_uprn}
use Rattle.std.proofs.lemmas.Option.{same_Some}
use Rattle.gaz_steps.proofs.ChainFine.{one_chain_holds}
use Rattle.gaz_steps.proofs.Owners.{owners_alone_hold}
use Rattle.gaz_steps.proofs.Orders.{Below, more_files_hold, view_stays}
use Rattle.gaz_steps.proofs.Prefixes.{prefix_length}
use Rattle.gaz_steps.proofs.Runs.{Settles, equal_received_holds, judgements_stay_holds}

-- ---- equal received sets

last_step : (d : Door) (old : HubState) (commands : List Command) (responses : List Response) (command : Command) (response : Response) (hub : HubState)
    → Run d old (commands ++ command ∷ []) (responses ++ response ∷ []) hub → (mid : HubState) × Step d mid command response hub
last_step d old [] [] command response hub r = (old, subst (λ h. Step d old command response h) (sym r.2) r.1)
last_step d old (c ∷ commands) (a ∷ responses) command response hub r = last_step d r.0 commands responses command response hub r.2
last_step d old [] (a ∷ []) command response hub r = absurd r.2
last_step d old [] (a ∷ (b ∷ responses)) command response hub r = absurd r.2
last_step d old (c ∷ []) [] command response hub r = absurd r.2
last_step d old (c ∷ (b ∷ commands)) [] command response hub r = absurd r.2

ends_told : (o : Option Response) (responses : List Response) (q : Question) (told : Told q) → Settles (last_or o (responses ++ Replied q (Ok told) ∷ []))
ends_told o [] q told = refl
ends_told o (response ∷ responses) q told = ends_told (Some response) responses q told

pub equal_answers_hold : EqualAnswers
equal_answers_hold d begun started one other commands others responses replies q told heard from_one from_other r s same =
    let first = last_step d begun commands responses (Pose q) (Replied q (Ok told)) one r in
    let second = last_step d started others replies (Pose q) (Replied q (Ok heard)) other s in
    let alike : other ≡ one = equal_received_holds d one other
    (record { old = begun; partial = from_one; commands = commands ++ Pose q ∷ []; responses = responses ++ Replied q (Ok told) ∷ []; run = r; settles = ends_told None responses q told })
    (record { old = started; partial = from_other; commands = others ++ Pose q ∷ []; responses = replies ++ Replied q (Ok heard) ∷ []; run = s; settles = ends_told None replies q heard }) same in
    second.1.1.answer ∙ ap (answer_to q d.register) alike ∙ sym first.1.1.answer

-- ---- reached volumes

extract_stays : (B C : Board) → Below B C → (c volume : ℕ) → volume ≤ reached B c → extract C c volume ≡ extract B c volume
extract_stays B C below c volume h =
    let more = prefix_length (B c) (C c) (below c) in
    let both = le-leb volume (reached C c) (omega (arith, h, more)) ∙ sym (le-leb volume (reached B c) h) in
    λ i. cond (both i) (Some (lines_of (extract_rows c volume (items_of (view_stays B C below c volume h i))))) None

pub extracts_stay_hold : ExtractsStay
extracts_stay_hold =
    record {
      with_more_files = λ G F bigger all. extract_stays (standing G F) (standing G bigger) (more_files_hold G F bigger all);
      after_a_step = λ d old new command response s. extract_stays old.board new.board (judgements_stay_holds d old new command response s);
    }

-- ---- one property

pub one_holder_holds : OneHolder
one_holder_holds register F B is partial c d uprn here there =
    let mine = owners_alone_hold.have register F B c uprn partial here in
    let its = owners_alone_hold.have register F B d uprn partial there in
    elim (owner_of_uprn register uprn) as (λ o. owner_of_uprn register uprn ≡ o → c ≡ d) [
      | None ↦ λ nobody. absurd (owners_alone_hold.nobody register F B c uprn is partial mine nobody)
      | Some a ↦ λ own.
          let chain = one_chain_holds register F B a uprn is own partial in
          same_Some c d (sym ((chain.holds c).0 mine) ∙ (chain.holds d).0 its)
    ] refl
