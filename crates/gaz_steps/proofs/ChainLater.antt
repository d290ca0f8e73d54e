-- The chain of a board begins that of each later one.
use Rattle.std.proofs.Common.{◌≡◌, ◌+◌, ℕ, true, false, cond, eqb, List, [], ◌∷◌, ◌++◌, sym, subst}
use Rattle.gaz_register.specs.Registers.{Owners}
use Rattle.gaz_chains.specs.Events.{Events, Has, appended}
use Rattle.gaz_chains.proofs.Lists.{has_kept}
use Rattle.gaz_chains.proofs.Unique.{chains_go_on_holds}
use Rattle.gaz_keeper.specs.Board.{Board, reached}
use Rattle.gaz_keeper.specs.Received.{Received}
use Rattle.gaz_rules.specs.Judging.{judged_on}
use Rattle.gaz_views.specs.declared.custody.Custody.{Custody}
use Rattle.gaz_steps.specs.Became.{became, made_in, reading_at}
use Rattle.gaz_steps.specs.Chains.{ChainsOfBoards}
use Rattle.gaz_steps.specs.Standing.{Leads, judge_one, ready}
use Rattle.gaz_steps.proofs.ChainBoards.{became_more, has_file, judged_is, read_now}

has_appended : (ev : Events) (c : ℕ) (made : List Custody) (d : ℕ) (e : Custody) → Has (ev d) e → Has (appended ev c made d) e
has_appended ev c made d e h = elim (eqb d c) as (λ b. Has (cond b (ev d ++ made) (ev d)) e) [ true ↦ has_kept (ev d) made e h | false ↦ h ]

one_later : (G : Owners) (F : Received) (uprn : ℕ) (B : Board) (c : ℕ) → ready F B c ≡ true → (d : ℕ) (e : Custody) → Has (became F B uprn d) e → Has (became F (judge_one G F B c) uprn d) e
one_later G F uprn B c h d e has =
    let file = has_file F B c h in
    let j = judged_on (G c) B c (read_now F B c file) in
    subst (λ C. Has (became F C uprn d) e) (sym (judged_is G F B c file))
    (subst (λ (l : Events). Has (l d) e) (sym (became_more F uprn B c j)) (has_appended (became F B uprn) c (made_in uprn (reading_at F c (reached B c + 1)) j.verdict) d e has))

leads_later : (G : Owners) (F : Received) (uprn : ℕ) (B : Board) (order : List ℕ) (C : Board) → Leads G F B order C → (d : ℕ) (e : Custody) → Has (became F B uprn d) e → Has (became F C uprn d) e
leads_later G F uprn B [] C l d e has = subst (λ X. Has (became F X uprn d) e) (sym l) has
leads_later G F uprn B (c ∷ order) C l d e has = leads_later G F uprn (judge_one G F B c) order C l.1 d e (one_later G F uprn B c l.0 d e has)

pub chains_of_boards_holds : ChainsOfBoards
chains_of_boards_holds G F B C a uprn xs ys p q follows k l =
    chains_go_on_holds a (became F B uprn) (became F C uprn) xs ys p q (leads_later G F uprn B follows.order C follows.leads) k l
