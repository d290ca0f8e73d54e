-- With more files the same became of a number; chains are short; and who is found holds it.
use Rattle.std.proofs.Common.{◌≡◌, ◌≤◌, ◌+◌, ℕ, zero, suc, true, false, ◌&&◌, cond, eqb, eqb-true, List, [], ◌∷◌, ◌++◌, length, refl, sym, ap, ◌∙◌, subst, arith, leb-true, eq-eqb}
use Rattle.std.proofs.Math.Path.{fun_ext}
use Rattle.std.proofs.lemmas.List.Elements.{All-head, All-tail}
use Rattle.std.proofs.lemmas.Option.{none-some, same_Some}
use Rattle.std.specs.Prelude.{Option, Some, None, ⊤, nat_le, slice_get}
use Rattle.std.specs.List.{All, cons_option}
use Rattle.std.specs.Option.{option_map}
use Rattle.std.specs.FinMap as map
use Rattle.gaz_changefile.proofs.Typed.{readings_are_typed}
use Rattle.gaz_changefile.specs.Reading.{Bad, Good, Reading, reading}
use Rattle.gaz_changefile.specs.declared.change.Change.{Change}
use Rattle.gaz_chains.specs.Chains.{IsChain, IsHop}
use Rattle.gaz_chains.specs.Events.{Events}
use Rattle.gaz_chains.specs.Finding.{found}
use Rattle.gaz_chains.proofs.Finding.{finds_from_first}
use Rattle.gaz_keeper.specs.Board.{Board, Judgement, empty_board}
use Rattle.gaz_keeper.specs.Received.{HasAllOf, Received}
use Rattle.gaz_records.specs.Blpus.{is_blpu, is_uprn}
use Rattle.gaz_records.specs.Items.{is_item}
use Rattle.gaz_records.specs.Releases.{is_code, is_hop}
use Rattle.gaz_records.specs.declared.item.Item.{Item}
use Rattle.gaz_records.specs.declared.item.Item.TheVariants as item
use Rattle.gaz_register.specs.Registers.{Owners, blocks_of}
use Rattle.gaz_rules.specs.Judging.{judged_on}
use Rattle.gaz_rules.specs.Passing.{made_of}
use Rattle.gaz_views.specs.Custody.{hop_in}
use Rattle.gaz_views.specs.declared.custody.Custody.{Custody}
use Rattle.gaz_views.specs.declared.custody.Custody.TheVariants.{Adopted, Released}
use Rattle.gaz_views.specs.declared.verdict.Verdict.{Verdict}
use Rattle.gaz_views.specs.declared.verdict.Verdict.TheVariants.{Applied, Rejected}
use Rattle.gaz_steps.specs.Became.{became, made_by, made_from, made_in}
use Rattle.gaz_steps.specs.Chains.{ChainsAreShort, ChainsGrow, FindsHolders}
use Rattle.gaz_steps.specs.Standing.{IsPartial, Leads, judge_one, ready}
use Rattle.gaz_steps.proofs.ChainBoards.{has_file, judged_is, read_now}
use Rattle.gaz_steps.proofs.ChainFine.{allotted_is, partial_fine}
use Rattle.gaz_steps.proofs.ChainLater.{chains_of_boards_holds}
use Rattle.gaz_steps.proofs.Orders.{ready_gives}
use Rattle.gaz_steps.proofs.Prefixes.{both_parts}

-- ---- more files

-- the files of so many volumes after this one came
abbrev AllCame : Received → ℕ → ℕ → List Judgement → Type 0
AllCame F c n [] = ⊤
AllCame F c n (j ∷ js) = ((bytes : List ℕ) × (map.get F (c, n + 1) ≡ Some bytes)) × AllCame F c (n + 1) js

came_more : (F : Received) (c : ℕ) (js : List Judgement) (j : Judgement) (n : ℕ) (bytes : List ℕ) → AllCame F c n js → map.get F (c, n + length js + 1) ≡ Some bytes → AllCame F c n (js ++ j ∷ [])
came_more F c [] j n bytes came next = ((bytes, ap (λ m. map.get F (c, m)) (let e : n + 1 ≡ n + 0 + 1 = omega arith in e) ∙ next), record {})
came_more F c (x ∷ js) j n bytes came next =
    (came.0, came_more F c js j (n + 1) bytes came.1 (ap (λ m. map.get F (c, m)) (let e : n + 1 + length js + 1 ≡ n + suc (length js) + 1 = omega arith in e) ∙ next))

same_made : (F bigger : Received) (uprn c : ℕ) → HasAllOf bigger F → (js : List Judgement) (n : ℕ) → AllCame F c n js → made_from bigger uprn c n js ≡ made_from F uprn c n js
same_made F bigger uprn c all [] n came = refl
same_made F bigger uprn c all (j ∷ js) n came =
    let file = all (c, n + 1) came.0.0 came.0.1 ∙ sym came.0.1 in
    let rest = same_made F bigger uprn c all js (n + 1) came.1 in
    λ i. made_in uprn (option_map (λ bytes. reading bytes c (n + 1)) (file i)) j.verdict ++ rest i

abbrev EachCame : Received → Board → Type 0
EachCame F B = (d : ℕ) → AllCame F d 0 (B d)

module _ (G : Owners) (F : Received) where
  one_came : (B : Board) (c : ℕ) → EachCame F B → ready F B c ≡ true → EachCame F (judge_one G F B c)
  one_came B c came h =
      let is = ready_gives F B c h in
      let file = has_file F B c h in
      let j = judged_on (G c) B c (read_now F B c file) in
      let here : map.get F (c, 0 + length (B c) + 1) ≡ Some is.bytes = ap (λ m. map.get F (c, m)) (let e : 0 + length (B c) + 1 ≡ length (B c) + 1 = omega arith in e) ∙ is.came in
      subst (EachCame F) (sym (judged_is G F B c file))
      (λ d. elim (eqb d c) as (λ b. eqb d c ≡ b → AllCame F d 0 (cond b (B d ++ j ∷ []) (B d))) [
        | true ↦ λ t. subst (λ x. AllCame F x 0 (B x ++ j ∷ [])) (sym (eqb-true d c t)) (came_more F c (B c) j 0 is.bytes (came c) here)
        | false ↦ λ _. came d
      ] refl)

  leads_came : (B : Board) (order : List ℕ) (C : Board) → EachCame F B → Leads G F B order C → EachCame F C
  leads_came B [] C came e = subst (EachCame F) (sym e) came
  leads_came B (c ∷ order) C came l = leads_came (judge_one G F B c) order C (one_came B c came l.0) l.1

same_became : (G : Owners) (F bigger : Received) (B : Board) (uprn : ℕ) → IsPartial G F B → HasAllOf bigger F → became bigger B uprn ≡ became F B uprn
same_became G F bigger B uprn partial all =
    let came = leads_came G F empty_board partial.order B (λ d. record {}) partial.leads in
    fun_ext (λ d. same_made F bigger uprn d all (B d) 0 (came d))

pub chains_grow_holds : ChainsGrow
chains_grow_holds = record {
  same = same_became;
  goes_on = λ G F bigger B C a uprn xs ys p q partial all follows k l.
      chains_of_boards_holds G bigger B C a uprn xs ys p q follows (subst (λ (ev : Events). IsChain a ev xs p) (sym (same_became G F bigger B uprn partial all)) k) l;
}

-- ---- hops are at most 9999

abbrev AreLow : List Custody → Type 0
AreLow [] = ⊤
AreLow (e ∷ es) = (hop_in e ≤ 9999) × AreLow es

low_append : (xs ys : List Custody) → AreLow xs → AreLow ys → AreLow (xs ++ ys)
low_append [] ys few more = more
low_append (x ∷ xs) ys few more = (few.0, low_append xs ys few.1 more)

low_at : (es : List Custody) (i : ℕ) (e : Custody) → AreLow es → slice_get es i ≡ Some e → hop_in e ≤ 9999
low_at [] i e low is = absurd (none-some e is)
low_at (x ∷ es) zero e low is = subst (λ y. hop_in y ≤ 9999) (same_Some x e is) low.0
low_at (x ∷ es) (suc i) e low is = low_at es i e low.1 is

low_hop : (hop : ℕ) → is_hop hop ≡ true → hop ≤ 9999
low_hop hop h = leb-true _ _ (both_parts (nat_le 1 hop) (nat_le hop 9999) h).1

low_made : (uprn n : ℕ) (f : Custody) → hop_in f ≤ 9999 → AreLow (cons_option (cond (eqb uprn n) (Some f) None) [])
low_made uprn n f low = elim (eqb uprn n) as (λ b. AreLow (cons_option (cond b (Some f) None) [])) [ true ↦ (low, tt) | false ↦ tt ]

low_of : (uprn : ℕ) (i : Item) → is_item i ≡ true → AreLow (cons_option (made_of uprn i) [])
low_of uprn (item.Street x) h = tt
low_of uprn (item.Descriptor x) h = tt
low_of uprn (item.Blpu x) h = tt
low_of uprn (item.Xref x) h = tt
low_of uprn (item.Lpi x) h = tt
low_of uprn (item.Release x) h = low_made uprn x.uprn (Released x.to x.hop) (low_hop x.hop (both_parts (is_uprn x.uprn && is_code x.to) (is_hop x.hop) h).1)
low_of uprn (item.Adopt x) h = low_made uprn x.blpu.uprn (Adopted x.from x.hop) (low_hop x.hop (both_parts (is_blpu x.blpu && is_code x.from) (is_hop x.hop) h).1)

low_cons : (o : Option Custody) (es : List Custody) → AreLow (cons_option o []) → AreLow es → AreLow (cons_option o es)
low_cons None es one low = low
low_cons (Some e) es one low = (one.0, low)

low_by : (uprn : ℕ) (cs : List Change) → All (λ x. is_item x.item ≡ true) cs → AreLow (made_by uprn cs)
low_by uprn [] all = tt
low_by uprn (x ∷ cs) all =
    low_cons (made_of uprn x.item) (made_by uprn cs) (low_of uprn x.item (All-head (λ (y : Change). is_item y.item ≡ true) x cs all))
    (low_by uprn cs (All-tail (λ (y : Change). is_item y.item ≡ true) x cs all))

low_in : (uprn c volume : ℕ) (bytes : List ℕ) (r : Reading) (verdict : Verdict) → reading bytes c volume ≡ r → AreLow (made_in uprn (Some r) verdict)
low_in uprn c volume bytes (Bad place rule) verdict e = tt
low_in uprn c volume bytes (Good file) Applied e = low_by uprn file.changes (readings_are_typed bytes c volume file e).items
low_in uprn c volume bytes (Good file) (Rejected place rule) e = tt

low_from : (F : Received) (uprn c n : ℕ) (js : List Judgement) → AreLow (made_from F uprn c n js)
low_from F uprn c n [] = tt
low_from F uprn c n (j ∷ js) = low_append _ (made_from F uprn c (n + 1) js) (one (map.get F (c, n + 1))) (low_from F uprn c (n + 1) js)
  where
    one : (o : Option (List ℕ)) → AreLow (made_in uprn (option_map (λ bytes. reading bytes c (n + 1)) o) j.verdict)
    one None = tt
    one (Some bytes) = low_in uprn c (n + 1) bytes (reading bytes c (n + 1)) j.verdict refl

-- ---- so a chain is short

none_at : {X : Type 0} (xs : List X) (n : ℕ) → slice_get xs n ≡ None → length xs ≤ n
none_at [] n e = omega arith
none_at (x ∷ xs) zero e = cc
none_at (x ∷ xs) (suc n) e = let h = none_at xs n e in omega arith

one_before : {X : Type 0} (xs : List X) (n : ℕ) (y : X) → slice_get xs (suc n) ≡ Some y → (x : X) × (slice_get xs n ≡ Some x)
one_before [] n y e = absurd (none-some y e)
one_before (x ∷ xs) zero y e = (x, refl)
one_before (x ∷ xs) (suc n) y e = one_before xs n y e

short_by : (chain : List ℕ) (n : ℕ) → ((from to : ℕ) → IsHop chain from to (suc n) → ⊥) → length chain ≤ suc n
short_by chain n none =
    elim (slice_get chain (suc n)) as (λ o. slice_get chain (suc n) ≡ o → length chain ≤ suc n) [
      | None ↦ λ e. none_at chain (suc n) e
      | Some to ↦ λ e. let from = one_before chain n to e in absurd (none from.0 to (from.1, e))
    ] refl

pub chains_are_short_hold : ChainsAreShort
chains_are_short_hold F B a uprn chain offered k =
    short_by chain 9999 (λ from to is.
    let has = (k.adoptions to from (suc 9999)).1 is in
    let low : suc 9999 ≤ 9999 = low_at (became F B uprn to) has.0 (Adopted from (suc 9999)) (low_from F uprn to 0 (B to)) has.1 in
    absurd (omega (arith, low)))

-- ---- who is found

pub finds_holders_holds : FindsHolders
finds_holders_holds register F B a uprn chain offered is own partial k =
    let fine = partial_fine (blocks_of register) F a uprn (allotted_is register a uprn is own) B partial in
    ap (λ (shown : ℕ → Option Custody). found shown (λ c. eqb c a) 10000 a) (fun_ext fine.shown)
    ∙ finds_from_first (λ c. eqb c a) a (record { own_number = eq-eqb a a refl; of_nobody_else = λ c e. eqb-true c a e }) (became F B uprn) chain offered k fine.kept.rising 10000 (chains_are_short_hold F B a uprn chain offered k)
