-- Nobody but the holder of its number can have a property, on partial boards.
use Rattle.std.proofs.Common.{◌≡◌, ◌≢◌, ℕ, Bool, true, false, true≢false, cond, eqb, eqb-true, eq-eqb, List, [], ◌∷◌, refl, sym, ap, ◌∙◌}
use Rattle.std.specs.Prelude.{Option, Some, None, option_map, is_some}
use Rattle.std.specs.List.{cons_option, filter_map, find}
use Rattle.std.specs.Option.{option_and_then, option_map_or, option_or}
use Rattle.std.specs.FinMap as map
use Rattle.gaz_extract.specs.Finding.{as_blpu}
use Rattle.gaz_chains.specs.Chains.{IsChain, holder}
use Rattle.gaz_extract.specs.Lookups.{line_now, lookup, said_by}
use Rattle.gaz_extract.specs.declared.found.Found.{Found}
use Rattle.gaz_records.specs.Blpus.{BlpuValue}
use Rattle.gaz_records.specs.declared.item.Item.{Item}
use Rattle.gaz_records.specs.declared.key.Key.TheVariants as key
use Rattle.gaz_register.proofs.Ownership.{one-owner}
use Rattle.gaz_register.specs.Registers.{CustodianValue, IsRegister, RegisterValue, blocks_of, custodian_of, knows, no_blocks, owner_of_uprn, within}
use Rattle.gaz_keeper.specs.Board.{Board, last_view, reached}
use Rattle.gaz_keeper.specs.Received.{Received}
use Rattle.gaz_views.specs.View.{holds}
use Rattle.gaz_views.specs.Words.{first_of}
use Rattle.gaz_steps.specs.Chains.{holder_from}
use Rattle.gaz_steps.specs.Became.{became}
use Rattle.gaz_steps.specs.Owners.{OwnersAlone, can_have, said_by_known, told_by_holder}
use Rattle.gaz_steps.specs.Standing.{IsPartial}
use Rattle.gaz_steps.proofs.ChainFine.{one_chain_holds}
use Rattle.gaz_steps.proofs.ChainGrowth.{finds_holders_holds}
use Rattle.gaz_steps.proofs.ChainNobody.{unallotted_stay_holds}
use Rattle.gaz_steps.proofs.OwnNumbers.{all_own_holds}

-- ---- one custodian alone says something

module _ (says : ℕ → Option Found) where
  -- what is found among the custodians, each of which says this of a property
  abbrev found : RegisterValue → Option Found
  found register = first_of (filter_map (λ c. says c.code) register)

  none_found : ((c : ℕ) → says c ≡ None) → (register : RegisterValue) → found register ≡ None
  none_found none [] = refl
  none_found none (c ∷ register) = ap (λ o. first_of (cons_option o (filter_map (λ (x : CustodianValue). says x.code) register))) (none c.code) ∙ none_found none register

  module _ (owner : ℕ) (others : (c : ℕ) → c ≢ owner → says c ≡ None) where
    silent : says owner ≡ None → (c : ℕ) → says c ≡ None
    silent none c =
        elim (eqb c owner) as (λ b. eqb c owner ≡ b → says c ≡ None) [
          | true ↦ λ t. ap says (eqb-true c owner t) ∙ none
          | false ↦ λ f. others c (λ e. true≢false (sym (ap (λ x. eqb x owner) e ∙ eq-eqb owner owner refl) ∙ f))
        ] refl

    -- what it says, where it is among them
    holder_found : (register : RegisterValue) → found register ≡ cond (knows register owner) (says owner) None
    holder_found [] = refl
    holder_found (c ∷ register) =
        elim (says owner) as (λ o. says owner ≡ o → found (c ∷ register) ≡ cond (knows (c ∷ register) owner) o None) [
          | None ↦ λ none. none_found (silent none) (c ∷ register) ∙ no_choice (knows (c ∷ register) owner) None
          | Some f ↦ λ tells.
              elim (eqb c.code owner) as (λ b. eqb c.code owner ≡ b → found (c ∷ register) ≡ cond (is_some (cond b (Some c) (find (λ (x : CustodianValue). eqb x.code owner) register))) (Some f) None) [
                | true ↦ λ t. ap (λ o. first_of (cons_option o (filter_map (λ (x : CustodianValue). says x.code) register))) (ap says (eqb-true c.code owner t) ∙ tells)
                | false ↦ λ no.
                    ap (λ o. first_of (cons_option o (filter_map (λ (x : CustodianValue). says x.code) register))) (others c.code (λ e. true≢false (sym (ap (λ x. eqb x owner) e ∙ eq-eqb owner owner refl) ∙ no)))
                    ∙ holder_found register ∙ ap (λ o. cond (knows register owner) o None) tells
              ] refl
        ] refl
      where
        no_choice : (b : Bool) (o : Option Found) → o ≡ cond b o o
        no_choice true o = refl
        no_choice false o = refl

-- ---- who has it

nothing_in : {X : Type 0} (tells : BlpuValue → X) (o : Option Item) → is_some o ≡ false → option_map tells (option_and_then as_blpu o) ≡ None
nothing_in tells None e = refl
nothing_in tells (Some i) e = absurd (true≢false e)

-- what a custodian tells of its property
abbrev pub tells : Board → RegisterValue → ℕ → ℕ → BlpuValue → Found
tells B register uprn c blpu = record { custodian = c; uprn = uprn; status = blpu.status; line = line_now B register c uprn blpu }

-- a custodian that says something has the property
has_or_silent : (B : Board) (register : RegisterValue) (uprn c : ℕ) → (holds (last_view B c) (key.Blpu uprn) ≡ true → said_by B register uprn c ≡ None) → said_by B register uprn c ≡ None
has_or_silent B register uprn c has =
    elim (holds (last_view B c) (key.Blpu uprn)) as (λ b. holds (last_view B c) (key.Blpu uprn) ≡ b → said_by B register uprn c ≡ None) [
      | true ↦ λ t. has t
      | false ↦ λ f. nothing_in _ (map.get (last_view B c).items (key.Blpu uprn)) f
    ] refl

-- one that says something has it
has_said : (B : Board) (register : RegisterValue) (uprn c : ℕ) → is_some (said_by B register uprn c) ≡ true → holds (last_view B c) (key.Blpu uprn) ≡ true
has_said B register uprn c some = has (map.get (last_view B c).items (key.Blpu uprn)) some
  where
    has : (o : Option Item) → is_some (option_map (tells B register uprn c) (option_and_then as_blpu o)) ≡ true → is_some o ≡ true
    has None e = e
    has (Some i) e = refl

known_owner : (register : RegisterValue) (c uprn : ℕ) → within (blocks_of register c).uprn uprn ≡ true → knows register c ≡ true
known_owner register c uprn h = known (custodian_of register c) h
  where
    known : (o : Option CustodianValue) → within (option_map_or (λ (x : CustodianValue). x.own) o no_blocks).uprn uprn ≡ true → is_some o ≡ true
    known None h = absurd (true≢false (sym h))
    known (Some x) h = refl

-- nobody's number is held
none_can : (register : RegisterValue) (F : Received) (B : Board) (c uprn : ℕ) → IsRegister register → IsPartial (blocks_of register) F B → can_have B register uprn c ≡ true → owner_of_uprn register uprn ≡ None → ⊥
none_can register F B c uprn is partial can nobody = true≢false (sym can ∙ unallotted_stay_holds.never_held register F B uprn is nobody partial c)

-- who can have it is the holder
holder_can : (register : RegisterValue) (F : Received) (B : Board) (c a uprn : ℕ) (chain : List ℕ) (offered : Option ℕ) → IsRegister register → IsPartial (blocks_of register) F B
    → owner_of_uprn register uprn ≡ Some a → IsChain a (became F B uprn) chain offered → can_have B register uprn c ≡ true → holder chain offered ≡ Some c
holder_can register F B c a uprn chain offered is partial own k can =
    let one = one_chain_holds register F B a uprn is own partial in
    let same = one.alone chain offered k in
    (λ i. holder (same.0 i) (same.1 i)) ∙ (one.holds c).0 can

-- where the owner has it, it is the holder
first_says : {T : Type 0} (o p : Option T) → (is_some o ≡ true → p ≡ o) → option_or o p ≡ p
first_says None p h = refl
first_says (Some x) p h = sym (h refl)

module _ (register : RegisterValue) (F : Received) (B : Board) (uprn : ℕ) (is : IsRegister register) (partial : IsPartial (blocks_of register) F B) where
  abbrev says : ℕ → Option Found
  says = said_by B register uprn

  can_say : (c : ℕ) → holds (last_view B c) (key.Blpu uprn) ≡ true → can_have B register uprn c ≡ true
  can_say c has = all_own_holds register F B partial c (reached B c) uprn has

  -- what the holder says, where the register has it
  told_held : (h : Option ℕ) → ((c : ℕ) → holds (last_view B c) (key.Blpu uprn) ≡ true → h ≡ Some c) → lookup B register uprn ≡ option_and_then (said_by_known B register uprn) h
  told_held None holding = none_found says (λ c. has_or_silent B register uprn c (λ has. let no : None ≡ Some c = holding c has in cc)) register
  told_held (Some h) holding = holder_found says h (λ c other. has_or_silent B register uprn c (λ has. let same : Some h ≡ Some c = holding c has in absurd (other cc))) register

  told_owned : (a : ℕ) → owner_of_uprn register uprn ≡ Some a
      → lookup B register uprn ≡ option_or (says a) (option_and_then (said_by_known B register uprn) (holder_from B uprn a))
  told_owned a own =
      let one = one_chain_holds register F B a uprn is own partial in
      let h = holder one.chain one.offered in
      let finds : holder_from B uprn a ≡ h = finds_holders_holds register F B a uprn one.chain one.offered is own partial one.is in
      let told = told_held h (λ c has. (one.holds c).0 (can_say c has)) in
      told
      ∙ sym (ap (λ o. option_or (says a) (option_and_then (said_by_known B register uprn) o)) finds
      ∙ first_says (says a) (option_and_then (said_by_known B register uprn) h) (λ some.
      owner_is a own h (λ c has. (one.holds c).0 (can_say c has)) some))
    where
      owner_is : (a : ℕ) → owner_of_uprn register uprn ≡ Some a → (h : Option ℕ) → ((c : ℕ) → holds (last_view B c) (key.Blpu uprn) ≡ true → h ≡ Some c) → is_some (says a) ≡ true
          → option_and_then (said_by_known B register uprn) h ≡ says a
      owner_is a own h holding some =
          ap (option_and_then (said_by_known B register uprn)) (holding a (has_said B register uprn a some))
          ∙ ap (λ b. cond b (says a) None) (known_owner register a uprn ((one-owner register is a uprn).0.1 own))

  pub holder_tells : lookup B register uprn ≡ told_by_holder B register uprn
  holder_tells =
      elim (owner_of_uprn register uprn) as (λ o. owner_of_uprn register uprn ≡ o → lookup B register uprn ≡ option_and_then (λ a. option_or (says a) (option_and_then (said_by_known B register uprn) (holder_from B uprn a))) o) [
        | None ↦ λ nobody. none_found says (λ c. has_or_silent B register uprn c (λ has. absurd (none_can register F B c uprn is partial (can_say c has) nobody))) register
        | Some a ↦ told_owned a
      ] refl

pub owners_alone_hold : OwnersAlone
owners_alone_hold = record {
  have = λ register F B c uprn partial has. all_own_holds register F B partial c (reached B c) uprn has;
  can = holder_can;
  nobody = none_can;
  told = λ register F B uprn is partial. holder_tells register F B uprn is partial;
}
