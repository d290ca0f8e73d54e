-- What a hub answers stays where its register grows: who joined has sent nothing.
use Rattle.std.proofs.Common.{◌≡◌, ℕ, ◌≤◌, ◌<◌, true, false, true≢false, cond, List, [], ◌∷◌, ◌++◌, length, map, get_or, eqb, eqb-true, eq-eqb, inl, inr, refl, sym, ap, ◌∙◌, subst, arith}
use Rattle.std.proofs.Math.Path.{fun_ext}
use Rattle.std.proofs.lemmas.Bool.{cases_order}
use Rattle.std.specs.Prelude.{⊤, Bool, not, ◌&&◌, ◌+◌, suc, is_some, filter, Option, Some, None, option_map, slice_get, unwrap_or}
use Rattle.std.specs.List.{AllAdjacentBelow, cons_option, filter_map, find, flat_map}
use Rattle.std.specs.Option.{option_and_then, option_map_or}
use Rattle.gaz_extract.specs.Closing.{closed_among, closed_at_owner, closed_by, closed_of, closed_streets, is_on_closed}
use Rattle.gaz_extract.specs.Finding.{as_blpu, as_descriptor, as_street, blpu_at, descriptor_at, is_closed, street_at}
use Rattle.gaz_extract.specs.Lookups.{descriptor_now, line_at, line_now, lookup, said_by, address_in}
use Rattle.gaz_extract.specs.Lines.{line_text}
use Rattle.gaz_extract.specs.declared.found.Found.{Found}
use Rattle.gaz_records.specs.Blpus.{BlpuValue}
use Rattle.gaz_records.specs.Descriptors.{DescriptorValue}
use Rattle.gaz_records.specs.Lpis.{LpiValue}
use Rattle.gaz_records.specs.declared.item.Item.{Item}
use Rattle.gaz_records.specs.declared.item.Item.TheVariants as item
use Rattle.gaz_records.specs.declared.item.Kind.TheVariants as kind
use Rattle.gaz_records.specs.declared.key.Key.TheVariants as key
use Rattle.gaz_register.proofs.Grown.{owners-stay}
use Rattle.gaz_register.proofs.Ownership.{one-owner}
use Rattle.gaz_register.specs.Growing.{Extends}
use Rattle.gaz_register.specs.Registers.{Blocks, CustodianValue, IsRegister, RegisterValue, blocks_of, knows, owner_of_usrn, within}
use Rattle.gaz_keeper.specs.Board.{Board, Judgement, empty_board, last_view, reached}
use Rattle.gaz_keeper.specs.Received.{Received}
use Rattle.gaz_views.specs.Judgements.{views}
use Rattle.gaz_views.specs.View.{empty_view}
use Rattle.gaz_views.specs.Words.{comes_after, first_of, is_approved, is_of, rest_of}
use Rattle.gaz_views.proofs.Emptiness.{get_none, no_entries_yet}
use Rattle.gaz_steps.specs.Growth.{AnswersStay}
use Rattle.gaz_steps.specs.Hubs.{AreKnown, door_of, is_foreign}
use Rattle.gaz_steps.specs.Standing.{IsPartial, Leads, judge_one, with_next}
use Rattle.gaz_steps.specs.Step.{Command, HubState, Pose, Submit, answer_to, question_refusal, refusal_at_door, turned_away, or_foreign}
use Rattle.gaz_steps.specs.declared.question.Question.{Question}
use Rattle.gaz_steps.specs.declared.question.Question.TheVariants.{Ask, Extract, ListClosed, LookUp, Settle, Stand}
use Rattle.gaz_steps.specs.declared.refusal.DoorRefusal.{DoorRefusal}
use Rattle.gaz_steps.specs.declared.refusal.DoorRefusal.TheVariants.{UnknownCustodian}
use Rattle.gaz_steps.proofs.Orders.{ready_gives}

-- ---- custodians by rising code

-- the codes rise from this number on
abbrev Rising : ℕ → RegisterValue → Type 0
Rising n [] = ⊤
Rising n (x ∷ xs) = (n ≤ x.code) × Rising (suc x.code) xs

from_adjacent : (n : ℕ) (x : CustodianValue) (xs : RegisterValue) → n ≤ x.code → AllAdjacentBelow (λ a b. a.code < b.code) (x ∷ xs) (length (x ∷ xs)) → Rising n (x ∷ xs)
from_adjacent n x [] low up = (low, tt)
from_adjacent n x (y ∷ ys) low up = (low, from_adjacent (suc x.code) y ys (let next = up 0 x (omega arith) in omega arith) (λ k d h. subst (λ j. (get_or (y ∷ ys) k d).code < (get_or (x ∷ y ∷ ys) j d).code) (let e : suc k + 1 ≡ suc (k + 1) = omega arith in e) (up (suc k) d (omega arith))))

register_rises : (register : RegisterValue) → IsRegister register → Rising 0 register
register_rises [] is = tt
register_rises (x ∷ xs) is = from_adjacent 0 x xs (omega arith) is.codes_rise

here : (x : CustodianValue) (xs : RegisterValue) → knows (x ∷ xs) x.code ≡ true
here x xs = ap (λ b. is_some (cond b (Some x) (find (λ (y : CustodianValue). eqb y.code x.code) xs))) (eq-eqb x.code x.code refl)

above : (n : ℕ) (xs : RegisterValue) → Rising n xs → (c : ℕ) → knows xs c ≡ true → n ≤ c
above n [] r c e = absurd (true≢false (sym e))
above n (x ∷ xs) r c e =
    elim (eqb x.code c) as (λ b. eqb x.code c ≡ b → is_some (cond b (Some x) (find (λ (y : CustodianValue). eqb y.code c) xs)) ≡ true → n ≤ c) [
      | true ↦ λ t _. subst (λ k. n ≤ k) (eqb-true x.code c t) r.0
      | false ↦ λ _ later. let first = r.0 in let more = above (suc x.code) xs r.1 c later in omega arith
    ] refl e

-- another code is looked for behind the first
behind : (x : CustodianValue) (xs : RegisterValue) (c : ℕ) → x.code < c → knows (x ∷ xs) c ≡ knows xs c
behind x xs c less =
    elim (eqb x.code c) as (λ b. eqb x.code c ≡ b → is_some (cond b (Some x) (find (λ (y : CustodianValue). eqb y.code c) xs)) ≡ knows xs c) [
      | true ↦ λ t. let same = eqb-true x.code c t in absurd (omega arith)
      | false ↦ λ _. refl
    ] refl

-- nobody has a code below the first
below : (n : ℕ) (xs : RegisterValue) → Rising n xs → (c : ℕ) → c < n → knows xs c ≡ false
below n xs r c less =
    elim (knows xs c) as (λ b. knows xs c ≡ b → b ≡ false) [
      | true ↦ λ t. let low = above n xs r c t in absurd (omega arith)
      | false ↦ λ _. refl
    ] refl

module _ {T : Type 0} (h : ℕ → List T) where
  abbrev all_of : RegisterValue → List T
  all_of register = flat_map (λ c. h c.code) register

  -- where who isn't among the old ones tells nothing, all tell what the old ones tell
  merged : (n : ℕ) (xs ys : RegisterValue) → Rising n xs → Rising n ys
      → ((c : ℕ) → knows ys c ≡ true → knows xs c ≡ true) → ((c : ℕ) → knows xs c ≡ true → knows ys c ≡ false → h c ≡ []) → all_of xs ≡ all_of ys
  merged n [] [] r s sub none = refl
  merged n [] (y ∷ ys) r s sub none = absurd (true≢false (sym (sub y.code (here y ys))))
  merged n (x ∷ xs) [] r s sub none =
      ap (λ l. l ++ all_of xs) (none x.code (here x xs) refl)
      ∙ merged (suc x.code) xs [] r.1 tt (λ c e. absurd (true≢false (sym e))) (λ c e f. none c (behind x xs c (above (suc x.code) xs r.1 c e) ∙ e) f)
  merged n (x ∷ xs) (y ∷ ys) r s sub none = elim (cases_order x.code y.code) [
    | inl same ↦
        let t : Rising (suc x.code) ys = subst (λ k. Rising (suc k) ys) (sym same) s.1 in
        ap (λ l. l ++ all_of xs) (ap h same)
        ∙ ap (λ l. h y.code ++ l)
        (merged (suc x.code) xs ys r.1 t
        (λ c e. let low = above (suc x.code) ys t c e in sym (behind x xs c low) ∙ sub c (behind y ys c (omega arith) ∙ e))
        (λ c e f. let low = above (suc x.code) xs r.1 c e in none c (behind x xs c low ∙ e) (behind y ys c (omega arith) ∙ f)))
    | inr (inl less) ↦
        let t : Rising (suc x.code) (y ∷ ys) = (omega arith, s.1) in
        ap (λ l. l ++ all_of xs) (none x.code (here x xs) (below (suc x.code) (y ∷ ys) t x.code (omega arith)))
        ∙ merged (suc x.code) xs (y ∷ ys) r.1 t
        (λ c e. let low = above (suc x.code) (y ∷ ys) t c e in sym (behind x xs c low) ∙ sub c e)
        (λ c e f. let low = above (suc x.code) xs r.1 c e in none c (behind x xs c low ∙ e) f)
    | inr (inr more) ↦
        absurd (true≢false (sym (sub y.code (here y ys)) ∙ below x.code (x ∷ xs) (omega arith, r.1) y.code more))
  ]

-- ---- what some tell, one by one

by_one : {X : Type 0} (tells : CustodianValue → Option X) (register : RegisterValue) → filter_map tells register ≡ flat_map (λ c. cons_option (tells c) []) register
by_one tells [] = refl
by_one tells (c ∷ register) = joined (tells c) ∙ ap (λ l. cons_option (tells c) [] ++ l) (by_one tells register)
  where
    joined : (o : Option _) → cons_option o (filter_map tells register) ≡ cons_option o [] ++ filter_map tells register
    joined None = refl
    joined (Some x) = refl

-- ---- who joined

module _ (old grown : RegisterValue) (is_old : IsRegister old) (is_grown : IsRegister grown) (more : Extends old grown)
    (F : Received) (B : Board) (known : AreKnown (door_of old) F) (partial : IsPartial (blocks_of old) F B) where
  -- whom the old register doesn't know has nothing judged
  unjudged : (c : ℕ) → knows old c ≡ false → (X : Board) (order : List ℕ) (Y : Board) → X c ≡ [] → Leads (blocks_of old) F X order Y → Y c ≡ []
  unjudged c joined_later X [] Y bare leads = ap (λ (Z : Board). Z c) leads ∙ bare
  unjudged c joined_later X (d ∷ order) Y bare leads =
      unjudged c joined_later (judge_one (blocks_of old) F X d) order Y
      (elim (eqb c d) as (λ b. eqb c d ≡ b → cond b (with_next (blocks_of old) F X c) (X c) ≡ []) [
        | true ↦ λ t.
            let sent : knows old d ≡ true = known (d, reached X d + 1) (ap is_some (ready_gives F X d leads.0).came) in
            absurd (true≢false (sym (ap (knows old) (eqb-true c d t) ∙ sent) ∙ joined_later))
        | false ↦ λ _. bare
      ] refl)
      leads.1

  bare_view : (c : ℕ) → knows old c ≡ false → last_view B c ≡ empty_view
  bare_view c joined_later = ap (λ (js : List Judgement). unwrap_or (slice_get (views js) (length js)) empty_view) (unjudged c joined_later empty_board partial.order B refl partial.leads)

  -- ---- whose a number is

  new_usrn : (n c : ℕ) → owner_of_usrn old n ≡ None → owner_of_usrn grown n ≡ Some c → knows old c ≡ false
  new_usrn n c nobody now =
      elim (knows old c) as (λ b. knows old c ≡ b → b ≡ false) [
        | true ↦ λ t.
            let had = ap (λ (b : Blocks). within b.usrn n) (sym (more.blocks c t)) ∙ (one-owner grown is_grown c n).1.1 now in
            let joined_later : Some c ≡ None = sym ((one-owner old is_old c n).1.0 had) ∙ nobody in
            cc
        | false ↦ λ _. refl
      ] refl

  -- what is told of an owner is the same, where of who joined what is told of nobody is told
  module _ {T : Type 0} (tells : Option ℕ → T) (joined : (c : ℕ) → knows old c ≡ false → tells (Some c) ≡ tells None) where
    told_same : (o g : Option ℕ) → ((c : ℕ) → o ≡ Some c → g ≡ Some c) → ((c : ℕ) → o ≡ None → g ≡ Some c → knows old c ≡ false) → tells g ≡ tells o
    told_same (Some c) g stays new = ap tells (stays c refl)
    told_same None None stays new = refl
    told_same None (Some c) stays new = joined c (new c refl refl)

    same_usrn : (n : ℕ) → tells (owner_of_usrn grown n) ≡ tells (owner_of_usrn old n)
    same_usrn n = told_same (owner_of_usrn old n) (owner_of_usrn grown n) (λ c. (owners-stay old grown is_old is_grown more c n).1) (λ c. new_usrn n c)

  -- ---- look-ups

  same_descriptor : (c : ℕ) (lpi : LpiValue) → descriptor_now B grown c lpi ≡ descriptor_now B old c lpi
  same_descriptor c lpi =
      elim (is_some (street_at (last_view B c) lpi.usrn)) as (λ b. option_and_then tells (cond b (Some c) (owner_of_usrn grown lpi.usrn)) ≡ option_and_then tells (cond b (Some c) (owner_of_usrn old lpi.usrn))) [
        | true ↦ refl
        | false ↦ same_usrn (option_and_then tells) (λ d joined_later. ap (λ v. descriptor_at v lpi.usrn lpi.lang) (bare_view d joined_later) ∙ ap (option_and_then as_descriptor) (get_none (key.Descriptor lpi.usrn lpi.lang))) lpi.usrn
      ]
    where
      tells : ℕ → Option DescriptorValue
      tells owner = descriptor_at (last_view B owner) lpi.usrn lpi.lang

  same_line : (c : ℕ) (address : Option LpiValue) (blpu : BlpuValue) → line_at B grown c address blpu ≡ line_at B old c address blpu
  same_line c None blpu = refl
  same_line c (Some lpi) blpu = ap (option_map (λ descriptor. line_text lpi descriptor blpu)) (same_descriptor c lpi)

  same_said : (uprn c : ℕ) → said_by B grown uprn c ≡ said_by B old uprn c
  same_said uprn c = said (blpu_at (last_view B c) uprn)
    where
      says : RegisterValue → BlpuValue → Found
      says register blpu = record { custodian = c; uprn = uprn; status = blpu.status; line = line_now B register c uprn blpu }

      said : (o : Option BlpuValue) → option_map (says grown) o ≡ option_map (says old) o
      said None = refl
      said (Some blpu) = ap (λ l. Some (record { custodian = c; uprn = uprn; status = blpu.status; line = l })) (same_line c (address_in (last_view B c) uprn) blpu)

  silent : (uprn c : ℕ) → knows old c ≡ false → said_by B old uprn c ≡ None
  silent uprn c joined_later = ap (option_map says) (ap (λ v. blpu_at v uprn) (bare_view c joined_later) ∙ ap (option_and_then as_blpu) (get_none (key.Blpu uprn)))
    where
      says : BlpuValue → Found
      says blpu = record { custodian = c; uprn = uprn; status = blpu.status; line = line_now B old c uprn blpu }

  same_lookup : (uprn : ℕ) → lookup B grown uprn ≡ lookup B old uprn
  same_lookup uprn =
      let told = λ (c : ℕ). cons_option (said_by B old uprn c) [] in
      ap (λ says. first_of (filter_map (λ (c : CustodianValue). says c.code) grown)) (fun_ext (same_said uprn))
      ∙ ap first_of (by_one (λ c. said_by B old uprn c.code) grown
      ∙ merged told 0 grown old (register_rises grown is_grown) (register_rises old is_old) more.custodians (λ c _ joined_later. ap (λ o. cons_option o []) (silent uprn c joined_later))
      ∙ sym (by_one (λ c. said_by B old uprn c.code) old))

  -- ---- addresses on closed streets

  same_closed_at : (usrn : ℕ) → closed_at_owner B grown usrn ≡ closed_at_owner B old usrn
  same_closed_at usrn = same_usrn (λ o. option_map_or (λ owner. is_closed (last_view B owner) usrn) o false) (λ c joined_later. ap (λ v. is_closed v usrn) (bare_view c joined_later) ∙ ap (λ o. option_map_or (λ s. is_some s.end) (option_and_then as_street o) false) (get_none (key.Street usrn))) usrn

  same_on_closed : (c : ℕ) (lpi : LpiValue) → is_on_closed B grown c lpi ≡ is_on_closed B old c lpi
  same_on_closed c lpi = ap (λ b. is_approved lpi.status && (not (is_some (street_at (last_view B c) lpi.usrn)) && b)) (same_closed_at lpi.usrn)

  same_closed_by : (c : ℕ) (i : Item) → closed_by B grown c i ≡ closed_by B old c i
  same_closed_by c (item.Lpi lpi) = ap (λ b. cond b (Some (record { custodian = c; lpi = lpi.key; usrn = lpi.usrn })) None) (same_on_closed c lpi)
  same_closed_by c (item.Street x) = refl
  same_closed_by c (item.Descriptor x) = refl
  same_closed_by c (item.Blpu x) = refl
  same_closed_by c (item.Xref x) = refl
  same_closed_by c (item.Release x) = refl
  same_closed_by c (item.Adopt x) = refl

  same_closed_of : (c : ℕ) → closed_of B grown c ≡ closed_of B old c
  same_closed_of c = ap (λ tells. filter_map tells (rest_of (last_view B c) kind.Lpi None)) (fun_ext (same_closed_by c))

  bare_closed : (c : ℕ) → knows old c ≡ false → closed_of B old c ≡ []
  bare_closed c joined_later =
      ap (λ v. closed_among B old c (rest_of v kind.Lpi None)) (bare_view c joined_later)
      ∙ ap (λ es. closed_among B old c (map (λ e. e.1) (filter (λ e. is_of kind.Lpi e.0 && comes_after None e.0) es))) no_entries_yet

  same_closed : closed_streets B grown ≡ closed_streets B old
  same_closed =
      ap (λ tells. flat_map tells grown) (fun_ext (λ (c : CustodianValue). same_closed_of c.code))
      ∙ merged (closed_of B old) 0 grown old (register_rises grown is_grown) (register_rises old is_old) more.custodians (λ c _ joined_later. bare_closed c joined_later)

-- ---- the door

module _ (old grown : RegisterValue) (more : Extends old grown) where
  -- where the code is known, what else is asked at the door tells
  known_in : (c : ℕ) (unknown : DoorRefusal) (else_told : Option DoorRefusal) → cond (not (knows old c)) (Some unknown) else_told ≡ None → cond (not (knows grown c)) (Some unknown) else_told ≡ None
  known_in c unknown else_told e =
      elim (knows old c) as (λ b. knows old c ≡ b → cond (not b) (Some unknown) else_told ≡ None → cond (not (knows grown c)) (Some unknown) else_told ≡ None) [
        | true ↦ λ t told. ap (λ b. cond (not b) (Some unknown) else_told) (more.custodians c t) ∙ told
        | false ↦ λ _ told. absurd (some_is_none told)
      ] refl e
    where
      some_is_none : Some unknown ≡ None → ⊥
      some_is_none joined_later = cc

  away_in : (c volume size : ℕ) → turned_away (door_of old) c volume size ≡ None → turned_away (door_of grown) c volume size ≡ None
  away_in c volume size e = known_in c UnknownCustodian _ e

  file_in : (foreign : Bool) (was is : Option DoorRefusal) → (was ≡ None → is ≡ None) → or_foreign foreign was ≡ None → or_foreign foreign is ≡ None
  file_in foreign (Some r) is to e = let joined_later : Some r ≡ None = e in cc
  file_in foreign None is to e = ap (or_foreign foreign) (to refl) ∙ e

  asked_in : (q : Question) → question_refusal (door_of old) q ≡ None → question_refusal (door_of grown) q ≡ None
  asked_in (Ask c volume) e = away_in c volume 0 e
  asked_in (Stand c) e = known_in c UnknownCustodian None e
  asked_in Settle e = e
  asked_in (LookUp uprn) e = e
  asked_in (Extract c volume) e = away_in c volume 0 e
  asked_in ListClosed e = e

  let_in : (command : Command) → refusal_at_door (door_of old) command ≡ None → refusal_at_door (door_of grown) command ≡ None
  let_in (Submit c volume bytes) e = file_in (is_foreign bytes) (turned_away (door_of old) c volume (length bytes)) (turned_away (door_of grown) c volume (length bytes)) (away_in c volume (length bytes)) e
  let_in (Pose q) e = asked_in q e

same_answer : (old grown : RegisterValue) (hub : HubState) (q : Question) → IsRegister old → IsRegister grown → Extends old grown → AreKnown (door_of old) hub.received → IsPartial (blocks_of old) hub.received hub.board
    → answer_to q grown hub ≡ answer_to q old hub
same_answer old grown hub (Ask c volume) is_old is_grown more known partial = refl
same_answer old grown hub (Stand c) is_old is_grown more known partial = refl
same_answer old grown hub Settle is_old is_grown more known partial = refl
same_answer old grown hub (LookUp uprn) is_old is_grown more known partial = same_lookup old grown is_old is_grown more hub.received hub.board known partial uprn
same_answer old grown hub (Extract c volume) is_old is_grown more known partial = refl
same_answer old grown hub ListClosed is_old is_grown more known partial = same_closed old grown is_old is_grown more hub.received hub.board known partial

pub answers_stay_holds : AnswersStay
answers_stay_holds = record {
  let_in = λ old grown command more. let_in old grown more command;
  answers = same_answer;
}
