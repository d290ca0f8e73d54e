-- What one step keeps.
use Rattle.std.proofs.Common.{◌≡◌, ℕ, Bool, true, false, cond, ◌&&◌, List, refl, sym, ap, ◌∙◌, subst, true≢false, is_none}
use Rattle.std.specs.Prelude.{Option, Some, None, Ok, Err}
use Rattle.std.specs.Option.{option_or}
use Rattle.std.specs.Cmp.{Equal-is}
use Rattle.std.specs.FinMap as map
use Rattle.gaz_keeper.specs.Board.{Board}
use Rattle.gaz_keeper.specs.Received.{HasAllOf, Received, pair_cmp, with_file}
use Rattle.gaz_steps.specs.Standing.{Follows, NothingReady}
use Rattle.gaz_steps.specs.Step.{Command, Door, HubState, NotReceived, Pose, Refuses, Replied, Response, Settles, Step, Submit, Submits, Submitted, Told, TurnedAway, WasAsked, blocks, file_refusal}
use Rattle.gaz_steps.specs.Runs.{accepted, is_settled, same_pair}
use Rattle.gaz_steps.specs.declared.answer.Answer.{Answer}
use Rattle.gaz_steps.specs.declared.answer.Answer.TheVariants.{New, Repeat, Taken, Refused}
use Rattle.gaz_steps.specs.declared.question.Question.{Question}
use Rattle.gaz_steps.specs.declared.refusal.DoorRefusal.{DoorRefusal}
use Rattle.gaz_steps.specs.declared.refusal.Refusal.{Refusal}
use Rattle.gaz_steps.specs.declared.refusal.Refusal.TheVariants as refusal
use Rattle.gaz_keeper.proofs.Pairs.{pairs_total, pairs_exact}
use Rattle.gaz_steps.proofs.Leading.{follows_itself}

pub pairs_same : (p q : ℕ × ℕ) → same_pair p q ≡ true → p ≡ q
pairs_same p q e = pairs_exact p q ((Equal-is (pair_cmp p q)).0 e)

pub has_all_with : (F : Received) (c volume : ℕ) (bytes : List ℕ) → map.get F (c, volume) ≡ None → HasAllOf (with_file F c volume bytes) F
has_all_with F c volume bytes free p others at =
    map.get-insert pairs_total F (c, volume) bytes p
    ∙ elim (same_pair p (c, volume)) as (λ b. same_pair p (c, volume) ≡ b → cond b (Some bytes) (map.get F p) ≡ Some others) [
      | true ↦ λ e. let no : Some others ≡ None = sym at ∙ ap (map.get F) (pairs_same p (c, volume) e) ∙ free in cc
      | false ↦ λ _. at
    ] refl

has_itself : (F K : Received) → K ≡ F → HasAllOf K F
has_itself F K e p bytes at = ap (λ X. map.get X p) e ∙ at

-- what a step keeps, and what it adds
pub record Goes (d : Door) (old : HubState) (command : Command) (response : Response) (new : HubState) : Type 0 where
  pub all : HasAllOf new.received old.received
  pub board : Follows (blocks d) new.received old.board new.board
  pub settled : is_settled response ≡ true → NothingReady new.received new.board
  pub first : (p : ℕ × ℕ) → map.get new.received p ≡ option_or (map.get old.received p) (accepted d p command response)

pub or_none : {T : Type 0} (o : Option T) → o ≡ option_or o None
or_none None = refl
or_none (Some x) = refl

pub and_false : (a : Bool) → (a && false) ≡ false
and_false true = refl
and_false false = refl

-- what was there is what came first
stays_first : (F K : Received) (p q : ℕ × ℕ) (there bytes : List ℕ) (ok : Bool) → K ≡ F → map.get F q ≡ Some there → map.get K p ≡ option_or (map.get F p) (cond (same_pair p q && ok) (Some bytes) None)
stays_first F K p q there bytes ok same at =
    ap (λ X. map.get X p) same
    ∙ elim (same_pair p q) as (λ b. same_pair p q ≡ b → map.get F p ≡ option_or (map.get F p) (cond (b && ok) (Some bytes) None)) [
      | true ↦ λ e. let here : map.get F p ≡ Some there = ap (map.get F) (pairs_same p q e) ∙ at in here ∙ ap (λ o. option_or o (cond ok (Some bytes) None)) (sym here)
      | false ↦ λ _. or_none _
    ] refl

-- a new file is what came first
new_first : (F K : Received) (p : ℕ × ℕ) (c volume : ℕ) (bytes : List ℕ) (ok : Bool) → ok ≡ true → K ≡ with_file F c volume bytes → map.get F (c, volume) ≡ None → map.get K p ≡ option_or (map.get F p) (cond (same_pair p (c, volume) && ok) (Some bytes) None)
new_first F K p c volume bytes ok let_in same free =
    ap (λ X. map.get X p) same ∙ map.get-insert pairs_total F (c, volume) bytes p
    ∙ elim (same_pair p (c, volume)) as (λ b. same_pair p (c, volume) ≡ b → cond b (Some bytes) (map.get F p) ≡ option_or (map.get F p) (cond (b && ok) (Some bytes) None)) [
      | true ↦ λ e. let here : map.get F p ≡ None = ap (map.get F) (pairs_same p (c, volume) e) ∙ free in
          sym (ap (λ b. cond b (Some bytes) None) let_in) ∙ ap (λ o. option_or o (cond ok (Some bytes) None)) (sym here)
      | false ↦ λ _. or_none _
    ] refl

-- what isn't accepted isn't received
refused_first : (F K : Received) (p : ℕ × ℕ) (b ok : Bool) (bytes : List ℕ) → ok ≡ false → K ≡ F → map.get K p ≡ option_or (map.get F p) (cond (b && ok) (Some bytes) None)
refused_first F K p true ok bytes out same = ap (λ X. map.get X p) same ∙ or_none _ ∙ ap (λ x. option_or (map.get F p) (cond x (Some bytes) None)) (sym out)
refused_first F K p false ok bytes out same = ap (λ X. map.get X p) same ∙ or_none _

let_in_once : (o : Option DoorRefusal) (b : Bool) → o ≡ None → b ≡ true → (is_none o && b) ≡ true
let_in_once o b e h = ap (λ x. is_none x && b) e ∙ h

pub closed_door : (o : Option DoorRefusal) (r : DoorRefusal) (b : Bool) → o ≡ Some r → (is_none o && b) ≡ false
closed_door o r b e = ap (λ x. is_none x && b) e

settles_in : (d : Door) (F K : Received) (old new : Board) → K ≡ F → Settles d F old new → Follows (blocks d) K old new × NothingReady K new
settles_in d F K old new e s = subst (λ X. Follows (blocks d) X old new × NothingReady X new) (sym e) (s.follows, s.settled)

from_same : (d : Door) (old new : HubState) (command : Command) (response : Response) → new ≡ old → is_settled response ≡ false
    → ((p : ℕ × ℕ) → map.get new.received p ≡ option_or (map.get old.received p) (accepted d p command response)) → Goes d old command response new
from_same d old new command response e open_still first =
    record {
      all = has_itself _ _ (ap (λ h. h.received) e);
      board = follows_itself (blocks d) _ _ _ (ap (λ h. h.board) e);
      settled = λ y. absurd (true≢false (sym y ∙ open_still));
      first = first;
    }

from_asked : (d : Door) (old new : HubState) (q p : Question) (told : Told p) → WasAsked d old p told new → Goes d old (Pose q) (Replied p (Ok told)) new
from_asked d old new q p told w =
    let s = settles_in d old.received new.received old.board new.board w.received w.settled in
    record {
      all = has_itself _ _ w.received;
      board = s.0;
      settled = λ _. s.1;
      first = λ k. ap (λ X. map.get X k) w.received ∙ or_none _;
    }

from_not_received : (d : Door) (old new : HubState) (asked command : Command) (response : Response) → NotReceived d old asked new → is_settled response ≡ false
    → ((p : ℕ × ℕ) → map.get new.received p ≡ option_or (map.get old.received p) (accepted d p command response)) → Goes d old command response new
from_not_received d old new asked command response n open_still first =
    record {
      all = has_itself _ _ n.received;
      board = subst (λ X. Follows (blocks d) X old.board new.board) (sym n.received) n.board;
      settled = λ y. absurd (true≢false (sym y ∙ open_still));
      first = first;
    }

turned_goes : (d : Door) (old new : HubState) (c volume : ℕ) (bytes : List ℕ) (why : DoorRefusal) → TurnedAway d old (Submit c volume bytes) why new
    → Goes d old (Submit c volume bytes) (Submitted (Refused (refusal.Door why))) new
turned_goes d old new c volume bytes why t =
    from_same d old new _ _ t.same refl (λ p. refused_first old.received new.received p _ _ bytes (closed_door (file_refusal d c volume bytes) why true t.refused) (ap (λ h. h.received) t.same))

still : (d : Door) (old : HubState) (command : Command) (new : HubState) (response : Response) → new ≡ old → is_settled response ≡ false
    → ((p : ℕ × ℕ) → accepted d p command response ≡ None) → Goes d old command response new
still d old command new response e open_still none =
    from_same d old new command response e open_still (λ p. ap (λ h. map.get h.received p) e ∙ or_none _ ∙ ap (option_or (map.get old.received p)) (sym (none p)))

-- a refusal of a question
refuses_goes : (d : Door) (old : HubState) (q p : Question) (r : Refusal) (new : HubState) → Refuses d old p r new → Goes d old (Pose q) (Replied p (Err r)) new
refuses_goes d old q p (refusal.NotReceived cause) new s =
    from_not_received d old new _ (Pose q) _ s refl (λ k. ap (λ X. map.get X k) s.received ∙ or_none _)
refuses_goes d old q p (refusal.ReceivedUnsettled cause) new s = absurd s
refuses_goes d old q p (refusal.Door why) new s = still d old (Pose q) new _ s.same refl (λ k. refl)

submits_goes : (d : Door) (old : HubState) (c volume : ℕ) (bytes : List ℕ) (answer : Answer) (new : HubState) → Submits d old c volume bytes answer new
    → Goes d old (Submit c volume bytes) (Submitted answer) new
submits_goes d old c volume bytes (New told) new s =
    let in_new = settles_in d new.received new.received old.board new.board refl s.settled in
    record {
      all = subst (λ X. HasAllOf X old.received) (sym s.received) (has_all_with old.received c volume bytes s.free);
      board = in_new.0;
      settled = λ _. in_new.1;
      first = λ p. new_first old.received new.received p c volume bytes _ (let_in_once _ true s.let_in refl) s.received s.free;
    }
submits_goes d old c volume bytes (Repeat told) new s =
    let x = settles_in d old.received new.received old.board new.board s.received s.settled in
    record { all = has_itself _ _ s.received; board = x.0; settled = λ _. x.1; first = λ p. stays_first old.received new.received p (c, volume) bytes bytes _ s.received s.there }
submits_goes d old c volume bytes (Taken digest) new s =
    let x = settles_in d old.received new.received old.board new.board s.received s.settled in
    record { all = has_itself _ _ s.received; board = x.0; settled = λ _. x.1; first = λ p. stays_first old.received new.received p (c, volume) s.others bytes _ s.received s.there }
submits_goes d old c volume bytes (Refused (refusal.NotReceived cause)) new s =
    from_not_received d old new _ _ _ s refl (λ p. refused_first old.received new.received p _ _ bytes (and_false (is_none (file_refusal d c volume bytes))) s.received)
submits_goes d old c volume bytes (Refused (refusal.ReceivedUnsettled cause)) new s =
    record {
      all = subst (λ X. HasAllOf X old.received) (sym s.received) (has_all_with old.received c volume bytes s.free);
      board = s.board;
      settled = λ y. absurd (true≢false (sym y));
      first = λ p. new_first old.received new.received p c volume bytes _ (let_in_once _ true s.let_in refl) s.received s.free;
    }
submits_goes d old c volume bytes (Refused (refusal.Door why)) new s = turned_goes d old new c volume bytes why s

pub goes : (d : Door) (old : HubState) (command : Command) (response : Response) (new : HubState) → Step d old command response new → Goes d old command response new
goes d old (Submit c volume bytes) (Submitted answer) new s = submits_goes d old c volume bytes answer new s
goes d old (Pose q) (Replied p (Ok told)) new s = from_asked d old new q p told s.1
goes d old (Pose q) (Replied p (Err r)) new s = refuses_goes d old q p r new s.1
goes d old _ _ new s = absurd s
