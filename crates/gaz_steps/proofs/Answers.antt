-- What the answers of a run are read off.
use Rattle.std.proofs.Common.{◌≡◌, ℕ, Bool, true, false, cond, ◌&&◌, is_none, List, [], ◌∷◌, refl, sym, ap, ◌∙◌, subst}
use Rattle.std.specs.Prelude.{Option, Some, None, Ok, Err}
use Rattle.std.specs.FinMap as map
use Rattle.gaz_keeper.specs.Received.{Received, with_file}
use Rattle.gaz_steps.specs.Answers.{AllAnswered, AllReadOff, EveryAnswer, IsAnswerOff, IsReadOff, ReadsStanding, received_by, then_received}
use Rattle.gaz_steps.specs.Outcomes.{outcome}
use Rattle.gaz_steps.specs.Runs.{Run, is_settled}
use Rattle.gaz_steps.specs.Standing.{IsPartial, standing}
use Rattle.gaz_steps.specs.Step.{Command, Door, HubState, Pose, Refuses, Replied, Response, Step, Submit, Submits, Submitted, answer_to, blocks, file_refusal}
use Rattle.gaz_steps.specs.declared.answer.Answer.{Answer}
use Rattle.gaz_steps.specs.declared.answer.Answer.TheVariants.{New, Repeat, Taken, Refused}
use Rattle.gaz_steps.specs.declared.question.Question.{Question}
use Rattle.gaz_steps.specs.declared.refusal.DoorRefusal.{DoorRefusal}
use Rattle.gaz_steps.specs.declared.refusal.Refusal.{Refusal}
use Rattle.gaz_steps.specs.declared.refusal.Refusal.TheVariants as refusal
use Rattle.gaz_steps.proofs.Orders.{any_order_holds}
use Rattle.gaz_steps.proofs.Runs.{partial_next}
use Rattle.gaz_steps.proofs.Steps.{and_false, closed_door, goes}

-- ---- what is received

came : (F G K : Received) (o : Option (List ℕ)) (p : Option DoorRefusal) (b : Bool) → o ≡ None → p ≡ None → b ≡ true → K ≡ G → K ≡ cond (is_none o && (is_none p && b)) G F
came F G K o p b e f h k = k ∙ sym (λ i. cond (is_none (e i) && (is_none (f i) && h i)) G F)

was_there : (F G K : Received) (o : Option (List ℕ)) (there : List ℕ) (b : Bool) → o ≡ Some there → K ≡ F → K ≡ cond (is_none o && b) G F
was_there F G K o there b e k = k ∙ sym (λ i. cond (is_none (e i) && b) G F)

kept_out : (F G K : Received) (a b : Bool) → b ≡ false → K ≡ F → K ≡ cond (a && b) G F
kept_out F G K a b e k = k ∙ sym (ap (λ x. cond (a && x) G F) e ∙ ap (λ x. cond x G F) (and_false a))

module _ (d : Door) (old new : HubState) (c volume : ℕ) (bytes : List ℕ) where
  shut : (r : DoorRefusal) (b : Bool) → file_refusal d c volume bytes ≡ Some r → new ≡ old
      → new.received ≡ cond (is_none (map.get old.received (c, volume)) && (is_none (file_refusal d c volume bytes) && b)) (with_file old.received c volume bytes) old.received
  shut r b e same =
      kept_out old.received (with_file old.received c volume bytes) new.received _ _ (closed_door (file_refusal d c volume bytes) r b e) (ap (λ (h : HubState). h.received) same)

  submitted_then : (answer : Answer) → Submits d old c volume bytes answer new → new.received ≡ then_received d old.received (Submit c volume bytes) (Submitted answer)
  submitted_then (New told) s = came old.received (with_file old.received c volume bytes) new.received _ _ true s.free s.let_in refl s.received
  submitted_then (Repeat told) s = was_there old.received (with_file old.received c volume bytes) new.received _ bytes _ s.there s.received
  submitted_then (Taken digest) s = was_there old.received (with_file old.received c volume bytes) new.received _ s.others _ s.there s.received
  submitted_then (Refused (refusal.NotReceived cause)) s =
      kept_out old.received (with_file old.received c volume bytes) new.received _ _ (and_false (is_none (file_refusal d c volume bytes))) s.received
  submitted_then (Refused (refusal.ReceivedUnsettled cause)) s = came old.received (with_file old.received c volume bytes) new.received _ _ true s.free s.let_in refl s.received
  submitted_then (Refused (refusal.Door why)) s = shut _ true s.refused s.same

refused_then : (d : Door) (old : HubState) (q : Question) (r : Refusal) (new : HubState) → Refuses d old q r new → new.received ≡ old.received
refused_then d old q (refusal.NotReceived cause) new s = s.received
refused_then d old q (refusal.ReceivedUnsettled cause) new s = absurd s
refused_then d old q (refusal.Door why) new s = ap (λ (h : HubState). h.received) s.same

-- what a step receives
pub received_then : (d : Door) (old : HubState) (command : Command) (response : Response) (new : HubState) → Step d old command response new
    → new.received ≡ then_received d old.received command response
received_then d old (Submit c volume bytes) (Submitted answer) new s = submitted_then d old new c volume bytes answer s
received_then d old (Pose q) (Replied p (Ok told)) new s = s.1.received
received_then d old (Pose q) (Replied p (Err r)) new s = refused_then d old p r new s.1
received_then d old _ _ new s = absurd s

-- ---- what is answered

-- the board after a response that settles, where these files are received then
stands_then : (d : Door) (old : HubState) (command : Command) (response : Response) (new : HubState) (F : Received) → IsPartial (blocks d) old.received old.board
    → Step d old command response new → is_settled response ≡ true → new.received ≡ F → new.board ≡ standing (blocks d) F
stands_then d old command response new F partial s y e =
    any_order_holds (blocks d) new.received new.board (partial_next d old command response new partial s) ((goes d old command response new s).settled y)
    ∙ ap (standing (blocks d)) e

module _ (d : Door) (old new : HubState) (partial : IsPartial (blocks d) old.received old.board) where
  answer_off : (c volume : ℕ) (bytes : List ℕ) (answer : Answer) → Submits d old c volume bytes answer new → IsAnswerOff d old.received c volume bytes answer
  answer_off c volume bytes (New told) s =
      let board = stands_then d old (Submit c volume bytes) (Submitted (New told)) new _ partial s refl s.received in
      (s.free, sym (λ i. outcome (s.received i) (board i) c volume) ∙ s.answer)
  answer_off c volume bytes (Repeat told) s =
      let board = stands_then d old (Submit c volume bytes) (Submitted (Repeat told)) new _ partial s refl s.received in
      (s.there, sym (λ i. outcome (s.received i) (board i) c volume) ∙ s.answer)
  answer_off c volume bytes (Taken digest) s = record { others = s.others; there = s.there; differ = s.differ; digest_is = s.digest_is }
  answer_off c volume bytes (Refused r) s = tt

  read_off : (command : Command) (response : Response) → Step d old command response new → IsReadOff d old.received command response
  read_off (Submit c volume bytes) (Submitted answer) s = answer_off c volume bytes answer s
  read_off (Pose q) (Replied p (Ok told)) s =
      let board = stands_then d old (Pose q) (Replied p (Ok told)) new _ partial s refl s.1.received in
      (s.0, s.1.answer ∙ (λ i. answer_to p d.register (record { received = s.1.received i; board = board i })))
  read_off (Pose q) (Replied p (Err r)) s = (s.0, tt)
  read_off _ _ s = absurd s

-- what a step from a partial board is read off
pub reads_standing : (d : Door) (old : HubState) (command : Command) (response : Response) (new : HubState) → Step d old command response new → IsPartial (blocks d) old.received old.board
    → ReadsStanding d old command response new
reads_standing d old command response new s partial =
    record {
      partial = partial_next d old command response new partial s;
      board = λ is. stands_then d old command response new new.received partial s is refl;
      read_off = read_off d old new partial command response s;
    }

all_answered : (d : Door) (old new : HubState) (commands : List Command) (responses : List Response) → IsPartial (blocks d) old.received old.board → Run d old commands responses new
    → AllAnswered d old.received commands responses new.received
all_answered d old new [] [] partial e = record { received = ap (λ (h : HubState). h.received) e; read_off = tt }
all_answered d old new (command ∷ commands) (response ∷ responses) partial r =
    let rest = all_answered d r.0 new commands responses (partial_next d old command response r.0 partial r.1) r.2 in
    let same = received_then d old command response r.0 r.1 in
    record {
      received = rest.received ∙ ap (λ F. received_by d F commands responses) same;
      read_off = (read_off d old r.0 partial command response r.1, subst (λ F. AllReadOff d F commands responses) same rest.read_off);
    }
all_answered d old new [] (response ∷ responses) partial r = absurd r
all_answered d old new (command ∷ commands) [] partial r = absurd r

pub every_answer_holds : EveryAnswer
every_answer_holds d old new commands responses partial r = all_answered d old new commands responses partial r
