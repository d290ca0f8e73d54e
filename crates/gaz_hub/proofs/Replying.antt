-- Questions that are answered as steps.
use Rattle.std.proofs.Common.{◌≡◌, refl, sym, ap, ◌∙◌, subst, true≢false}
use Rattle.std.specs.Prelude.{Some, None, Result, Ok, Err, is_some}
use Rattle.gaz_keeper.specs.Keeper.{Content, IsOpen, Seen}
use Rattle.gaz_keeper.specs.declared.fault.ShelfFault.{ShelfFault}
use Rattle.gaz_keeper.specs.declared.fault.ShelfFault.TheVariants.{Store}
use Rattle.gaz_extract.specs.Readings.{Looks}
use Rattle.gaz_steps.specs.Hubs.{MeetsDoor, StandsFor, Steps, or_not_received, state_of}
use Rattle.gaz_hub.specs.Settling.{AnswersSettled, Tells}
use Rattle.gaz_steps.specs.Standing.{NothingReady}
use Rattle.gaz_steps.specs.Step.{Door, HubState, Pose, Replied, Step, Told, answer_to, blocks, question_refusal}
use Rattle.gaz_steps.specs.declared.question.Question.{Question}
use Rattle.gaz_steps.specs.declared.refusal.Refusal.{Refusal}
use Rattle.gaz_steps.specs.declared.refusal.Refusal.TheVariants as refusal
use Rattle.gaz_steps.proofs.Answers.{reads_standing}
use Rattle.gaz_steps.proofs.Leading.{follows_itself}
use Rattle.gaz_hub.proofs.Stopping.{stops_judging}
use Rattle.gaz_hub.proofs.Telling.{tells_settled}

-- what is read says this of the question, and a refusal is told as it is
pub record Says {T : Type 0} (q : Question) (say : T → Told q) (reply : Result T Refusal → Result (Told q) Refusal) : Type 0 where
  pub ok : (x : T) → reply (Ok x) ≡ Ok (say x)
  pub err : (r : Refusal) → reply (Err r) ≡ Err r

module _ {T : Type 0} (d : Door) (q : Question) (say : T → Told q) (reply : Result T Refusal → Result (Told q) Refusal) (says : Says q say reply) (let_in : question_refusal d q ≡ None) where
  -- what is read off a board on which nothing is ready says the answer
  abbrev pub IsSaid : Content → T → Type 0
  IsSaid k x = NothingReady k.files k.board → say x ≡ answer_to q d.register (state_of k)

  pub steps_read : (a c : Seen) (r : Result T ShelfFault) → IsOpen c r → Tells d a c r (IsSaid c.content) → Steps d a c (Pose q) (Replied q (reply (or_not_received r)))
  steps_read a c (Ok x) sure l =
      let step : StandsFor d a → c.unharmed → Step d (state_of a.content) (Pose q) (Replied q (Ok (say x))) (state_of c.content) = λ stood fine. (
        refl,
        record {
          let_in = let_in;
          received = l.advances.files stood fine;
          settled = record {
            follows = l.advances.board stood fine;
            settled = subst (λ F. NothingReady F c.content.board) (l.advances.files stood fine) (l.settled stood fine);
          };
          answer = l.right stood fine (l.settled stood fine);
        },
      ) in
      subst (λ k. Steps d a c (Pose q) (Replied q k)) (sym (says.ok x))
      (record {
        harm = l.advances.harm;
        stands = l.advances.stands;
        step = step;
        standing = λ stood fine. reads_standing d (state_of a.content) (Pose q) (Replied q (Ok (say x))) (state_of c.content) (step stood fine) stood.1.partial;
        stays = λ is hub. absurd (true≢false (sym is));
        was_open = λ no t. l.advances.harm (sure t);
        is_open = λ none. sure;
        reaches = λ stood t. (state_of c.content, step stood (sure t));
        idle = l.advances.idle;
        failures = l.advances.kept;
        trust = l.advances.trust;
        cause = λ stood fine e. cc;
        stops = λ sound. stops_judging d a c (state_of a.content) (state_of c.content) (Pose q) _ refl (l.advances.stops sound);
      })
  steps_read a c (Err fault) sure l =
      let step : StandsFor d a → c.unharmed → Step d (state_of a.content) (Pose q) (Replied q (Err (refusal.NotReceived fault))) (state_of c.content) = λ stood fine. (refl, record { let_in = let_in; received = l.advances.files stood fine; board = l.advances.board stood fine }) in
      let stays : (hub : HubState) → Step d hub (Pose q) (Replied q (Err (refusal.NotReceived fault))) hub = λ hub. (refl, record { let_in = let_in; received = refl; board = follows_itself (blocks d) _ _ _ refl }) in
      subst (λ k. Steps d a c (Pose q) (Replied q k)) (sym (says.err (refusal.NotReceived fault)))
      (record {
        harm = l.advances.harm;
        stands = l.advances.stands;
        step = step;
        standing = λ stood fine. reads_standing d (state_of a.content) (Pose q) (Replied q (Err (refusal.NotReceived fault))) (state_of c.content) (step stood fine) stood.1.partial;
        stays = λ is hub. stays hub;
        was_open = λ no t. absurd (true≢false no);
        is_open = λ none. let no : Some (refusal.NotReceived fault) ≡ None = none in cc;
        reaches = λ stood t. (state_of a.content, stays (state_of a.content));
        idle = l.advances.idle;
        failures = l.advances.kept;
        trust = l.advances.trust;
        cause = λ stood fine e. let store : fault ≡ Store = cc in l.cause stood fine store;
        stops = λ sound. stops_judging d a c (state_of a.content) (state_of c.content) (Pose q) _ refl (l.advances.stops sound);
      })

  pub answered_steps : {K : Type 0} (seen : K → Seen) (Calls : K → Result T ShelfFault → K → Type 0) (old new : K) (result : Result T Refusal) → AnswersSettled d seen Calls old new result
      → ((mid : K) (r : Result T ShelfFault) → Calls mid r new → Looks (seen mid) (seen new) r (IsSaid (seen mid).content))
      → Steps d (seen old) (seen new) (Pose q) (Replied q (reply result))
  answered_steps seen Calls old new result a looks =
      subst (λ k. Steps d (seen old) (seen new) (Pose q) (Replied q (reply k))) (sym a.told)
      (steps_read (seen old) (seen new) a.read a.is_open
      (tells_settled d seen Calls old new a.read IsSaid a.calls (λ mid called. looks mid a.read called)))

  pub door_read : {K : Type 0} (old new : K) (r : Result T ShelfFault) → MeetsDoor d old new (Pose q) (Replied q (reply (or_not_received r)))
  door_read old new (Ok x) =
      subst (λ k. MeetsDoor d old new (Pose q) (Replied q k)) (sym (says.ok x))
      (record {
        at_door = record {
          early = λ r e. let no : Some r ≡ None = sym e ∙ let_in in cc;
          late = λ r e. let no : Some r ≡ None = sym e ∙ let_in in absurd (true≢false (ap is_some no));
          only = λ why e. let no : None ≡ Some (refusal.Door why) = e in cc;
        };
        unasked = λ h. absurd (true≢false (sym h ∙ ap is_some let_in));
      })
  door_read old new (Err fault) =
      subst (λ k. MeetsDoor d old new (Pose q) (Replied q k)) (sym (says.err (refusal.NotReceived fault)))
      (record {
        at_door = record {
          early = λ r e. let no : Some r ≡ None = sym e ∙ let_in in cc;
          late = λ r e. let no : Some r ≡ None = sym e ∙ let_in in absurd (true≢false (ap is_some no));
          only = λ why e. let no : Some (refusal.NotReceived fault) ≡ Some (refusal.Door why) = e in cc;
        };
        unasked = λ h. absurd (true≢false (sym h ∙ ap is_some let_in));
      })

  pub answered_door : {K L : Type 0} (seen : K → Seen) (Calls : K → Result T ShelfFault → K → Type 0) (old new : K) (was now : L) (result : Result T Refusal) → AnswersSettled d seen Calls old new result
      → MeetsDoor d was now (Pose q) (Replied q (reply result))
  answered_door seen Calls old new was now result a = subst (λ k. MeetsDoor d was now (Pose q) (Replied q (reply k))) (sym a.told) (door_read was now a.read)
