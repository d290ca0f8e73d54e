-- What is declined before the keeper is called.
use Rattle.std.proofs.Common.{◌≡◌, ◌≢◌, ℕ, true, false, true≢false, not, List, refl, sym, ap, ◌∙◌, arith}
use Rattle.std.specs.Prelude.{Some, Err}
use Rattle.gaz_keeper.specs.Keeper.{IsNotOpen, Seen}
use Rattle.gaz_keeper.specs.declared.fault.ShelfFault.TheVariants.{Store}
use Rattle.gaz_steps.specs.Hubs.{Steps, cause_of, is_declined, is_declined_by, state_of}
use Rattle.gaz_steps.specs.Step.{Command, Door, HubState, Pose, Replied, Response, Step, Submit, Submitted, file_refusal, question_refusal}
use Rattle.gaz_steps.specs.Stops.{is_taken_in}
use Rattle.gaz_steps.specs.declared.answer.Answer.TheVariants.{Refused}
use Rattle.gaz_steps.specs.declared.question.Question.{Question}
use Rattle.gaz_steps.specs.declared.refusal.DoorRefusal.{DoorRefusal}
use Rattle.gaz_steps.specs.declared.refusal.Refusal.TheVariants as refusal
use Rattle.gaz_steps.proofs.Answers.{reads_standing}
use Rattle.gaz_hub.proofs.Stopping.{stops_unasked}

-- any hub stays as it is
pub declines : (d : Door) (a : Seen) (command : Command) (response : Response) → is_declined response ≡ true → is_taken_in response ≡ false → cause_of response ≢ Some Store
    → ((hub : HubState) → Step d hub command response hub) → IsNotOpen a.progress → Steps d a a command response
declines d a command response declined not never stays idle =
    record {
      harm = λ fine. fine;
      stands = λ stood fine. stood;
      step = λ stood fine. stays (state_of a.content);
      standing = λ stood fine. reads_standing d (state_of a.content) command response (state_of a.content) (stays (state_of a.content)) stood.1.partial;
      stays = λ is. stays;
      was_open = λ no t. absurd (true≢false (sym declined ∙ no));
      is_open = λ none. absurd (true≢false (sym declined ∙ ap is_declined_by none));
      reaches = λ stood t. (state_of a.content, stays (state_of a.content));
      idle = idle;
      failures = omega arith;
      trust = λ t. t;
      cause = λ stood fine is. absurd (never is);
      stops = λ sound. stops_unasked d a (state_of a.content) command response not;
    }

-- ---- by the door

-- a file
pub declines_file : (d : Door) (a : Seen) (c volume : ℕ) (bytes : List ℕ) (why : DoorRefusal) → file_refusal d c volume bytes ≡ Some why → IsNotOpen a.progress
    → Steps d a a (Submit c volume bytes) (Submitted (Refused (refusal.Door why)))
declines_file d a c volume bytes why e idle = declines d a _ _ refl refl (λ is. cc) (λ hub. record { refused = e; same = refl }) idle

-- a question
pub declines_question : (d : Door) (a : Seen) (q : Question) (why : DoorRefusal) → question_refusal d q ≡ Some why → IsNotOpen a.progress
    → Steps d a a (Pose q) (Replied q (Err (refusal.Door why)))
declines_question d a q why e idle = declines d a _ _ refl refl (λ is. cc) (λ hub. (refl, record { refused = e; same = refl })) idle
