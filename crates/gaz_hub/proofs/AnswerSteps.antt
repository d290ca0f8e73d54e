-- Answers as steps.
use Rattle.std.proofs.Common.{◌≡◌, ℕ, Bool, true, false, true≢false, List, refl, sym, ap, ◌∙◌, subst, arith}
use Rattle.std.specs.Prelude.{Option, Some, None, is_some, Ok, Err}
use Rattle.std.specs.FinMap as map
use Rattle.gaz_keeper.proofs.Pairs.{there_now}
use Rattle.gaz_keeper.specs.Board.{Board, empty_board}
use Rattle.gaz_keeper.specs.Keeper.{Content, Enters, IsNew, IsNotOpen, Seen, with_received}
use Rattle.gaz_keeper.specs.Received.{Received, with_file}
use Rattle.gaz_keeper.specs.declared.fault.ShelfFault.{ShelfFault}
use Rattle.gaz_keeper.specs.declared.fault.ShelfFault.TheVariants.{Store}
use Rattle.gaz_hub.specs.Asked.{IsAgain, IsOfBefore, IsOutcome, IsPastDoor, TakesIn}
use Rattle.gaz_steps.specs.Hubs.{Reaches, StandsFor, Steps, is_declined, state_of}
use Rattle.gaz_hub.specs.Settling.{Tells}
use Rattle.gaz_steps.specs.Standing.{Follows, Leads, NothingReady}
use Rattle.gaz_steps.specs.Step.{Door, HubState, NotReceived, Step, Submit, Submits, Submitted, Unsettled, WasNew, blocks, file_refusal}
use Rattle.gaz_steps.specs.declared.answer.Answer.{Answer}
use Rattle.gaz_steps.specs.declared.answer.Answer.TheVariants.{New, Repeat, Taken, Refused}
use Rattle.gaz_steps.specs.declared.outcome.Outcome.{Outcome}
use Rattle.gaz_steps.specs.declared.refusal.Refusal.TheVariants as refusal
use Rattle.gaz_hub.proofs.Advancing.{may_keep}
use Rattle.gaz_steps.proofs.Answers.{reads_standing}
use Rattle.gaz_steps.proofs.Leading.{follows_itself, follows_more, follows_on}
use Rattle.gaz_steps.proofs.Steps.{has_all_with}
use Rattle.gaz_hub.proofs.Stopping.{stops_judging, stops_not_received, stops_received, stops_settled}
use Rattle.gaz_steps.proofs.Known.{early_let_in, is_known, known_with}

-- ---- a new file

module _ (d : Door) (a b c : Seen) (code volume : ℕ) (bytes : List ℕ) (let_in : file_refusal d code volume bytes ≡ None)
    (came : Enters {T = Unit {0}} a b (Ok tt) (IsNew a.content code volume) (with_received a.content code volume bytes)) where
  stood_then : StandsFor d a → IsNew a.content code volume → b.unharmed → StandsFor d b
  stood_then stood free fine =
      let done = came.done stood.0 free fine in (
        came.stands stood.0 free fine,
        may_keep d (with_received a.content code volume bytes) b.content (ap (λ (k : Content). k.files) done) (ap (λ (k : Content). k.board) done)
            (record {
              known = known_with d a.content.files code volume bytes (is_known d code volume bytes let_in) stood.1.known;
              partial = follows_more (blocks d) a.content.files _ (has_all_with a.content.files code volume bytes free) empty_board a.content.board stood.1.partial;
            }),
      )

  -- what was received at the end
  files_then : {T : Type 0} (r : _) (P : T → Type 0) → Tells d b c r P → StandsFor d a → IsNew a.content code volume → c.unharmed → c.content.files ≡ with_file a.content.files code volume bytes
  files_then r P l stood free fine =
      let mid = l.advances.harm fine in
      l.advances.files (stood_then stood free mid) fine ∙ ap (λ (k : Content). k.files) (came.done stood.0 free mid)

  board_then : {T : Type 0} (r : _) (P : T → Type 0) → Tells d b c r P → StandsFor d a → IsNew a.content code volume → c.unharmed → Follows (blocks d) c.content.files a.content.board c.content.board
  board_then r P l stood free fine =
      let mid = l.advances.harm fine in
      let now = stood_then stood free mid in
      let f = l.advances.board now fine in
      let start = ap (λ (k : Content). k.board) (came.done stood.0 free mid) in
      record { order = f.order; leads = subst (λ (x : Received × Board). Leads (blocks d) x.0 x.1 f.order c.content.board) (λ i. (sym (l.advances.files now fine) i, start i)) f.leads }

  pub taken_new : (told : Outcome) → (c.trusted → c.unharmed) → Tells d b c (Ok told) (IsOutcome c.content.files c.content.board code volume) → TakesIn d a c code volume bytes (New told)
  taken_new told sure l =
      let step : StandsFor d a → IsNew a.content code volume → c.unharmed → Submits d (state_of a.content) code volume bytes (New told) (state_of c.content) = λ stood free fine.
      let now = stood_then stood free (l.advances.harm fine) in
      let files = files_then _ _ l stood free fine in
      let closed = l.settled now fine in
      record {
        let_in = let_in;
        free = free;
        received = files;
        settled = record { follows = board_then _ _ l stood free fine; settled = closed };
        answer = l.right now fine (ap is_some (there_now a.content.files c.content.files code volume bytes files)) closed;
      } in
      record {
        harm = λ fine. came.harm (l.advances.harm fine);
        stands = λ stood free fine. l.advances.stands (stood_then stood free (l.advances.harm fine)) fine;
        step = step;
        was_open = λ no t. came.harm (l.advances.harm (sure t));
        is_open = λ none. sure;
        reaches = λ stood free t. (state_of c.content, step stood free (sure t));
        idle = l.advances.idle;
        kept = let x = came.counts.kept in let y = l.advances.kept in omega arith;
        trust = λ t. came.counts.trust (l.advances.trust t);
        cause = λ stood free fine e. cc;
        stops = λ sound free.
            stops_received d a b code volume bytes let_in sound free c (Submitted (New told)) came l.advances.harm (l.advances.stops (λ fine. stood_then (sound (came.harm fine)) (free (came.harm fine)) fine));
      }

  pub taken_unsettled : (e : ShelfFault) → (b.trusted → b.unharmed) → Tells {T = Outcome} d b c (Err e) (IsOutcome c.content.files c.content.board code volume) → TakesIn d a c code volume bytes (Refused (refusal.ReceivedUnsettled e))
  taken_unsettled e opened l =
      record {
        harm = λ fine. came.harm (l.advances.harm fine);
        stands = λ stood free fine. l.advances.stands (stood_then stood free (l.advances.harm fine)) fine;
        step = λ stood free fine.
            record { let_in = let_in; free = free; received = files_then _ _ l stood free fine; board = board_then _ _ l stood free fine };
        was_open = λ no t. came.harm (opened (l.advances.trust t));
        is_open = λ none. let no : Some (refusal.ReceivedUnsettled e) ≡ None = none in cc;
        reaches = λ stood free t. (
          record { received = with_file a.content.files code volume bytes; board = a.content.board },
          record { let_in = let_in; free = free; received = refl; board = follows_itself (blocks d) _ _ _ refl },
        );
        idle = l.advances.idle;
        kept = let x = came.counts.kept in let y = l.advances.kept in omega arith;
        trust = λ t. came.counts.trust (l.advances.trust t);
        cause = λ stood free fine is.
            let store : e ≡ Store = cc in
            let more = l.cause (stood_then stood free (l.advances.harm fine)) fine store in
            let x = came.counts.kept in
            omega arith;
        stops = λ sound free.
            stops_received d a b code volume bytes let_in sound free c (Submitted (Refused (refusal.ReceivedUnsettled e))) came l.advances.harm
            (l.advances.stops (λ fine. stood_then (sound (came.harm fine)) (free (came.harm fine)) fine));
      }

-- it couldn't be received
pub taken_not : (d : Door) (a b : Seen) (code volume : ℕ) (bytes : List ℕ) (e : ShelfFault) → file_refusal d code volume bytes ≡ None → IsNotOpen b.progress
    → Enters {T = Unit {0}} a b (Err e) (IsNew a.content code volume) (with_received a.content code volume bytes) → TakesIn d a b code volume bytes (Refused (refusal.NotReceived e))
taken_not d a b code volume bytes e let_in idle came =
    record {
      harm = came.harm;
      stands = λ stood free fine.
          let same = came.undone stood.0 free fine in
          (came.stands stood.0 free fine, may_keep d a.content b.content (ap (λ (k : Content). k.files) same) (ap (λ (k : Content). k.board) same) stood.1);
      step = λ stood free fine.
          let same = came.undone stood.0 free fine in
          record {
            let_in = early_let_in d code volume bytes let_in;
            received = ap (λ (k : Content). k.files) same;
            board = follows_itself (blocks d) _ _ _ (ap (λ (k : Content). k.board) same);
          };
      was_open = λ no t. absurd (true≢false no);
      is_open = λ none. let no : Some (refusal.NotReceived e) ≡ None = none in cc;
      reaches = λ stood free t. (
        state_of a.content,
        record { let_in = early_let_in d code volume bytes let_in; received = refl; board = follows_itself (blocks d) _ _ _ refl },
      );
      idle = idle;
      kept = came.counts.kept;
      trust = came.counts.trust;
      cause = λ stood free fine is. let store : e ≡ Store = cc in came.counts.store store;
      stops = λ sound free. stops_not_received d a b code volume bytes let_in sound free e (Submitted (Refused (refusal.NotReceived e))) refl came;
    }

-- ---- after what was there is settled

-- the same answer from the board before that was settled
module _ (d : Door) (old mid new : HubState) (c volume : ℕ) (bytes : List ℕ) (same : mid.received ≡ old.received) (before : Follows (blocks d) old.received old.board mid.board) where
  on_from : (K : Received) → K ≡ with_file mid.received c volume bytes → map.get mid.received (c, volume) ≡ None → Follows (blocks d) K mid.board new.board → Follows (blocks d) K old.board new.board
  on_from K e free f =
      let more = subst (λ X. Follows (blocks d) X old.board mid.board) (sym same) before in
      follows_on (blocks d) K old.board mid.board new.board
      (follows_more (blocks d) mid.received K (λ p there at. subst (λ X. map.get X p ≡ Some there) (sym e) (has_all_with mid.received c volume bytes free p there at)) old.board mid.board more) f

  free_then : map.get mid.received (c, volume) ≡ None → map.get old.received (c, volume) ≡ None
  free_then e = ap (λ X. map.get X (c, volume)) (sym same) ∙ e

  with_then : (K : Received) → K ≡ with_file mid.received c volume bytes → K ≡ with_file old.received c volume bytes
  with_then K e = e ∙ ap (λ X. with_file X c volume bytes) same

  was_new : (told : Outcome) → WasNew d mid c volume bytes told new → WasNew d old c volume bytes told new
  was_new told w =
      record {
        let_in = w.let_in;
        free = free_then w.free;
        received = with_then new.received w.received;
        settled = record { follows = on_from new.received w.received w.free w.settled.follows; settled = w.settled.settled };
        answer = w.answer;
      }

  was_unsettled : Unsettled d mid c volume bytes new → Unsettled d old c volume bytes new
  was_unsettled w =
      record {
        let_in = w.let_in;
        free = free_then w.free;
        received = with_then new.received w.received;
        board = on_from new.received w.received w.free w.board;
      }

  was_not_received : NotReceived d mid (Submit c volume bytes) new → NotReceived d old (Submit c volume bytes) new
  was_not_received w =
      record {
        let_in = w.let_in;
        received = w.received ∙ same;
        board = follows_on (blocks d) old.received old.board mid.board new.board before (subst (λ X. Follows (blocks d) X mid.board new.board) same w.board);
      }

  pub submits_from : (answer : Answer) → file_refusal d c volume bytes ≡ None → map.get mid.received (c, volume) ≡ None → Submits d mid c volume bytes answer new → Submits d old c volume bytes answer new
  submits_from (New told) let_in free w = was_new told w
  submits_from (Repeat told) let_in free w = let no : Some bytes ≡ None = sym w.there ∙ free in cc
  submits_from (Taken digest) let_in free w = let no : Some w.others ≡ None = sym w.there ∙ free in cc
  submits_from (Refused (refusal.NotReceived cause)) let_in free w = was_not_received w
  submits_from (Refused (refusal.ReceivedUnsettled cause)) let_in free w = was_unsettled w
  submits_from (Refused (refusal.Door why)) let_in free w = let no : Some why ≡ None = sym w.refused ∙ let_in in cc

-- what declines a file that the door lets in leaves any hub as it is
declined_stays : (d : Door) (c volume : ℕ) (bytes : List ℕ) (answer : Answer) → file_refusal d c volume bytes ≡ None → IsPastDoor answer → is_declined (Submitted answer) ≡ true → (hub : HubState)
    → Submits d hub c volume bytes answer hub
declined_stays d c volume bytes (New told) let_in past is hub = absurd (true≢false (sym is))
declined_stays d c volume bytes (Repeat told) let_in past is hub = absurd (true≢false (sym is))
declined_stays d c volume bytes (Taken digest) let_in past is hub = absurd (true≢false (sym is))
declined_stays d c volume bytes (Refused (refusal.NotReceived cause)) let_in past is hub =
    record { let_in = early_let_in d c volume bytes let_in; received = refl; board = follows_itself (blocks d) _ _ _ refl }
declined_stays d c volume bytes (Refused (refusal.ReceivedUnsettled cause)) let_in past is hub = absurd (true≢false (sym is))
declined_stays d c volume bytes (Refused (refusal.Door why)) let_in past is hub = absurd (true≢false (sym past))

pub taken_in : (d : Door) (a b c : Seen) (code volume : ℕ) (bytes : List ℕ) (answer : Answer) → file_refusal d code volume bytes ≡ None
    → Tells {T = Option Answer} d a b (Ok None) (IsAgain b.content.files b.content.board code volume bytes) → TakesIn d b c code volume bytes answer → IsPastDoor answer
    → Steps d a c (Submit code volume bytes) (Submitted answer)
taken_in d a b c code volume bytes answer let_in first second past =
    let step : StandsFor d a → c.unharmed → Step d (state_of a.content) (Submit code volume bytes) (Submitted answer) (state_of c.content) = λ stood fine.
    let mid = second.harm fine in
    let free = first.right stood mid in
    submits_from d (state_of a.content) (state_of b.content) (state_of c.content) code volume bytes (first.advances.files stood mid) (first.advances.board stood mid)
    answer let_in free (second.step (first.advances.stands stood mid) free fine) in
    record {
      harm = λ fine. first.advances.harm (second.harm fine);
      stands = λ stood fine.
          let mid = second.harm fine in
          second.stands (first.advances.stands stood mid) (first.right stood mid) fine;
      step = step;
      standing = λ stood fine. reads_standing d (state_of a.content) (Submit code volume bytes) (Submitted answer) (state_of c.content) (step stood fine) stood.1.partial;
      stays = declined_stays d code volume bytes answer let_in past;
      was_open = λ no t. first.advances.harm (second.was_open no t);
      is_open = second.is_open;
      reaches = λ stood t. by_answer stood t (is_declined (Submitted answer)) refl;
      idle = second.idle;
      failures = let x = first.advances.kept in let y = second.kept in omega arith;
      trust = λ t. first.advances.trust (second.trust t);
      cause = λ stood fine is.
          let mid = second.harm fine in
          let more = second.cause (first.advances.stands stood mid) (first.right stood mid) fine is in
          let x = first.advances.kept in
          omega arith;
      stops = λ sound.
          let stood = λ (fine : b.unharmed). sound (first.advances.harm fine) in
          stops_settled d a b c (state_of a.content) (state_of b.content) (state_of c.content) (Submit code volume bytes) (Submitted answer) first.advances.harm second.harm
          (λ fine. first.advances.files (stood fine) fine) (λ fine. first.advances.board (stood fine) fine) (first.advances.stops sound)
          (second.stops (λ fine. first.advances.stands (stood fine) fine) (λ fine. first.right (stood fine) fine));
    }
  where
    by_answer : StandsFor d a → c.trusted → (declined : Bool) → is_declined (Submitted answer) ≡ declined → Reaches d (state_of a.content) (Submit code volume bytes) (Submitted answer)
    by_answer stood t true is = (state_of a.content, declined_stays d code volume bytes answer let_in past is (state_of a.content))
    by_answer stood t false is =
        let mid = second.was_open is t in
        let free = first.right stood mid in
        let reached = second.reaches (first.advances.stands stood mid) free t in
        (reached.0, submits_from d (state_of a.content) (state_of b.content) reached.0 code volume bytes (first.advances.files stood mid) (first.advances.board stood mid) answer let_in free reached.1)

-- what was there couldn't be settled
pub unsettled_before : {T : Type 0} (d : Door) (a b : Seen) (code volume : ℕ) (bytes : List ℕ) (fault : ShelfFault) (P : T → Type 0) → file_refusal d code volume bytes ≡ None → Tells d a b (Err fault) P
    → Steps d a b (Submit code volume bytes) (Submitted (Refused (refusal.NotReceived fault)))
unsettled_before d a b code volume bytes fault P let_in l =
    let step : StandsFor d a → b.unharmed → Step d (state_of a.content) (Submit code volume bytes) (Submitted (Refused (refusal.NotReceived fault))) (state_of b.content) = λ stood fine.
    record {
      let_in = early_let_in d code volume bytes let_in;
      received = l.advances.files stood fine;
      board = l.advances.board stood fine;
    } in
    let stays : (hub : HubState) → Step d hub (Submit code volume bytes) (Submitted (Refused (refusal.NotReceived fault))) hub = λ hub.
    record { let_in = early_let_in d code volume bytes let_in; received = refl; board = follows_itself (blocks d) _ _ _ refl } in
    record {
      harm = l.advances.harm;
      stands = l.advances.stands;
      step = step;
      standing = λ stood fine. reads_standing d (state_of a.content) (Submit code volume bytes) (Submitted (Refused (refusal.NotReceived fault))) (state_of b.content) (step stood fine) stood.1.partial;
      stays = λ is hub. stays hub;
      was_open = λ no t. absurd (true≢false no);
      is_open = λ none. let no : Some (refusal.NotReceived fault) ≡ None = none in cc;
      reaches = λ stood t. (state_of a.content, stays (state_of a.content));
      idle = l.advances.idle;
      failures = l.advances.kept;
      trust = l.advances.trust;
      cause = λ stood fine is. let store : fault ≡ Store = cc in l.cause stood fine store;
      stops = λ sound. stops_judging d a b (state_of a.content) (state_of b.content) (Submit code volume bytes) _ refl (l.advances.stops sound);
    }

-- it was received before
pub answered_before : (d : Door) (a b : Seen) (code volume : ℕ) (bytes : List ℕ) (answer : Answer) → file_refusal d code volume bytes ≡ None
    → Tells {T = Option Answer} d a b (Ok (Some answer)) (IsAgain b.content.files b.content.board code volume bytes) → (b.trusted → b.unharmed) → IsOfBefore answer → Steps d a b (Submit code volume bytes) (Submitted answer)
answered_before d a b code volume bytes (New told) let_in l sure before = absurd before
answered_before d a b code volume bytes (Repeat told) let_in l sure before =
    let step : StandsFor d a → b.unharmed → Step d (state_of a.content) (Submit code volume bytes) (Submitted (Repeat told)) (state_of b.content) = λ stood fine.
    let files = l.advances.files stood fine in
    let again = l.right stood fine in
    record {
      let_in = let_in;
      there = ap (λ F. map.get F (code, volume)) (sym files) ∙ again.0;
      received = files;
      settled = record { follows = l.advances.board stood fine; settled = subst (λ F. NothingReady F b.content.board) files (l.settled stood fine) };
      answer = again.1 (ap is_some again.0) (l.settled stood fine);
    } in
    record {
      harm = l.advances.harm;
      stands = l.advances.stands;
      step = step;
      standing = λ stood fine. reads_standing d (state_of a.content) (Submit code volume bytes) (Submitted (Repeat told)) (state_of b.content) (step stood fine) stood.1.partial;
      stays = λ is hub. absurd (true≢false (sym is));
      was_open = λ no t. l.advances.harm (sure t);
      is_open = λ none. sure;
      reaches = λ stood t. (state_of b.content, step stood (sure t));
      idle = l.advances.idle;
      failures = l.advances.kept;
      trust = l.advances.trust;
      cause = λ stood fine e. cc;
      stops = λ sound. stops_judging d a b (state_of a.content) (state_of b.content) (Submit code volume bytes) _ refl (l.advances.stops sound);
    }
answered_before d a b code volume bytes (Taken digest) let_in l sure before =
    let step : StandsFor d a → b.unharmed → Step d (state_of a.content) (Submit code volume bytes) (Submitted (Taken digest)) (state_of b.content) = λ stood fine.
    let files = l.advances.files stood fine in
    let again = l.right stood fine in
    record {
      let_in = let_in;
      others = again.others;
      there = ap (λ F. map.get F (code, volume)) (sym files) ∙ again.there;
      differ = again.differ;
      digest_is = again.digest_is;
      received = files;
      settled = record { follows = l.advances.board stood fine; settled = subst (λ F. NothingReady F b.content.board) files (l.settled stood fine) };
    } in
    record {
      harm = l.advances.harm;
      stands = l.advances.stands;
      step = step;
      standing = λ stood fine. reads_standing d (state_of a.content) (Submit code volume bytes) (Submitted (Taken digest)) (state_of b.content) (step stood fine) stood.1.partial;
      stays = λ is hub. absurd (true≢false (sym is));
      was_open = λ no t. l.advances.harm (sure t);
      is_open = λ none. sure;
      reaches = λ stood t. (state_of b.content, step stood (sure t));
      idle = l.advances.idle;
      failures = l.advances.kept;
      trust = l.advances.trust;
      cause = λ stood fine e. cc;
      stops = λ sound. stops_judging d a b (state_of a.content) (state_of b.content) (Submit code volume bytes) _ refl (l.advances.stops sound);
    }
answered_before d a b code volume bytes (Refused r) let_in l sure before = absurd before
