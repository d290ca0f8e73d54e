-- What was received along a run, and what each command was told of it.
use Rattle.std.proofs.Common.{◌≡◌, inl, inr, ℕ, true, false, cond, true≢false, List, [], ◌∷◌, ◌++◌, length, refl, sym, ap, ◌∙◌, subst, arith}
use Rattle.std.specs.Prelude.{None, Some}
use Rattle.std.specs.FinMap as map
use Rattle.gaz_keeper.proofs.Pairs.{pairs_total, there_now}
use Rattle.gaz_keeper.specs.Received.{HasAllOf, Received, with_file}
use Rattle.gaz_keeper.specs.Keeper.{Content}
use Rattle.gaz_steps.specs.Runs.{Run, same_pair}
use Rattle.gaz_steps.specs.Step.{Command, Door, HubState, Pose, Replied, Response, Step, Submit, Submitted}
use Rattle.gaz_steps.specs.declared.answer.Answer.TheVariants.{New, Repeat, Taken, Refused}
use Rattle.gaz_steps.specs.declared.refusal.Refusal.TheVariants as refusal
use Rattle.gaz_steps.proofs.Answers.{received_then}
use Rattle.gaz_steps.proofs.Steps.{goes, has_all_with, pairs_same}
use Rattle.gaz_steps.specs.Stops.{HasAllTold, HasReceived, HasTold, IsLeftBy, IsLeftOnceTold, IsLeftWith, is_taken_in}

-- ---- what is received stays

-- more files have it too
pub received_more : (commands : List Command) (responses : List Response) (files bigger : Received) → HasAllOf bigger files → HasReceived commands responses files → HasReceived commands responses bigger
received_more [] rs files bigger all h = tt
received_more (Submit c volume bytes ∷ cs) [] files bigger all h = tt
received_more (Submit c volume bytes ∷ cs) (r ∷ rs) files bigger all h = (λ is. all (c, volume) bytes (h.0 is), received_more cs rs files bigger all h.1)
received_more (Pose q ∷ cs) [] files bigger all h = tt
received_more (Pose q ∷ cs) (r ∷ rs) files bigger all h = received_more cs rs files bigger all h

pub received_both : (cs ds : List Command) (rs ss : List Response) (files : Received) → length rs ≡ length cs → HasReceived cs rs files → HasReceived ds ss files → HasReceived (cs ++ ds) (rs ++ ss) files
received_both [] ds [] ss files e x y = y
received_both [] ds (r ∷ rs) ss files e x y = absurd (omega (arith, e))
received_both (c ∷ cs) ds [] ss files e x y = absurd (omega (arith, e))
received_both (Submit c volume bytes ∷ cs) ds (r ∷ rs) ss files e x y = (x.0, received_both cs ds rs ss files (omega (arith, e)) x.1 y)
received_both (Pose q ∷ cs) ds (r ∷ rs) ss files e x y = received_both cs ds rs ss files (omega (arith, e)) x y

-- a run loses no file
pub run_has_all : (d : Door) (old new : HubState) (commands : List Command) (responses : List Response) → Run d old commands responses new → HasAllOf new.received old.received
run_has_all d old new [] [] r = subst (λ (hub : HubState). HasAllOf hub.received old.received) (sym r) (λ p bytes at. at)
run_has_all d old new (command ∷ commands) (response ∷ responses) r =
    let first = (goes d old command response r.0 r.1).all in
    let rest = run_has_all d r.0 new commands responses r.2 in
    λ p bytes at. rest p bytes (first p bytes at)
run_has_all d old new [] (response ∷ responses) r = absurd r
run_has_all d old new (command ∷ commands) [] r = absurd r

-- a step that receives a file has it
taken_there : (d : Door) (old new : HubState) (c volume : ℕ) (bytes : List ℕ) (response : Response) → Step d old (Submit c volume bytes) response new → is_taken_in response ≡ true → map.get new.received (c, volume) ≡ Some bytes
taken_there d old new c volume bytes (Submitted (New told)) s is = there_now old.received new.received c volume bytes s.received
taken_there d old new c volume bytes (Submitted (Refused (refusal.ReceivedUnsettled cause))) s is = there_now old.received new.received c volume bytes s.received
taken_there d old new c volume bytes (Submitted (Repeat told)) s is = absurd (true≢false (sym is))
taken_there d old new c volume bytes (Submitted (Taken digest)) s is = absurd (true≢false (sym is))
taken_there d old new c volume bytes (Submitted (Refused (refusal.NotReceived cause))) s is = absurd (true≢false (sym is))
taken_there d old new c volume bytes (Submitted (Refused (refusal.Door why))) s is = absurd (true≢false (sym is))
taken_there d old new c volume bytes (Replied q reply) s is = absurd (true≢false (sym is))

pub run_received : (d : Door) (old new : HubState) (commands : List Command) (responses : List Response) → Run d old commands responses new → HasReceived commands responses new.received
run_received d old new [] [] r = tt
run_received d old new (Submit c volume bytes ∷ cs) (response ∷ rs) r =
    (λ is. run_has_all d r.0 new cs rs r.2 (c, volume) bytes (taken_there d old r.0 c volume bytes response r.1 is), run_received d r.0 new cs rs r.2)
run_received d old new (Pose q ∷ cs) (response ∷ rs) r = run_received d r.0 new cs rs r.2
run_received d old new [] (response ∷ rs) r = absurd r
run_received d old new (Submit c volume bytes ∷ cs) [] r = absurd r
run_received d old new (Pose q ∷ cs) [] r = absurd r

-- what a command leaves has all that was there
pub left_has_all : (d : Door) (command : Command) (hub : HubState) (k : Content) → IsLeftBy d command hub k → HasAllOf k.files hub.received
left_has_all d (Submit c volume bytes) hub k (inl l) = subst (λ F. HasAllOf F hub.received) (sym l.files) (λ p there at. at)
left_has_all d (Submit c volume bytes) hub k (inr l) = subst (λ F. HasAllOf F hub.received) (sym l.later.files) (has_all_with hub.received c volume bytes l.free)
left_has_all d (Pose q) hub k l = subst (λ F. HasAllOf F hub.received) (sym l.files) (λ p there at. at)

-- what a command leaves of the hub to which it led has its file only where it was answered 51
pub left_once : (d : Door) (old new : HubState) (command : Command) (response : Response) (k : Content) → Step d old command response new → IsLeftBy d command new k → IsLeftOnceTold d command response new k
left_once d old new (Submit c volume bytes) (Submitted answer) k s (inl l) = inl l
left_once d old new (Submit c volume bytes) (Submitted (New told)) k s (inr l) = let no : Some bytes ≡ None = sym (there_now old.received new.received c volume bytes s.received) ∙ l.free in cc
left_once d old new (Submit c volume bytes) (Submitted (Repeat told)) k s (inr l) = let no : Some bytes ≡ None = sym s.there ∙ ap (λ F. map.get F (c, volume)) (sym s.received) ∙ l.free in cc
left_once d old new (Submit c volume bytes) (Submitted (Taken digest)) k s (inr l) = let no : Some s.others ≡ None = sym s.there ∙ ap (λ F. map.get F (c, volume)) (sym s.received) ∙ l.free in cc
left_once d old new (Submit c volume bytes) (Submitted (Refused (refusal.NotReceived cause))) k s (inr l) = inr (refl, l)
left_once d old new (Submit c volume bytes) (Submitted (Refused (refusal.ReceivedUnsettled cause))) k s (inr l) =
    let no : Some bytes ≡ None = sym (there_now old.received new.received c volume bytes s.received) ∙ l.free in cc
left_once d old new (Submit c volume bytes) (Submitted (Refused (refusal.Door why))) k s (inr l) = let no : Some why ≡ None = sym s.refused ∙ l.let_in in cc
left_once d old new (Submit c volume bytes) (Replied q reply) k s l = absurd s
left_once d old new (Pose q) response k s l = l

-- ---- what is told of a file

-- files that have all of these and the one more have all of both
all_with : (files F : Received) (c volume : ℕ) (bytes : List ℕ) → HasAllOf files F → map.get files (c, volume) ≡ Some bytes → HasAllOf files (with_file F c volume bytes)
all_with files F c volume bytes all here p others at =
    elim (same_pair p (c, volume)) as (λ b. same_pair p (c, volume) ≡ b → cond b (Some bytes) (map.get F p) ≡ Some others → map.get files p ≡ Some others) [
      | true ↦ λ e is. ap (map.get files) (pairs_same p (c, volume) e) ∙ here ∙ is
      | false ↦ λ _ is. all p others is
    ] refl (sym (map.get-insert pairs_total F (c, volume) bytes p) ∙ at)

module _ (d : Door) (old new : HubState) (files : Received) (all : HasAllOf files old.received) where
  same_all : new.received ≡ old.received → HasAllOf files new.received
  same_all e = subst (HasAllOf files) (sym e) all

  module _ (c volume : ℕ) (bytes : List ℕ) where
    one_told : (response : Response) → Step d old (Submit c volume bytes) response new → (is_taken_in response ≡ true → map.get files (c, volume) ≡ Some bytes) → HasTold (Submit c volume bytes) response files
    one_told (Submitted (New told)) s has = has refl
    one_told (Submitted (Repeat told)) s has = all (c, volume) bytes s.there
    one_told (Submitted (Taken digest)) s has = record { others = s.others; there = all (c, volume) s.others s.there; differ = s.differ; digest_is = s.digest_is }
    one_told (Submitted (Refused (refusal.NotReceived cause))) s has = tt
    one_told (Submitted (Refused (refusal.ReceivedUnsettled cause))) s has = has refl
    one_told (Submitted (Refused (refusal.Door why))) s has = tt
    one_told (Replied q reply) s has = tt

    all_next : (response : Response) → Step d old (Submit c volume bytes) response new → (is_taken_in response ≡ true → map.get files (c, volume) ≡ Some bytes) → HasAllOf files new.received
    all_next (Submitted (New told)) s has = subst (HasAllOf files) (sym s.received) (all_with files old.received c volume bytes all (has refl))
    all_next (Submitted (Repeat told)) s has = same_all s.received
    all_next (Submitted (Taken digest)) s has = same_all s.received
    all_next (Submitted (Refused (refusal.NotReceived cause))) s has = same_all s.received
    all_next (Submitted (Refused (refusal.ReceivedUnsettled cause))) s has = subst (HasAllOf files) (sym s.received) (all_with files old.received c volume bytes all (has refl))
    all_next (Submitted (Refused (refusal.Door why))) s has = same_all (ap (λ (h : HubState). h.received) s.same)
    all_next (Replied q reply) s has = absurd s

-- files that have what was there before, and that of each command that was answered New or 52, have what each was told of
pub all_told : (d : Door) (hub : HubState) (commands : List Command) (responses : List Response) (files : Received) → HasAllOf files hub.received → HasReceived commands responses files → HasAllTold d hub commands responses files
all_told d hub [] rs files all h = tt
all_told d hub (Submit c volume bytes ∷ cs) [] files all h = tt
all_told d hub (Submit c volume bytes ∷ cs) (response ∷ rs) files all h = λ mid s.
    (one_told d hub mid files all c volume bytes response s h.0, all_told d mid cs rs files (all_next d hub mid files all c volume bytes response s h.0) h.1)
all_told d hub (Pose q ∷ cs) [] files all h = tt
all_told d hub (Pose q ∷ cs) (response ∷ rs) files all h = λ mid s. (tt, all_told d mid cs rs files (same_all d hub mid files all (received_then d hub (Pose q) response mid s)) h)

pub one_received : (d : Door) (command : Command) (response : Response) (hub : HubState) (k : Content) → (is_taken_in response ≡ true → IsLeftWith d command hub k) → HasReceived (command ∷ []) (response ∷ []) k.files
one_received d (Submit c volume bytes) response hub k has = (λ is. there_now hub.received k.files c volume bytes (has is).later.files, tt)
one_received d (Pose q) response hub k has = tt
