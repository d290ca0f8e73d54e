-- The worked examples on what calls leave of a keeper that is stopped.
use Rattle.std.proofs.Common.{◌≡◌, ◌∙◌, ap, inl, inr, ℕ, zero, suc, Bool, true, false, [], ◌∷◌, ◌++◌, List, refl, subst, sym, true≢false}
use Rattle.std.specs.Prelude.{◌==◌, if◌then◌else◌, Some, is_some, slice_get, unwrap_or}
use Rattle.std.specs.FinMap as map
use Rattle.gaz_keeper.proofs.Pairs.{there_now}
use Rattle.gaz_keeper.specs.Board.{empty_board}
use Rattle.gaz_keeper.specs.Keeper.{Content, IsLawful, Seen}
use Rattle.gaz_views.proofs.Lawful.{lawful_empty}
use Rattle.gaz_views.specs.Judgements.{views}
use Rattle.gaz_views.specs.Lawful.{IsLawfulView}
use Rattle.gaz_views.specs.View.{empty_view}
use Rattle.gaz_keeper.specs.Received.{Received, pair_cmp}
use Rattle.gaz_steps.specs.Examples.{first_hub, first_sent, no_text, no_text_judged, one_judged}
use Rattle.gaz_steps.specs.Found.{HasOneMore, HasOneSince}
use Rattle.gaz_steps.specs.Hubs.{AreKnown}
use Rattle.gaz_steps.specs.Sample.{sample_door, sample_register}
use Rattle.gaz_steps.specs.Step.{HubState, Pose, Step, new_hub}
use Rattle.gaz_steps.specs.Stops.{IsLater, IsLaterWith, IsLeftOnceTold, IsLeftSince, StopsCall}
use Rattle.gaz_steps.specs.WorkedFound.{WorkedCalls, WorkedFound, WorkedRunsStopped, WorkedSince, WorkedTold, keeps, told_51, told_new, told_repeat, told_settled}
use Rattle.gaz_steps.specs.WorkedStops.{at_rest, sends, unjudged_hub}
use Rattle.gaz_steps.specs.declared.question.Question.TheVariants.{Settle}
use Rattle.gaz_steps.proofs.Known.{known_with}
use Rattle.gaz_steps.proofs.Examples.{closed_empty, closed_first, get_first, no_none, partial_first}
use Rattle.gaz_steps.proofs.RunStops.{run_stops_one}
use Rattle.gaz_steps.proofs.Leading.{follows_itself}
use Rattle.gaz_steps.proofs.Runs.{follows_below}
use Rattle.gaz_steps.proofs.WorkedSteps.{on_submissions}
use Rattle.gaz_steps.proofs.WorkedStops.{not_empty}

-- ---- steps

new_step : Step sample_door new_hub sends told_new first_hub
new_step = on_submissions.new

not_received : Step sample_door new_hub sends told_51 new_hub
not_received = record { let_in = refl; received = refl; board = follows_itself sample_register map.empty empty_board empty_board refl }

settled : Step sample_door new_hub (Pose Settle) told_settled new_hub
settled = (
  refl,
  record {
    let_in = refl;
    received = refl;
    settled = record { follows = follows_itself sample_register map.empty empty_board empty_board refl; settled = closed_empty };
    answer = refl;
  },
)

repeated : Step sample_door first_hub sends told_repeat first_hub
repeated = record {
  let_in = refl;
  there = get_first (1003, 1);
  received = refl;
  settled = record { follows = follows_itself sample_register first_sent one_judged one_judged refl; settled = closed_first };
  answer = refl;
}

-- ---- what is kept is lawful: each of its views is the empty one

no_view : (t : ℕ) → unwrap_or (slice_get (empty_view ∷ []) t) empty_view ≡ empty_view
no_view zero = refl
no_view (suc t) = refl

one_view : (t : ℕ) → unwrap_or (slice_get (empty_view ∷ empty_view ∷ []) t) empty_view ≡ empty_view
one_view zero = refl
one_view (suc zero) = refl
one_view (suc (suc t)) = refl

by_custodian : (is_1003 : Bool) (t : ℕ) → unwrap_or (slice_get (views (if is_1003 then no_text_judged ∷ [] else [])) t) empty_view ≡ empty_view
by_custodian true t = one_view t
by_custodian false t = no_view t

first_lawful : (k : Content) → k ≡ at_rest first_hub → IsLawful k
first_lawful k e = subst IsLawful (sym e) (record { views = λ c t. subst IsLawfulView (sym (by_custodian (c == 1003) t)) lawful_empty; working = lawful_empty })

unjudged_lawful : (k : Content) → k ≡ at_rest unjudged_hub → IsLawful k
unjudged_lawful k e = subst IsLawful (sym e) (record { views = λ c t. subst IsLawfulView (sym (no_view t)) lawful_empty; working = lawful_empty })

-- ---- what is left

abbrev nothing : Received
nothing = map.empty

none_there : map.get nothing (1003, 1) ≡ Some no_text → ⊥
none_there at = no_none (map.get nothing (1003, 1)) no_text at (map.get-empty pair_cmp (1003, 1))

itself : (hub : HubState) (k : Content) → k ≡ at_rest hub → IsLater sample_door hub k
itself hub k e = subst (IsLater sample_door hub) (sym e) (record { working = refl; files = refl; board = follows_itself sample_register hub.received hub.board hub.board refl })

with_first : (k : Content) → k ≡ at_rest first_hub → IsLaterWith sample_door new_hub 1003 1 no_text k
with_first k e =
    subst (IsLaterWith sample_door new_hub 1003 1 no_text) (sym e)
    (record { let_in = refl; free = map.get-empty pair_cmp (1003, 1); later = record { working = refl; files = refl; board = partial_first } })

with_unjudged : (k : Content) → k ≡ at_rest unjudged_hub → IsLaterWith sample_door new_hub 1003 1 no_text k
with_unjudged k e =
    subst (IsLaterWith sample_door new_hub 1003 1 no_text) (sym e)
    (record { let_in = refl; free = map.get-empty pair_cmp (1003, 1); later = record { working = refl; files = refl; board = follows_itself sample_register first_sent empty_board empty_board refl } })

judged_later : (k : Content) → k ≡ at_rest first_hub → IsLater sample_door unjudged_hub k
judged_later k e = subst (IsLater sample_door unjudged_hub) (sym e) (record { working = refl; files = refl; board = partial_first })

same_files : (one two : Content) → one ≡ two → one.files ≡ two.files
same_files one two e = ap (λ (k : Content). k.files) e

-- a board that follows one with a judgement has it
never_unjudged : IsLater sample_door first_hub (at_rest unjudged_hub) → ⊥
never_unjudged l = let (rest, e) = follows_below sample_register first_sent one_judged empty_board l.board 1003 in let no : no_text_judged ∷ rest ≡ [] = e in cc

not_the_same : first_hub ≡ unjudged_hub → ⊥
not_the_same e = let no : no_text_judged ∷ [] ≡ [] = ap (λ (h : HubState). h.board 1003) e in cc

taken : (s : Seen) → s.unharmed → StopsCall sample_door (keeps s new_hub) (keeps s first_hub) new_hub first_hub sends told_new
taken s fine = record {
  stops = record {
    ever = λ k e. inr (fine, inr (with_first k e));
    now = λ _ k e. inr (inl (itself first_hub k e));
    whole = λ all. first_lawful;
  };
  received = λ _ k e. (fine, with_first k e);
}

on_calls : {K : Type 0} (seen : K → Seen) → WorkedCalls seen
on_calls seen = record {
  judging = λ s fine. record {
    ever = λ k e. inr (fine, judged_later k e);
    now = λ _ k e. inr (itself first_hub k e);
    whole = λ all. first_lawful;
  };
  judging_brings_none = λ s stops. elim (stops.ever (at_rest first_hub) refl) [
    | inl was ↦ not_empty (same_files (at_rest first_hub) (at_rest new_hub) was)
    | inr made ↦ not_empty made.1.files
  ];
  judging_loses_none = λ s fine stops. elim (stops.now fine (at_rest unjudged_hub) refl) [
    | inl was ↦ not_the_same was.1
    | inr made ↦ never_unjudged made
  ];
  taken_in = λ x fine. taken (seen x) fine;
  not_without_it = λ s call. not_empty (sym (call.received refl (at_rest new_hub) refl).1.later.files);
  with_it_after_51 = λ s fine. record {
    stops = record {
      ever = λ k e. inr (fine, inr (with_unjudged k e));
      now = λ _ k e. inr (inr (with_unjudged k e));
      whole = λ all. unjudged_lawful;
    };
    received = λ is. absurd (true≢false (sym is));
  };
  never_by_settling = λ s call. elim (call.stops.ever (at_rest unjudged_hub) refl) [
    | inl was ↦ not_empty (same_files (at_rest unjudged_hub) (at_rest new_hub) was)
    | inr made ↦ not_empty made.1.files
  ];
}

-- ---- since when nothing has changed

only_one : {X : Type 0} (x : X) (before after : List X) (y : X) → x ∷ [] ≡ before ++ y ∷ after → y ≡ x
only_one x [] after y e = cc
only_one x (z ∷ []) after y e = cc
only_one x (z ∷ (w ∷ before)) after y e = cc

one_more : HasOneMore sample_door new_hub sends first_sent
one_more = record { c = 1003; volume = 1; bytes = no_text; command_is = refl; let_in = refl; free = map.get-empty pair_cmp (1003, 1); files_are = refl }

by_settling : IsLeftSince sample_door (Pose Settle ∷ []) (told_settled ∷ []) new_hub new_hub (at_rest unjudged_hub) → ⊥
by_settling l =
    let same = only_one (Pose Settle) l.earlier l.later l.command l.commands_are in
    let left : IsLater sample_door new_hub (at_rest unjudged_hub) = subst (λ c. IsLeftOnceTold sample_door c l.response new_hub (at_rest unjudged_hub)) same l.left in
    not_empty left.files

one_of_new : (files : Received) → HasOneSince sample_door new_hub new_hub (sends ∷ []) (told_new ∷ []) files → ⊥
one_of_new files one = let no = only_one told_new one.told one.more _ one.responses_are in cc

one_of_settling : (files : Received) → HasOneSince sample_door new_hub new_hub (Pose Settle ∷ []) (told_settled ∷ []) files → ⊥
one_of_settling files one = let no = only_one told_settled one.told one.more _ one.responses_are in cc

on_since : WorkedSince
on_since = record {
  after_51 = inr (refl, with_unjudged (at_rest unjudged_hub) refl);
  never_after_new = λ l. elim l [
    | inl same ↦ not_empty same.files
    | inr more ↦ true≢false (sym more.0)
  ];
  settled_since = record {
    earlier = [];
    told = [];
    command = sends;
    response = told_51;
    later = Pose Settle ∷ [];
    more = told_settled ∷ [];
    commands_are = refl;
    responses_are = refl;
    run = (new_hub, not_received, refl);
    since = (new_hub, settled, refl);
    left = inr (refl, with_unjudged (at_rest unjudged_hub) refl);
  };
  never_by_settling = by_settling;
  one_more = one_more;
  never_a_question = λ m. let no = m.command_is in cc;
  never_none = λ m. no_none (map.get nothing (m.c, m.volume)) m.bytes (there_now nothing nothing m.c m.volume m.bytes m.files_are) (map.get-empty pair_cmp (m.c, m.volume));
  one_since = record {
    earlier = [];
    told = [];
    command = sends;
    cause = _;
    later = Pose Settle ∷ [];
    more = told_settled ∷ [];
    commands_are = refl;
    responses_are = refl;
    run = (new_hub, not_received, refl);
    since = (new_hub, settled, refl);
    one_more = one_more;
  };
  never_one_of_new = one_of_new first_sent;
}

on_told : WorkedTold
on_told = record {
  repeated = get_first (1003, 1);
  never_lost = none_there;
  taken = record { others = no_text; there = get_first (1003, 1); differ = λ e. cc; digest_is = refl };
  never_its_own = λ t. let e : Some no_text ≡ Some t.others = sym (get_first (1003, 1)) ∙ t.there in t.differ cc;
  refused = tt;
  all_told = λ mid s. (get_first (1003, 1), tt);
  never_without_it = λ all. none_there (all first_hub repeated).0;
}

-- ---- what is found

first_known : AreKnown sample_door first_sent
first_known = known_with sample_door nothing 1003 1 no_text refl (λ p h. absurd (true≢false (sym h ∙ ap is_some (map.get-empty pair_cmp p))))

on_runs : {K : Type 0} (seen : K → Seen) → WorkedRunsStopped seen
on_runs seen = record {
  new_then_found = λ s fine. run_stops_one sample_door (keeps (seen s) new_hub) (keeps (seen s) first_hub) sends told_new (λ _. new_step) (taken (seen s) fine);
  never_without_it = λ s run. none_there ((run.received (at_rest new_hub) refl).0 refl);
  found_after_51 = λ s. record {
    working = refl;
    known = first_known;
    partial = follows_itself sample_register first_sent empty_board empty_board refl;
    ever = record {
      earlier = [];
      told = [];
      later = sends ∷ [];
      more = told_51 ∷ [];
      commands_are = refl;
      responses_are = refl;
      mid = new_hub;
      run = refl;
      files_at = inr one_more;
    };
    received = (λ is. absurd (true≢false (sym is)), tt);
    told = λ mid step. (tt, tt);
    now = λ _. inr (record {
      earlier = [];
      told = [];
      command = sends;
      cause = _;
      later = [];
      more = [];
      commands_are = refl;
      responses_are = refl;
      run = (new_hub, not_received, refl);
      since = refl;
      one_more = one_more;
    });
  };
  never_unsent = λ s fine found. elim (found.now fine) [
    | inl same ↦ not_empty same
    | inr one ↦ one_of_settling first_sent one
  ];
  never_lost = λ s found. none_there (found.received.0 refl);
  never_lost_again = λ s found. none_there (found.told first_hub repeated).0;
}

pub worked_found_hold : {K : Type 0} (seen : K → Seen) → WorkedFound seen
worked_found_hold seen = record { on_calls = on_calls seen; on_since = on_since; on_told = on_told; on_runs = on_runs seen }
