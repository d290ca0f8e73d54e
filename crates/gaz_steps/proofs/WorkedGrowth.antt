-- The worked examples on a register that grows.
use Rattle.std.proofs.Common.{◌≡◌, true, false, [], ◌∷◌, IsSome, length, refl, sym, subst, ap, ◌∙◌, true≢false}
use Rattle.std.specs.Prelude.{None, Some}
use Rattle.std.specs.FinMap as map
use Rattle.std.specs.Option.{option_or}
use Rattle.gaz_changefile.specs.Profile.{profile_of}
use Rattle.gaz_register.proofs.Grown.{grows}
use Rattle.gaz_keeper.specs.Received.{pair_cmp}
use Rattle.gaz_keeper.specs.Board.{empty_board}
use Rattle.gaz_register.specs.Registers.{RegisterValue, blocks_of}
use Rattle.gaz_steps.specs.Examples.{gap_hub, late_hub, no_text_judged, sent}
use Rattle.gaz_steps.specs.Growth.{SettledGrownRun, first_ever}
use Rattle.gaz_steps.specs.Hubs.{AreKnown}
use Rattle.gaz_steps.specs.Sample.{sample_custodians, sample_door, sample_register}
use Rattle.gaz_steps.specs.Standing.{standing}
use Rattle.gaz_steps.specs.Step.{new_hub}
use Rattle.gaz_steps.specs.WorkedGrowth.{WorkedGrowth, sends_twice, settles_first, with_new_town}
use Rattle.gaz_steps.specs.WorkedRuns.{answers, sending}
use Rattle.gaz_steps.proofs.Examples.{stands_sent}
use Rattle.gaz_steps.proofs.Finding.{run_known}
use Rattle.gaz_steps.proofs.Growing.{every_grown_run_holds, standing_grown}
use Rattle.gaz_steps.proofs.Leading.{follows_itself}
use Rattle.gaz_steps.proofs.WorkedRuns.{worked_runs_hold}
use Rattle.gaz_steps.proofs.WorkedSteps.{late_settled}

first_is : profile_of [] ≡ None → first_ever (1004, 1) sends_twice ≡ Some []
first_is e = rw e refl

-- the custodians of what was sent are known
known : AreKnown sample_door sent
known = run_known sample_door new_hub gap_hub sending answers worked_runs_hold.on_wholes.runs (λ p there. let no : false ≡ true = subst (λ o. IsSome o) (map.get-empty pair_cmp p) there in cc)

abbrev settled : SettledGrownRun with_new_town gap_hub
settled = record {
  register = sample_custodians;
  old = late_hub;
  known = known;
  partial = follows_itself sample_register sent empty_board empty_board refl;
  periods = settles_first;
  run = (
    gap_hub,
    grows sample_custodians sample_custodians refl refl,
    (gap_hub, (refl, record { let_in = refl; received = refl; settled = record { follows = late_settled.follows; settled = late_settled.settled }; answer = refl }), refl),
    (gap_hub, grows sample_custodians with_new_town refl refl, refl, refl),
  );
  last_is = refl;
  settles = refl;
}

-- the standing board of what was sent, under whichever register it stands, has a judgement
never_unsettled : SettledGrownRun with_new_town late_hub → ⊥
never_unsettled it =
    let stands = (every_grown_run_holds it.register it.old late_hub it.periods it.known it.partial it.run).settled it.settles in
    let under : empty_board ≡ standing (blocks_of with_new_town) sent = subst (λ (r : RegisterValue). empty_board ≡ standing (blocks_of r) sent) it.last_is stands in
    let same = standing_grown sample_custodians with_new_town sent (grows sample_custodians with_new_town refl refl) known in
    let no : [] ≡ no_text_judged ∷ [] = ap (λ B. B 1003) (under ∙ same ∙ stands_sent) in cc

pub worked_growth_hold : WorkedGrowth
worked_growth_hold = record {
  joins = grows sample_custodians with_new_town refl refl;
  never_leaves = λ x. true≢false (sym (x.custodians 1004 refl));
  last = refl;
  last_of_none = refl;
  refused_is_none = refl;
  first = first_is;
  nothing_else = refl;
  of_none = refl;
  asked = refl;
  said = refl;
  settles = refl;
  refused_settles_nothing = refl;
  settles_still = refl;
  under_two = λ under. let three : 3 ≡ 4 = ap length under.0 in cc;
  under_one = (refl, tt);
  never_lost = λ e abides.
      let no : None ≡ Some [] = sym (map.get-empty pair_cmp (1004, 1)) ∙ abides.first (1004, 1) ∙ ap (λ o. option_or o (first_ever (1004, 1) sends_twice)) (map.get-empty pair_cmp (1004, 1)) ∙ first_is e in cc;
  settled = settled;
  settled_by = refl;
  never_unsettled = never_unsettled;
}
