use Rattle.std.proofs.Common.{◌≡◌, ◌≢◌, ◌∙◌, ℕ, List, [], Some, zero, suc, true, false, sym, ap, refl, subst, is_some}
use Rattle.std.specs.Cmp.{nat_cmp_total}
use Rattle.std.specs.FinMap as finite
use Rattle.gaz_keeper.proofs.Examples.{worked_examples_hold}
use Rattle.gaz_keeper.proofs.Pairs.{pairs_total}
use Rattle.gaz_keeper.specs.Received.{pair_cmp}
use Rattle.gaz_keeper.specs.Examples.{first_received}
use Rattle.gaz_keeper.specs.Keeper.{IsAtHand, IsLawful, Open, after_stop, empty_content}
use Rattle.gaz_mirror.specs.Examples.{WorkedGathered}
use Rattle.gaz_mirror.specs.Gathering.{made}
use Rattle.gaz_mirror.specs.declared.gathered.Gathered.{Gathered}
use Rattle.gaz_records.proofs.KeyOrder.{keys_total}
use Rattle.gaz_records.specs.declared.key.Key.TheVariants as key
use Rattle.gaz_views.proofs.CustodyExamples.{custody_holds}
use Rattle.gaz_views.proofs.Lawful.{lawful_adopted, lawful_empty, lawful_put, lawful_released, lawful_taken}
use Rattle.gaz_views.specs.CustodyExamples.{alone, given_back, given_up, taken}
use Rattle.gaz_views.specs.Examples.{no_more, one_street, street}
use Rattle.gaz_views.specs.Lawful.{IsLawfulView}
use Rattle.gaz_views.specs.View.{View, custody_at, empty_view, holds, with_adoption, with_item, with_release, without_key}
use Rattle.gaz_views.specs.declared.custody.Custody.{Custody}
use Rattle.gaz_views.specs.declared.custody.Custody.TheVariants.{Adopted, Released}
use Rattle.gaz_mirror.proofs.laws.worked_examples.Goals as goal

-- a received file tells them apart
apart : ¬ (empty_content ≡ first_received)
apart same = worked_examples_hold.on_stops.read_more (λ k left. left ∙ ap after_stop (sym same))

lawful : IsLawful first_received
lawful = record { views = λ c. elim [ zero ↦ lawful_empty | suc n ↦ lawful_empty ]; working = lawful_empty }

street_there : (v : View) → holds (with_item v (street 101)) (key.Street 101) ≡ true
street_there v = ap is_some (finite.get-insert keys_total v.items (key.Street 101) (street 101) (key.Street 101))

street_gone : (v : View) → holds (without_key v (key.Street 101)) (key.Street 101) ≡ false
street_gone v = ap is_some (finite.get-remove keys_total v.items (key.Street 101) (key.Street 101))

-- a street that is there tells views apart
told_apart : (v w : View) → with_item v (street 101) ≢ without_key w (key.Street 101)
told_apart v w same =
    let clash = sym (street_there v) ∙ ap (λ (x : View). holds x (key.Street 101)) same ∙ street_gone w in
    cc

-- what became of a number tells views apart
passed_apart : (v w : View) (x y : Custody) → custody_at v 500 ≡ Some x → custody_at w 500 ≡ Some y → x ≢ y → v ≢ w
passed_apart v w x y at_v at_w differ same =
    let some : Some x ≡ Some y = sym at_v ∙ ap (λ (u : View). custody_at u 500) same ∙ at_w in
    differ (cc)

adopted_there : (v : View) → custody_at (with_adoption v alone 1001 1) 500 ≡ Some (Adopted 1001 1)
adopted_there v = finite.get-insert nat_cmp_total v.custody 500 (Adopted 1001 1) 500

released_there : (v : View) (to hop : ℕ) → custody_at (with_release v 500 to hop) 500 ≡ Some (Released to hop)
released_there v to hop = finite.get-insert nat_cmp_total v.custody 500 (Released to hop) 500

adopted_or_released : (from to m n : ℕ) → Adopted from m ≢ Released to n
adopted_or_released from to m n same = cc

-- what was adopted is released to nobody
taken_told_apart : (v w : View) (to hop : ℕ) → with_adoption v alone 1001 1 ≢ with_release w 500 to hop
taken_told_apart v w to hop = passed_apart _ _ (Adopted 1001 1) (Released to hop) (adopted_there v) (released_there w to hop) (adopted_or_released 1001 to 1 hop)

lawful_given_back : IsLawfulView given_back
lawful_given_back = lawful_released taken 500 1001 2 (lawful_adopted empty_view alone 1001 1 lawful_empty)

volume_1 : IsAtHand first_received 1001
volume_1 = ap is_some (finite.get-insert pairs_total (finite.empty {X = List ℕ} {R = pair_cmp}) (1001, 1) [] (1001, 1))

-- the changes that were gathered make one view
gathered_holds : (gathered : Gathered) (view another : View) → gathered.code ≡ 1001 → made empty_view gathered.changes.items ≡ view → IsLawfulView view → another ≢ view → WorkedGathered gathered view another
gathered_holds gathered view another of_1001 makes lawful_view differ = record {
  stands = record {
    lower = lawful;
    upper = record { views = lawful.views; working = lawful_view };
    same = refl;
    at_hand = subst (IsAtHand first_received) (sym of_1001) volume_1;
    working = sym makes;
  };
  content = refl;
  progress = ap Open of_1001;
  stops = refl;
  not_another = λ stood. differ (stood.working ∙ makes);
  no_file = λ stood. apart stood.same;
}

pub returns : goal.returns
returns c = record {
  on_changes = record {
    none = refl;
    one = refl;
    both = refl;
    in_order = told_apart (without_key empty_view (key.Street 101)) one_street;
    same = λ view. refl;
    not_same = λ same. told_apart empty_view empty_view (sym (same empty_view));
    added = λ view. refl;
    not_added = λ view. refl;
    lost = λ are. told_apart empty_view one_street (are empty_view);
  };
  on_passing = record {
    released = refl;
    adopted = refl;
    both = refl;
    in_order = taken_told_apart (with_release empty_view 500 1001 2) taken 1001 2;
    same = λ view. refl;
    not_a_put = λ same. passed_apart _ _ (Released 1002 1) (Adopted 1001 1) custody_holds.is_given_up (adopted_there given_up) (λ is. adopted_or_released 1001 1002 1 1 (sym is)) (same given_up);
    not_a_take = λ same. passed_apart _ _ (Adopted 1001 1) (Released 1002 1) custody_holds.is_taken (released_there taken 1002 1) (adopted_or_released 1001 1002 1 1) (same taken);
    not_at_another_hop = λ same. passed_apart _ _ (Released 1001 2) (Released 1002 1) (released_there empty_view 1001 2) (released_there empty_view 1002 1) (λ is. cc) (same empty_view);
    added = λ view. refl;
    lost = λ are. taken_told_apart empty_view taken 1001 2 (are empty_view);
  };
  on_steps = record {
    idle = record { same = refl; whole = λ is. cc };
    in_one_judgement = record { same = refl; whole = λ is. cc };
    behind = λ in_step. let same = in_step.same in cc;
    in_another = λ in_step. let same = in_step.same in cc;
    broken = λ in_step. in_step.whole refl;
  };
  on_leads = λ gathered of_one. record {
    ahead = record { judging = ap Open (sym of_one); closed = λ c is. cc; untried = λ no. refl };
    both_in_it = λ ahead. ahead.closed 1 refl;
    of_another = λ ahead. let same = ahead.judging ∙ ap Open of_one in cc;
    tried = λ is. record { judging = ap Open (sym of_one); closed = λ c is. cc; untried = λ no. let clash = sym is ∙ no in cc };
    untried = λ no ahead. let clash = ahead.untried no in cc;
  };
  on_mirrors = λ alloc. record {
    alone = lawful;
    alike = record { lower = lawful; upper = lawful; same = refl };
    apart = λ stood. apart stood.same;
    content = refl;
    stops = refl;
    gathers = λ is. cc;
  };
  on_gathered = λ gathered of_1001 these. gathered_holds gathered no_more one_street of_1001 (ap (made empty_view) these)
      (lawful_taken one_street (key.Street 101) (lawful_put empty_view (street 101) refl lawful_empty)) (told_apart empty_view one_street);
  on_passed_on = λ gathered of_1001 these. gathered_holds gathered given_back taken of_1001 (ap (made empty_view) these) lawful_given_back (taken_told_apart empty_view taken 1001 2);
  on_calls = λ alloc. record {
    kept = λ there. refl;
    none_to_keep = λ there. there;
    not_kept = λ kept. let no = kept refl in cc;
    answered = tt;
    dropped = refl;
    not_dropped = λ none. cc;
    spared = λ there. refl;
    none_to_spare_for = λ there. cc;
    not_spared = λ spared. apart (sym (spared refl));
  };
}
