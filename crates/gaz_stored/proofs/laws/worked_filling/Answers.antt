-- What the definitions come to on worked examples.
use Rattle.std.proofs.Common.{◌≡◌, ◌∙◌, ◌≤◌, ℕ, zero, suc, true, false, true≢false, cond, List, [], Some, IsSome, is_some, refl, sym, ap, subst, arith}
use Rattle.std.specs.FinMap as finite
use Rattle.std.specs.Cmp.{eq_by_cmp_equiv}
use Rattle.std.specs.Ordering.{eq_by_cmp}
use Rattle.gaz_views.specs.Examples.{one_street}
use Rattle.gaz_views.specs.View.{View, holds}
use Rattle.gaz_views.proofs.Emptiness.{get_none}
use Rattle.gaz_views.proofs.Examples.{worked_examples_hold}
use Rattle.gaz_records.specs.declared.key.Key.TheVariants as key
use Rattle.gaz_steps.proofs.Steps.{pairs_same}
use Rattle.gaz_views.proofs.Lawful.{lawful_empty}
use Rattle.gaz_keeper.proofs.Pairs.{pairs_total}
use Rattle.gaz_keeper.specs.Examples.{first_received, kept_safe}
use Rattle.gaz_keeper.specs.Keeper.{IsLawful, empty_content, with_working}
use Rattle.gaz_keeper.specs.Received.{pair_cmp, with_file}
use Rattle.gaz_steps.specs.Hubs.{door_of}
use Rattle.gaz_steps.specs.Sample.{sample_custodians}
use Rattle.gaz_steps.proofs.Headline.{may_begin}
use Rattle.gaz_stored.specs.Filling.{AreVolumes, RestsBare}
use Rattle.gaz_stored.proofs.laws.worked_filling.Goals as goal

-- ---- files

none_there : {A : Type 0} (p : ℕ × ℕ) → IsSome (finite.get {X = List ℕ} (finite.empty {R = pair_cmp}) p) → A
none_there p some = let wrong : false ≡ true = sym (ap is_some (finite.get-empty {X = List ℕ} pair_cmp p)) ∙ some in absurd (cc)

received : (v : ℕ) → IsSome (finite.get (with_file finite.empty 1001 v []) (1001, v))
received v = ap is_some (finite.get-insert pairs_total (finite.empty {X = List ℕ} {R = pair_cmp}) (1001, v) [] (1001, v) ∙ ap (λ b. cond b (Some []) (finite.get (finite.empty {X = List ℕ} {R = pair_cmp}) (1001, v))) ((eq_by_cmp_equiv pairs_total).refl (1001, v)))

-- nothing else was
first : AreVolumes first_received.files
first p some =
    elim (eq_by_cmp pair_cmp p (1001, 1)) as (λ b. eq_by_cmp pair_cmp p (1001, 1) ≡ b → IsSome (cond b (Some []) (finite.get {X = List ℕ} (finite.empty {R = pair_cmp}) p)) → 1 ≤ p.1) [
      | true ↦ λ is _. subst (λ (q : ℕ × ℕ). 1 ≤ q.1) (sym (pairs_same p (1001, 1) is)) (omega arith)
      | false ↦ λ _ none. none_there p none
    ] refl (subst IsSome (finite.get-insert pairs_total (finite.empty {X = List ℕ} {R = pair_cmp}) (1001, 1) [] p) some)

-- ---- keepers

lawful : IsLawful empty_content
lawful = record { views = λ c. elim [ zero ↦ lawful_empty | suc n ↦ lawful_empty ]; working = lawful_empty }

not_bare : ¬ RestsBare kept_safe
not_bare bare =
    let empty = bare (with_working empty_content one_street) refl in
    let wrong : true ≡ false = sym worked_examples_hold.on_views.is_held ∙ ap (λ (v : View). holds v (key.Street 101)) empty ∙ ap is_some (get_none (key.Street 101)) in
    absurd (cc)

pub returns : goal.returns
returns c = record {
  codes = refl;
  no_codes = refl;
  of_nothing = λ p some. none_there p some;
  first = first;
  not_a_volume = λ all. let low = all (1001, 0) (received 0) in omega (arith, low);
  bare = λ k idle. refl;
  not_bare = not_bare;
  nothing_yet = record {
    run = (lawful, may_begin (door_of sample_custodians) empty_content refl refl);
    volumes = λ p some. none_there p some;
  };
  of_nobody_known = λ can. let known = can.run.1.known (1001, 1) (received 1) in absurd (true≢false (sym known));
}
