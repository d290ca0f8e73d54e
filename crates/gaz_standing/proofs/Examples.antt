-- What the definitions come to on worked examples.
use Rattle.std.proofs.Common.{◌≡◌, ◌∙◌, ◌||◌, ℕ, Bool, cond, ap, refl, true, false, [], ◌∷◌, unwrap_or}
use Rattle.std.specs.Prelude.{◌==◌, Option, Some, None, codes, is_some}
use Rattle.std.specs.Cmp.{eq_by_cmp_equiv}
use Rattle.std.specs.Option.{option_and_then, option_map_or}
use Rattle.std.specs.Ordering.{eq_by_cmp}
use Rattle.std.specs.FinMap as map
use Rattle.gaz_records.proofs.KeyOrder.{keys_total}
use Rattle.gaz_records.specs.Keys.{key_cmp}
use Rattle.gaz_records.specs.declared.item.Item.{Item}
use Rattle.gaz_records.specs.declared.key.Key.{Key}
use Rattle.gaz_records.specs.declared.key.Key.TheVariants as key
use Rattle.gaz_histories.specs.Histories.{Versions, standing_at, was_used_at}
use Rattle.gaz_views.specs.Examples.{council_tax, street}
use Rattle.gaz_views.specs.Judgements.{judgements}
use Rattle.gaz_views.specs.View.{was_used}
use Rattle.gaz_views.specs.Words.{blpu_named}
use Rattle.gaz_standing.proofs.KeyHistories.{contains_at, get_at}
use Rattle.gaz_standing.specs.Examples.{WorkedExamples, WorkedGazetteers, WorkedKeeping, WorkedTies, renamed, three_volumes}
use Rattle.gaz_standing.specs.KeyHistories.{versions_at, view_at}
use Rattle.gaz_standing.specs.Ties.{names_at}

versions_in_three : (k : Key) → map.get three_volumes k ≡ cond (eq_by_cmp key_cmp k (key.Street 102)) (Some ((2, Some (street 102)) ∷ [])) (cond (eq_by_cmp key_cmp k (key.Street 101)) (Some ((1, Some (street 101)) ∷ (3, None) ∷ [])) None)
versions_in_three k =
    map.get-insert keys_total (map.insert map.empty (key.Street 101) ((1, Some (street 101)) ∷ (3, None) ∷ [])) (key.Street 102) ((2, Some (street 102)) ∷ []) k
    ∙ ap (cond (eq_by_cmp key_cmp k (key.Street 102)) (Some ((2, Some (street 102)) ∷ [])))
    (map.get-insert keys_total map.empty (key.Street 101) ((1, Some (street 101)) ∷ (3, None) ∷ []) k ∙ ap (cond (eq_by_cmp key_cmp k (key.Street 101)) (Some ((1, Some (street 101)) ∷ (3, None) ∷ []))) (map.get-empty key_cmp k))

item_in_three : (volume : ℕ) (k : Key) → map.get (view_at three_volumes volume).items k ≡ standing_at (unwrap_or (cond (eq_by_cmp key_cmp k (key.Street 102)) (Some ((2, Some (street 102)) ∷ [])) (cond (eq_by_cmp key_cmp k (key.Street 101)) (Some ((1, Some (street 101)) ∷ (3, None) ∷ [])) None)) []) volume
item_in_three volume k = get_at three_volumes volume k ∙ ap (λ o. standing_at (unwrap_or o []) volume) (versions_in_three k)

used_in_three : (volume : ℕ) (k : Key) → was_used (view_at three_volumes volume) k ≡ was_used_at (unwrap_or (cond (eq_by_cmp key_cmp k (key.Street 102)) (Some ((2, Some (street 102)) ∷ [])) (cond (eq_by_cmp key_cmp k (key.Street 101)) (Some ((1, Some (street 101)) ∷ (3, None) ∷ [])) None)) []) volume
used_in_three volume k = contains_at three_volumes volume k ∙ ap (λ o. was_used_at (unwrap_or o []) volume) (versions_in_three k)

gazetteers_hold : WorkedGazetteers
unfolding judgements
gazetteers_hold = record {
  not_yet = item_in_three 0 (key.Street 101);
  came = item_in_three 1 (key.Street 101);
  stays = item_in_three 2 (key.Street 101);
  went = item_in_three 3 (key.Street 101);
  other_comes_later = item_in_three 1 (key.Street 102);
  other_came = item_in_three 2 (key.Street 102);
  not_used_yet = used_in_three 1 (key.Street 102);
  stays_used = used_in_three 3 (key.Street 101);
  second_judged = refl;
  third_not_judged = refl;
}

either_key : {X : Type 0} (v w : X) (first other second : Bool) → is_some (cond second (Some v) (cond first (Some w) None)) ≡ true → (first || (other || (second || false))) ≡ true
either_key v w true other second e = refl
either_key v w false true second e = refl
either_key v w false false true e = refl
either_key v w false false false e = cc

keeping_holds : WorkedKeeping
keeping_holds = record {
  its_keys = λ k. either_key _ _ (eq_by_cmp key_cmp k (key.Street 101)) (eq_by_cmp key_cmp k (key.Street 103)) (eq_by_cmp key_cmp k (key.Street 102));
  in_order = refl;
  never_used = refl;
  one_mark = refl;
  of_another = refl;
  another_mark = refl;
  marked = refl;
  not_marked = refl;
  not_there = refl;
}

abbrev naming : Versions Item
naming = (1, Some (council_tax (codes "X1") 1001)) ∷ (3, Some (council_tax (codes "X1") 1002)) ∷ []

abbrev its_xref : Key
its_xref = key.Xref (codes "X1")

xref_stood : versions_at renamed its_xref ≡ naming
xref_stood =
    ap (λ (o : Option (Versions Item)). unwrap_or o []) (map.get-insert keys_total map.empty its_xref naming its_xref ∙ ap (λ (b : Bool). cond b (Some naming) (map.get {R = key_cmp} map.empty its_xref)) ((eq_by_cmp_equiv keys_total).refl its_xref))

xref_names : (volume uprn : ℕ) → names_at renamed volume uprn its_xref ≡ option_map_or (λ n. n == uprn) (option_and_then blpu_named (standing_at naming volume)) false
xref_names volume uprn = ap (λ (vs : Versions Item). option_map_or (λ n. n == uprn) (option_and_then blpu_named (standing_at vs volume)) false) xref_stood

ties_hold : WorkedTies
ties_hold = record {
  cross_reference = refl;
  another_name = refl;
  its_address = refl;
  its_part = refl;
  not_yet = xref_names 0 1001;
  names = xref_names 2 1001;
  another = xref_names 2 1002;
  no_more = xref_names 3 1001;
  names_another = xref_names 3 1002;
}

pub worked_examples_hold : WorkedExamples
worked_examples_hold = record { on_gazetteers = gazetteers_hold; on_keeping = keeping_holds; on_ties = ties_hold }
