-- What each change makes of the working view.
use Rattle.std.proofs.Common.{◌≡◌, ◌∙◌, ◌||◌, ℕ, Bool, true, false, cond, sym, ap, refl, subst, is_some, true≢false}
use Rattle.std.specs.Prelude.{Option, Some, None, option_map}
use Rattle.std.specs.FinMap as finite
use Rattle.std.specs.FinSet as set
use Rattle.std.specs.Option.{option_map_or}
use Rattle.std.specs.Ordering.{nat_cmp}
use Rattle.gaz_records.proofs.KeyOrder.{keys_total}
use Rattle.gaz_records.specs.Items.{is_entry}
use Rattle.gaz_records.specs.Keys.{key_cmp, key_of}
use Rattle.gaz_records.specs.declared.item.Item.{Item}
use Rattle.gaz_records.specs.Blpus.{BlpuValue}
use Rattle.gaz_records.specs.declared.item.Item.TheVariants as item
use Rattle.gaz_records.specs.declared.key.Key.{Key}
use Rattle.gaz_records.specs.declared.key.Key.TheVariants as key
use Rattle.gaz_views.proofs.Emptiness.{no_custody, used_none}
use Rattle.gaz_views.proofs.Lawful.{lawful_empty}
use Rattle.gaz_views.specs.Lawful.{IsLawfulView}
use Rattle.gaz_views.specs.View.{View, custody_at, was_used, with_adoption, with_item, with_release, without_key}
use Rattle.gaz_overlay.specs.Changes.{Changes, is_passed_key, is_touched, no_changes, stood_in, was_there, was_used_in, with_put, with_touched}
use Rattle.gaz_overlay.specs.Laid.{laid}
use Rattle.gaz_overlay.specs.Making.{ChangesMake}
use Rattle.gaz_overlay.specs.Over.{IsLast, IsStood, LieOver, Make, key_view}
use Rattle.gaz_overlay.specs.Writings.{writing_at, writing_of}
use Rattle.gaz_overlay.specs.declared.touch.NewRow.{NewRow}
use Rattle.gaz_overlay.specs.declared.touch.Stood.{Stood}
use Rattle.gaz_overlay.specs.declared.touch.Stood.TheVariants.{NoRow, Past, Since}
use Rattle.gaz_overlay.specs.declared.touch.Touch.{Touch}
use Rattle.gaz_overlay.proofs.Laid.{adopted, at_key, custody_laid_is, nothing, put, released, same_view, taken, tie, used_at}
use Rattle.gaz_overlay.proofs.Touching.{none_there, put_over, taken_over, touched_laid, touched_over, unused}
use Rattle.gaz_overlay.proofs.NumbersPassed.{adopted_over, released_over}

-- ---- what the working view has

either : (a b : Bool) → (a || b) ≡ (b || a)
either true true = refl
either true false = refl
either false true = refl
either false false = refl

module _ (v : View) (c : Changes) (over : LieOver v c) (k : Key) where
  laid_view : key_view (laid v c.view) k ≡ record { item = cond (was_used c.view k) (finite.get c.view.items k) (finite.get v.items k); used = was_used v k || was_used c.view k }
  laid_view = λ i. record { item = at_key v c.view over.lawful k i; used = used_at v c.view k i }

  there_item : is_touched c k ≡ true → (b : Bool) → was_used c.view k ≡ b → cond b (finite.get c.view.items k) (finite.get v.items k) ≡ finite.get c.view.items k
  there_item noted true is = refl
  there_item noted false is = none_there v c over k noted is ∙ sym (no_item (finite.get c.view.items k) refl)
    where
      no_item : (o : Option Item) → finite.get c.view.items k ≡ o → o ≡ None
      no_item None there = refl
      no_item (Some i) there = absurd (true≢false (sym (over.lawful.used k (ap is_some there)) ∙ is))

  told_there : is_touched c k ≡ true → finite.get (laid v c.view).items k ≡ finite.get c.view.items k
  told_there noted = at_key v c.view over.lawful k ∙ there_item noted (was_used c.view k) refl

  -- where the changes say that a key had a row, the last view has used it
  had_row : was_there (stood_in c.touched k) ≡ true → was_used v k ≡ true
  had_row = by_touch (finite.get c.touched k) refl
    where
      by_stood : (stood : Stood) → IsStood stood (key_view v k) → was_there stood ≡ true → was_used v k ≡ true
      by_stood NoRow so h = absurd (true≢false (sym h))
      by_stood Past so h = so.1
      by_stood (Since b) so h = so.1

      by_touch : (o : Option Touch) → finite.get c.touched k ≡ o → was_there (option_map_or (λ t. t.stood) o NoRow) ≡ true → was_used v k ≡ true
      by_touch None is h = absurd (true≢false (sym h))
      by_touch (Some t) is h = by_stood t.stood (over.each k t is).stood h

  told_used : was_used (laid v c.view) k ≡ (was_used_in c k || was_used v k)
  told_used = used_at v c.view k ∙ by_use (was_used v k) (was_used c.view k) (was_there (stood_in c.touched k)) had_row
    where
      by_use : (before now row : Bool) → (row ≡ true → before ≡ true) → (before || now) ≡ ((now || row) || before)
      by_use true true row h = refl
      by_use true false true h = refl
      by_use true false false h = refl
      by_use false true row h = refl
      by_use false false true h = h refl
      by_use false false false h = refl

  told_elsewhere : is_touched c k ≡ false → key_view (laid v c.view) k ≡ key_view v k
  told_elsewhere fresh =
      let none = unused v c over k fresh in
      let items = ap (λ b. cond b (finite.get c.view.items k) (finite.get v.items k)) none in
      let uses = ap (λ b. was_used v k || b) none ∙ either (was_used v k) false in
      laid_view ∙ (λ i. record { item = items i; used = uses i })

-- ---- what is written

abbrev IsOwn : Key → NewRow → Type 0
IsOwn k r = (key_of r.item ≡ k) × (is_entry r.item ≡ true)

own_row : (v : View) (c : Changes) → LieOver v c → (k : Key) (r : NewRow) → (writing_at c k).adds ≡ Some r → IsOwn k r
own_row v c over k r is = by_touch (finite.get c.touched k) refl is
  where
    by_last : (t : Touch) → finite.get c.touched k ≡ Some t → (b : Bool) (o : Option Item) → t.last ≡ o → option_map (λ i. let x : NewRow = record { item = i; current = b } in x) o ≡ Some r → IsOwn k r
    by_last t there b None last h = let none : None ≡ Some r = h in cc
    by_last t there b (Some i) last h =
        let so : IsLast (Some i) k (is_passed_key c k) (key_view v k) (key_view c.view k) = subst (λ (o : Option Item). IsLast o k (is_passed_key c k) (key_view v k) (key_view c.view k)) last (over.each k t there).last in
        let row : NewRow = record { item = i; current = b } in
        let same : row ≡ r = cc in
        subst (λ (x : NewRow). IsOwn k x) same (so.2, so.3)

    by_touch : (o : Option Touch) → finite.get c.touched k ≡ o → (option_map_or (λ t. writing_of t (is_some (finite.get c.view.items k))) o (record { closes = None; adds = None })).adds ≡ Some r → IsOwn k r
    by_touch None there h = let none : None ≡ Some r = h in cc
    by_touch (Some t) there h = by_last t there (is_some (finite.get c.view.items k)) t.last refl h

-- ---- what hides what stood there

module _ (v : View) (was : Item) (k : Key) (own : key_of was ≡ k) where
  item_then : (q : Key) → finite.get (with_item v was).items q ≡ cond (tie q k) (Some was) (finite.get v.items q)
  item_then q = finite.get-insert keys_total v.items (key_of was) was q ∙ ap (λ p. cond (tie q p) (Some was) (finite.get v.items q)) own

  use_then : (q : Key) → was_used (with_item v was) q ≡ (tie q k || was_used v q)
  use_then q = set.contains-insert keys_total v.used (key_of was) q ∙ ap (λ p. tie q p || was_used v q) own

  item_hidden : (x : Option Item) (q : Key) → cond (tie q k) x (finite.get (with_item v was).items q) ≡ cond (tie q k) x (finite.get v.items q)
  item_hidden x q = by_tie (tie q k) (item_then q)
    where
      by_tie : (t : Bool) {w : Option Item} → w ≡ cond t (Some was) (finite.get v.items q) → cond t x w ≡ cond t x (finite.get v.items q)
      by_tie true e = refl
      by_tie false e = e

  use_hidden : (q : Key) → (tie q k || was_used (with_item v was) q) ≡ (tie q k || was_used v q)
  use_hidden q = by_tie (tie q k) (use_then q)
    where
      by_tie : (t : Bool) {w : Bool} → w ≡ (t || was_used v q) → (t || w) ≡ (t || was_used v q)
      by_tie true e = refl
      by_tie false e = e

put_hidden : (v : View) (was i : Item) → key_of was ≡ key_of i → with_item (with_item v was) i ≡ with_item v i
put_hidden v was i own =
    let k = key_of i in
    same_view _ _ refl
    (λ q. finite.get-insert keys_total (with_item v was).items k i q ∙ item_hidden v was k own (Some i) q ∙ sym (finite.get-insert keys_total v.items k i q))
    (λ q. set.contains-insert keys_total (with_item v was).used k q ∙ use_hidden v was k own q ∙ sym (set.contains-insert keys_total v.used k q))

release_hidden : (v : View) (was : Item) (n to hop : ℕ) → key_of was ≡ key.Blpu n → with_release (with_item v was) n to hop ≡ with_release v n to hop
release_hidden v was n to hop own =
    let k = key.Blpu n in
    same_view _ _ refl
    (λ q. finite.get-remove keys_total (with_item v was).items k q ∙ item_hidden v was k own None q ∙ sym (finite.get-remove keys_total v.items k q))
    (λ q. set.contains-insert keys_total (with_item v was).used k q ∙ use_hidden v was k own q ∙ sym (set.contains-insert keys_total v.used k q))

adoption_hidden : (v : View) (was : Item) (b : BlpuValue) (from hop : ℕ) → key_of was ≡ key.Blpu b.uprn → with_adoption (with_item v was) b from hop ≡ with_adoption v b from hop
adoption_hidden v was b from hop own =
    let same = put_hidden v was (item.Blpu b) own in
    λ j. record { items = (same j).items; used = (same j).used; custody = (with_adoption v b from hop).custody }

-- ---- all together

nothing_over : (v : View) → LieOver v no_changes
nothing_over v = record {
  lawful = lawful_empty;
  touched = λ k used. absurd (true≢false (sym used ∙ used_none k));
  each = λ k t there. let none : Some t ≡ None = sym there ∙ finite.get-empty key_cmp k in cc;
  passed = record {
    told = λ n. ap is_some (no_custody n) ∙ sym (ap is_some (finite.get-empty nat_cmp n));
    since = λ n o there. let none : Some o ≡ None = sym there ∙ finite.get-empty nat_cmp n in cc;
    used = λ n there. absurd (true≢false (sym there ∙ ap is_some (finite.get-empty nat_cmp n)));
  };
}

touched_made : (v : View) (c : Changes) (w : View) → IsLawfulView v → Make v c w → (k : Key) (stood : Stood) → is_touched c k ≡ false → IsStood stood (key_view v k) → Make v (with_touched c k stood (finite.get v.items k)) w
touched_made v c w last made k stood fresh so = record { over = touched_over v c last made.over k stood fresh so (finite.get v.items k) refl; is_laid = made.is_laid ∙ touched_laid v c last made.over k stood fresh so }

put_made : (v : View) (c : Changes) (w : View) → Make v c w → (i : Item) → is_entry i ≡ true → is_touched c (key_of i) ≡ true → Make v (with_put c i) (with_item w i)
put_made v c w made i entry noted = record { over = put_over v c made.over i entry noted; is_laid = ap (λ (u : View). with_item u i) made.is_laid ∙ put v c.view made.over.lawful i entry }

pub changes_make : ChangesMake
changes_make = record {
  nothing = λ v. record { over = nothing_over v; is_laid = sym (nothing v) };
  touched = touched_made;
  put = put_made;
  put_hides = put_hidden;
  release_hides = release_hidden;
  adoption_hides = adoption_hidden;
  taken = λ v c w made k noted.
      record { over = taken_over v c made.over k; is_laid = ap (λ (u : View). without_key u k) made.is_laid ∙ taken v c.view made.over.lawful k (none_there v c made.over k noted) };
  released = λ v c w made n to hop since noted so.
      record { over = released_over v c made.over n to hop since noted so; is_laid = ap (λ (u : View). with_release u n to hop) made.is_laid ∙ released v c.view made.over.lawful n to hop };
  adopted = λ v c w made b from hop since noted so.
      record { over = adopted_over v c made.over b from hop since noted so; is_laid = ap (λ (u : View). with_adoption u b from hop) made.is_laid ∙ adopted v c.view made.over.lawful b from hop };
  custody = λ v c w made n. ap (λ (u : View). custody_at u n) made.is_laid ∙ custody_laid_is v c.view n;
  there = λ v c w made k noted. ap (λ (u : View). finite.get u.items k) made.is_laid ∙ told_there v c made.over k noted;
  used = λ v c w made k. ap (λ (u : View). was_used u k) made.is_laid ∙ told_used v c made.over k;
  elsewhere = λ v c w made k fresh. ap (λ (u : View). key_view u k) made.is_laid ∙ told_elsewhere v c made.over k fresh;
  own = λ v c w made k r is. (own_row v c made.over k r is).0;
  entries = λ v c w made k r is. (own_row v c made.over k r is).1;
}
