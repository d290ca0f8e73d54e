-- The rows of histories once a volume is kept.
use Rattle.std.proofs.Common.{◌≡◌, ◌≤◌, ◌+◌, ◌∙◌, ◌++◌, ◌||◌, ◌&&◌, ℕ, Bool, true, false, not, cond, sym, ap, subst, refl, is_some, List, map, true≢false, arith}
use Rattle.std.specs.Prelude.{Option, Some, None, option_map}
use Rattle.std.specs.FinMap as finite
use Rattle.std.specs.FinSet as set
use Rattle.std.specs.List.{filter_map, list_any}
use Rattle.std.specs.Option.{option_map_or}
use Rattle.gaz_records.proofs.KeyOrder.{keys_total}
use Rattle.gaz_records.specs.declared.item.Item.{Item}
use Rattle.gaz_records.specs.declared.key.Key.{Key}
use Rattle.gaz_records.specs.declared.key.Key.TheVariants as key
use Rattle.gaz_views.specs.View.{View, was_used}
use Rattle.gaz_overlay.specs.Changes.{Changes, is_passed_key}
use Rattle.gaz_overlay.specs.Laid.{laid}
use Rattle.gaz_overlay.specs.Over.{IsLast, IsStood, IsTouch, KeyView, LieOver, Make, key_view}
use Rattle.gaz_overlay.specs.Passages.{PassageRow, PassOn, has_passed, passed_keys}
use Rattle.gaz_overlay.specs.Rows.{added, closed, view_after, view_of_rows, written}
use Rattle.gaz_overlay.specs.Writings.{born_in, writing_at, writing_of}
use Rattle.gaz_overlay.specs.declared.touch.NewRow.{NewRow}
use Rattle.gaz_overlay.specs.declared.touch.Stood.{Stood}
use Rattle.gaz_overlay.specs.declared.touch.Stood.TheVariants.{NoRow, Past, Since}
use Rattle.gaz_overlay.specs.declared.touch.Touch.{Touch}
use Rattle.gaz_overlay.specs.declared.touch.Writing.{Writing}
use Rattle.gaz_overlay.proofs.Laid.{at_key, besides, custody_laid, same_view, tie, used_at}
use Rattle.gaz_overlay.proofs.Touching.{unused}
use Rattle.gaz_overlay.proofs.StandingRows.{Given, Rows, item_after, no_custody, none_either, or_none, stands, stands_both, used_after, uses, uses_both}
use Rattle.gaz_overlay.proofs.NextRows.{current_item, new_none, new_stands, new_unused, new_uses, newly, old_stands, old_uses, past_stands, uses_next}

-- ---- what is written for a touched key

-- an item that was only copied is the one of the row that stays
copied_stays : (p : Option Item) (y : Item) (w : Bool) → Some y ≡ p → besides p None ≡ cond w (Some y) p
copied_stays None y w same = let none : Some y ≡ None = same in cc
copied_stays (Some x) y true same = sym same
copied_stays (Some x) y false same = refl

-- an item that was put stands in the new row alone
last_stands : (b : Option ℕ) (i : Item) (p y : Option Item) (w : Bool) → (b ≡ None → p ≡ None) → w ≡ true → (is_some y ≡ true → y ≡ Some i) → besides (cond (is_some b) None p) (cond (is_some y) (Some i) None) ≡ cond w y p
last_stands b i p y w empty used one = ap (λ o. besides o (cond (is_some y) (Some i) None)) (no_row b empty) ∙ is_one y one ∙ ap (λ u. cond u y p) (sym used)
  where
    no_row : (b : Option ℕ) → (b ≡ None → p ≡ None) → cond (is_some b) None p ≡ None
    no_row None h = h refl
    no_row (Some x) h = refl

    is_one : (y : Option Item) → (is_some y ≡ true → y ≡ Some i) → cond (is_some y) (Some i) None ≡ y
    is_one None h = refl
    is_one (Some z) h = sym (h refl)

item_written : (b : Option ℕ) (last : Option Item) (k : Key) (passed : Bool) (p : Option Item) (u : Bool) (y : Option Item) (w : Bool) → (b ≡ None → p ≡ None) → (is_some b ≡ true → w ≡ true)
    → IsLast last k passed (record { item = p; used = u }) (record { item = y; used = w })
    → besides (cond (is_some (cond (is_some last || not (is_some y)) b None)) None p) (current_item (option_map (λ i. record { item = i; current = is_some y }) last)) ≡ cond w y p
item_written None None k passed None u None w empty copied h = none_either w
item_written None None k passed (Some x) u None w empty copied h = let none : Some x ≡ None = empty refl in cc
item_written (Some b) None k passed p u None true empty copied h = refl
item_written (Some b) None k passed p u None false empty copied h = absurd (true≢false (sym (copied refl)))
item_written b None k passed p u (Some y) w empty copied h = copied_stays p y w (h.1 refl)
item_written b (Some i) k passed p u y w empty copied h = last_stands b i p y w empty h.0 h.1

-- used before by an item's row or a passage, or now by either
use_written : (last : Option Item) (k : Key) (p : Option Item) (a b passed : Bool) (y : Option Item) (w : Bool) → (passed ≡ true → w ≡ true) → IsLast last k passed (record { item = p; used = a || b }) (record { item = y; used = w })
    → ((a || is_some (option_map (λ i. let r : NewRow = record { item = i; current = is_some y } in r) last)) || (b || passed)) ≡ ((a || b) || w)
use_written None k p true b passed y w now h = refl
use_written None k p false true passed y w now h = refl
use_written None k p false false true y true now h = refl
use_written None k p false false true y false now h = absurd (true≢false (sym (now refl)))
use_written None k p false false false y true now h = absurd (true≢false (sym (h.0 refl)))
use_written None k p false false false y false now h = refl
use_written (Some i) k p true b passed y w now h = refl
use_written (Some i) k p false true passed y w now h = refl
use_written (Some i) k p false false passed y w now h = sym h.0

-- nothing is written of a key that isn't touched
use_stays : (a b passed w : Bool) → passed ≡ false → w ≡ false → ((a || false) || (b || passed)) ≡ ((a || b) || w)
use_stays true b passed w p u = refl
use_stays false true passed w p u = refl
use_stays false false passed w p u = p ∙ sym u

no_row : (stood : Stood) (before : KeyView) → IsStood stood before → born_in stood ≡ None → before.item ≡ None
no_row NoRow before h e = h
no_row Past before h e = h.0
no_row (Since b) before h e = let none : Some b ≡ None = e in cc

-- ---- all rows

besides_none : (p : Option Item) → besides p None ≡ p
besides_none None = refl
besides_none (Some x) = refl

-- the key of a number that was passed on is used
pub passed_used : (v : View) (c : Changes) → LieOver v c → (q : Key) → is_passed_key c q ≡ true → was_used c.view q ≡ true
passed_used v c over (key.Blpu m) is = over.passed.used m is
passed_used v c over (key.Street m) is = absurd (true≢false (sym is))
passed_used v c over (key.Descriptor m l) is = absurd (true≢false (sym is))
passed_used v c over (key.Xref t) is = absurd (true≢false (sym is))
passed_used v c over (key.Lpi t) is = absurd (true≢false (sym is))

if_used : (a b : Bool) → (a ≡ true → b ≡ true) → b ≡ false → a ≡ false
if_used true b h none = absurd (true≢false (sym (h refl) ∙ none))
if_used false b h none = refl

module _ (rows : Rows) (was are : List PassageRow) (n : ℕ) (c : Changes) (w : View) (h : Given n c rows) (made : Make (view_of_rows rows was n) c w) (pass : PassOn c n was are) where
  abbrev last : View
  last = view_of_rows rows was n

  abbrev of_rows : Key → Bool
  of_rows q = was_used (view_after rows n) q

  last_used : (q : Key) → was_used last q ≡ (of_rows q || has_passed was n q)
  last_used q = set.contains-union keys_total (view_after rows n).used (passed_keys was n) q

  abbrev ks : List Key
  ks = finite.keys c.touched

  abbrev writing_in : Key → Option Touch → Writing
  writing_in q o = option_map_or (λ t. writing_of t (is_some (finite.get c.view.items q))) o (record { closes = None; adds = None })

  had : (q : Key) (o : Option Touch) → finite.get c.touched q ≡ o → list_any (tie q) ks ≡ is_some o
  had q o is = sym (finite.contains_key-keys c.touched q) ∙ ap is_some is

  untouched_here : (q : Key) → finite.get c.touched q ≡ None → was_used c.view q ≡ false
  untouched_here q is = unused last c made.over q (ap is_some is)

  copied_here : (q : Key) (t : Touch) → IsTouch q t (is_passed_key c q) (key_view last q) (key_view c.view q) → (stood : Stood) → t.stood ≡ stood → is_some (born_in stood) ≡ true → was_used c.view q ≡ true
  copied_here q t it NoRow is e = absurd (true≢false (sym e))
  copied_here q t it Past is e = absurd (true≢false (sym e))
  copied_here q t it (Since b) is e = it.copied b is

  next_item : (q : Key) → stands (n + 1) q (map (closed (n + 1) c) rows ++ filter_map (added (n + 1) c) ks) ≡ cond (was_used c.view q) (finite.get c.view.items q) (finite.get last.items q)
  next_item q =
      let room = h.room in
      let was : stands n q rows ≡ finite.get last.items q = sym (item_after rows n q) in
      stands_both (n + 1) q (map (closed (n + 1) c) rows) (filter_map (added (n + 1) c) ks)
      ∙ (λ i. besides ((old_stands n c q room rows h.until h.noted ∙ ap (cond (is_some (writing_at c q).closes) None) was) i) ((new_stands (n + 1) c q room ks ∙ ap (λ b. cond b (newly (n + 1) c q) None) (had q (finite.get c.touched q) refl)) i))
      ∙ by_touch (finite.get c.touched q) refl
    where
      by_touch : (o : Option Touch) → finite.get c.touched q ≡ o → besides (cond (is_some (writing_in q o).closes) None (finite.get last.items q)) (cond (is_some o) (current_item (writing_in q o).adds) None) ≡ cond (was_used c.view q) (finite.get c.view.items q) (finite.get last.items q)
      by_touch None is = besides_none (finite.get last.items q) ∙ ap (λ b. cond b (finite.get c.view.items q) (finite.get last.items q)) (sym (untouched_here q is))
      by_touch (Some t) is =
          let it = made.over.each q t is in
          item_written (born_in t.stood) t.last q (is_passed_key c q) (finite.get last.items q) (was_used last q) (finite.get c.view.items q) (was_used c.view q)
          (no_row t.stood (key_view last q) it.stood) (copied_here q t it t.stood refl) it.last

  next_used : (q : Key) → (uses (n + 1) q (map (closed (n + 1) c) rows ++ filter_map (added (n + 1) c) ks) || has_passed are (n + 1) q) ≡ (was_used last q || was_used c.view q)
  next_used q =
      (λ i. (uses_both (n + 1) q (map (closed (n + 1) c) rows) (filter_map (added (n + 1) c) ks)
      ∙ (λ j. (old_uses (n + 1) (n + 1) c q rows ∙ uses_next n q rows h.until ∙ sym (used_after rows n q)) j || (new_uses (n + 1) c q ks ∙ ap (λ b. b && is_some (writing_at c q).adds) (had q (finite.get c.touched q) refl)) j)) i || pass.used q i)
      ∙ by_touch (finite.get c.touched q) refl
      ∙ ap (λ b. b || was_used c.view q) (sym (last_used q))
    where
      by_touch : (o : Option Touch) → finite.get c.touched q ≡ o → ((of_rows q || (is_some o && is_some (writing_in q o).adds)) || (has_passed was n q || is_passed_key c q)) ≡ ((of_rows q || has_passed was n q) || was_used c.view q)
      by_touch None is =
          use_stays (of_rows q) (has_passed was n q) (is_passed_key c q) (was_used c.view q)
          (if_used (is_passed_key c q) (was_used c.view q) (passed_used last c made.over q) (untouched_here q is)) (untouched_here q is)
      by_touch (Some t) is =
          use_written t.last q (finite.get last.items q) (of_rows q) (has_passed was n q) (is_passed_key c q) (finite.get c.view.items q) (was_used c.view q)
          (passed_used last c made.over q)
          (subst (λ b. IsLast t.last q (is_passed_key c q) (record { item = finite.get last.items q; used = b }) (key_view c.view q)) (last_used q) (made.over.each q t is).last)

  pub next_view : view_of_rows (written (n + 1) c rows) are (n + 1) ≡ w
  unfolding written
  next_view =
      same_view (view_of_rows (written (n + 1) c rows) are (n + 1)) (laid last c.view)
      (pass.next ∙ sym (custody_laid last c.view))
      (λ q. item_after (written (n + 1) c rows) (n + 1) q ∙ next_item q ∙ sym (at_key last c.view made.over.lawful q))
      (λ q. set.contains-union keys_total (view_after (written (n + 1) c rows) (n + 1)).used (passed_keys are (n + 1)) q ∙ ap (λ b. b || has_passed are (n + 1) q) (used_after (written (n + 1) c rows) (n + 1) q) ∙ next_used q ∙ sym (used_at last c.view q))
      ∙ sym made.is_laid

  past_items : (t : ℕ) → t ≤ n → view_after (written (n + 1) c rows) t ≡ view_after rows t
  unfolding written
  past_items t le =
      same_view (view_after (written (n + 1) c rows) t) (view_after rows t)
      (no_custody (written (n + 1) c rows) t ∙ sym (no_custody rows t))
      (λ q. item_after (written (n + 1) c rows) t q ∙ stands_both t q (map (closed (n + 1) c) rows) (filter_map (added (n + 1) c) ks)
      ∙ (λ i. besides (past_stands n c q h.room t le rows h.noted i) (new_none (n + 1) c q t (omega arith) ks i)) ∙ besides_none (stands t q rows) ∙ sym (item_after rows t q))
      (λ q. used_after (written (n + 1) c rows) t q ∙ uses_both t q (map (closed (n + 1) c) rows) (filter_map (added (n + 1) c) ks)
      ∙ (λ i. old_uses t (n + 1) c q rows i || new_unused (n + 1) c q t (omega arith) ks i) ∙ or_none (uses t q rows) ∙ sym (used_after rows t q))

  pub past_view : (t : ℕ) → t ≤ n → view_of_rows (written (n + 1) c rows) are t ≡ view_of_rows rows was t
  past_view t le = λ i. record {
    items = (past_items t le i).items;
    used = set.union (past_items t le i).used (pass.past_used t le i);
    custody = pass.past t le i;
  }
