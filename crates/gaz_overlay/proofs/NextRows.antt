-- What a key has of the rows that were there, and of those that come, once a volume is kept.
use Rattle.std.proofs.Common.{◌≡◌, ◌≤◌, ◌<◌, ◌+◌, ◌==◌, ◌∙◌, ◌||◌, ◌&&◌, ◌⊎◌, inl, inr, ℕ, Bool, true, false, cond, nat_le, nat_lt, sym, ap, refl, is_some, List, [], ◌∷◌, map, true≢false, arith}
use Rattle.std.proofs.lemmas.Bool.Decides.{nat_tests}
use Rattle.std.specs.Prelude.{Option, Some, None, option_map}
use Rattle.std.specs.FinMap as finite
use Rattle.std.specs.List.{AllByRecursion, cons_option, filter_map, list_any}
use Rattle.std.specs.Option.{option_map_or}
use Rattle.gaz_records.specs.declared.item.Item.{Item}
use Rattle.gaz_records.specs.declared.key.Key.{Key}
use Rattle.gaz_views.proofs.SameKeys.{same_key}
use Rattle.gaz_overlay.specs.Changes.{Changes, stood_in}
use Rattle.gaz_overlay.specs.Rows.{HistoryRow, IsUntil, added, closed, holds_after, is_born_by, is_of_birth, never, new_row}
use Rattle.gaz_overlay.specs.Writings.{born_in, writing_at, writing_of}
use Rattle.gaz_overlay.specs.declared.touch.NewRow.{NewRow}
use Rattle.gaz_overlay.specs.declared.touch.Stood.{Stood}
use Rattle.gaz_overlay.specs.declared.touch.Stood.TheVariants.{NoRow, Past, Since}
use Rattle.gaz_overlay.specs.declared.touch.Touch.{Touch}
use Rattle.gaz_overlay.proofs.Laid.{tie}
use Rattle.gaz_overlay.proofs.StandingRows.{IsNoted, Rows, and_none, le_no, le_so, lt_no, lt_so, none_either, or_skips, skips, stands, uses}

-- ---- the rows that were there

-- at the next volume a row still holds where it did
held_next : (n : ℕ) (r : HistoryRow) → n + 1 < never → IsUntil n r → holds_after (n + 1) r ≡ holds_after n r
held_next n r room h = by_gone h.gone
  where
    born : nat_le r.born (n + 1) ≡ nat_le r.born n
    born = let le = h.born in le_so r.born (n + 1) (omega arith) ∙ sym (le_so r.born n le)

    by_gone : (r.gone ≤ n) ⊎ (r.gone ≡ never) → holds_after (n + 1) r ≡ holds_after n r
    by_gone (inl gone) = λ i. born i && (lt_no (n + 1) r.gone (omega arith) ∙ sym (lt_no n r.gone gone)) i
    by_gone (inr current) = λ i. born i && (lt_so (n + 1) r.gone (omega arith) ∙ sym (lt_so n r.gone (omega arith))) i

born_next : (n : ℕ) (r : HistoryRow) → IsUntil n r → is_born_by (n + 1) r ≡ is_born_by n r
born_next n r h = let le = h.born in le_so r.born (n + 1) (omega arith) ∙ sym (le_so r.born n le)

-- a row that is closed with a volume doesn't hold after it
closed_now : (m : ℕ) (r : HistoryRow) → holds_after m (record r { gone = m }) ≡ false
closed_now m r = ap (λ b. nat_le r.born m && b) (lt_no m m (omega arith)) ∙ and_none (nat_le r.born m)

pub closes_since : (c : Changes) (k : Key) (born : ℕ) → (writing_at c k).closes ≡ Some born → stood_in c.touched k ≡ Since born
closes_since c k born is = by_touch (finite.get c.touched k) is
  where
    of_stood : (stood : Stood) → born_in stood ≡ Some born → stood ≡ Since born
    of_stood NoRow h = cc
    of_stood Past h = cc
    of_stood (Since b) h = let same : b ≡ born = cc in ap Since same

    of_test : (b : Bool) (stood : Stood) → cond b (born_in stood) None ≡ Some born → stood ≡ Since born
    of_test true stood h = of_stood stood h
    of_test false stood h = let none : None ≡ Some born = h in cc

    by_touch : (o : Option Touch) → (option_map_or (λ t. writing_of t (is_some (finite.get c.view.items k))) o (record { closes = None; adds = None })).closes ≡ Some born → option_map_or (λ t. t.stood) o NoRow ≡ Since born
    by_touch None h = let none : None ≡ Some born = h in cc
    by_touch (Some t) h = of_test _ t.stood h

module _ (n : ℕ) (c : Changes) (q : Key) (room : n + 1 < never) where
  -- what a row comes to at a key, before those behind it
  head : (r : HistoryRow) → IsUntil n r → IsNoted c r → (rest was : Option Item) → rest ≡ cond (is_some (writing_at c q).closes) None was
      → cond (holds_after (n + 1) (closed (n + 1) c r) && tie q (closed (n + 1) c r).key) (Some (closed (n + 1) c r).item) rest
      ≡ cond (is_some (writing_at c q).closes) None (cond (holds_after n r && tie q r.key) (Some r.item) was)
  head r until noted rest was behind = by_tie (tie q r.key) refl
    where
      kept_key : (closed (n + 1) c r).key ≡ r.key
      kept_key = elim (is_of_birth (writing_at c r.key).closes r) as (λ b. (cond b (record r { gone = n + 1 }) r).key ≡ r.key) [ true ↦ refl | false ↦ refl ]

      kept_item : (closed (n + 1) c r).item ≡ r.item
      kept_item = elim (is_of_birth (writing_at c r.key).closes r) as (λ b. (cond b (record r { gone = n + 1 }) r).item ≡ r.item) [ true ↦ refl | false ↦ refl ]

      gone_already : (born : ℕ) → stood_in c.touched r.key ≡ Since born → (born == r.born) ≡ false → (r.gone ≤ n) ⊎ (r.gone ≡ never) → holds_after (n + 1) r ≡ false
      gone_already born since other (inl gone) = ap (λ b. nat_le r.born (n + 1) && b) (lt_no (n + 1) r.gone (omega arith)) ∙ and_none (nat_le r.born (n + 1))
      gone_already born since other (inr current) = let same : r.born ≡ born = (noted.noted born since).0 current in absurd (grind (arith, nat_tests))

      no_more : (born : ℕ) → stood_in c.touched r.key ≡ Since born → (b : Bool) → (born == r.born) ≡ b → holds_after (n + 1) (cond b (record r { gone = n + 1 }) r) ≡ false
      no_more born since true is = closed_now (n + 1) r
      no_more born since false is = gone_already born since is until.gone

      here : q ≡ r.key → (o : Option ℕ) → (writing_at c r.key).closes ≡ o
          → cond (holds_after (n + 1) (cond (is_of_birth o r) (record r { gone = n + 1 }) r) && true) (Some r.item) rest ≡ cond (is_some o) None (cond (holds_after n r && true) (Some r.item) was)
      here key None is = (λ i. cond (held_next n r room until i && true) (Some r.item) ((behind ∙ ap (λ w. cond (is_some w) None was) (ap (λ k. (writing_at c k).closes) key ∙ is)) i))
      here key (Some born) is =
          ap (λ b. cond (b && true) (Some r.item) rest) (no_more born (closes_since c r.key born is) (born == r.born) refl)
          ∙ behind ∙ ap (λ w. cond (is_some w) None was) (ap (λ k. (writing_at c k).closes) key ∙ is)

      by_tie : (e : Bool) → tie q r.key ≡ e → cond (holds_after (n + 1) (closed (n + 1) c r) && tie q (closed (n + 1) c r).key) (Some (closed (n + 1) c r).item) rest
          ≡ cond (is_some (writing_at c q).closes) None (cond (holds_after n r && tie q r.key) (Some r.item) was)
      by_tie true is =
          let key = same_key q r.key is in
          (λ i. cond (holds_after (n + 1) (closed (n + 1) c r) && (ap (tie q) kept_key ∙ is) i) (Some (kept_item i)) rest)
          ∙ here key (writing_at c r.key).closes refl
          ∙ (λ i. cond (is_some (writing_at c (sym key i)).closes) None (cond (holds_after n r && sym is i) (Some r.item) was))
      by_tie false is =
          ap (λ b. cond (holds_after (n + 1) (closed (n + 1) c r) && b) (Some (closed (n + 1) c r).item) rest) (ap (tie q) kept_key ∙ is)
          ∙ skips (holds_after (n + 1) (closed (n + 1) c r)) (Some (closed (n + 1) c r).item) rest
          ∙ behind
          ∙ ap (cond (is_some (writing_at c q).closes) None) (sym (skips (holds_after n r) (Some r.item) was) ∙ ap (λ b. cond (holds_after n r && b) (Some r.item) was) (sym is))

  pub old_stands : (rows : Rows) → AllByRecursion (IsUntil n) rows → AllByRecursion (IsNoted c) rows
      → stands (n + 1) q (map (closed (n + 1) c) rows) ≡ cond (is_some (writing_at c q).closes) None (stands n q rows)
  old_stands [] until noted = none_either (is_some (writing_at c q).closes)
  old_stands (r ∷ rows) until noted = head r until.0 noted.0 (stands (n + 1) q (map (closed (n + 1) c) rows)) (stands n q rows) (old_stands rows until.1 noted.1)

-- what closes a row leaves its key and its birth
pub old_uses : (t m : ℕ) (c : Changes) (q : Key) (rows : Rows) → uses t q (map (closed m c) rows) ≡ uses t q rows
old_uses t m c q [] = refl
old_uses t m c q (r ∷ rows) =
    elim (is_of_birth (writing_at c r.key).closes r) as (λ b. ((is_born_by t (cond b (record r { gone = m }) r) && tie q (cond b (record r { gone = m }) r).key) || uses t q (map (closed m c) rows)) ≡ ((is_born_by t r && tie q r.key) || uses t q rows)) [
      | true ↦ ap (λ b. (is_born_by t r && tie q r.key) || b) (old_uses t m c q rows)
      | false ↦ ap (λ b. (is_born_by t r && tie q r.key) || b) (old_uses t m c q rows)
    ]

pub uses_next : (n : ℕ) (q : Key) (rows : Rows) → AllByRecursion (IsUntil n) rows → uses (n + 1) q rows ≡ uses n q rows
uses_next n q [] until = refl
uses_next n q (r ∷ rows) until = λ i. (born_next n r until.0 i && tie q r.key) || uses_next n q rows until.1 i

-- past views keep what they had
module _ (n : ℕ) (c : Changes) (q : Key) (room : n + 1 < never) (t : ℕ) (le : t ≤ n) where
  past_row : (r : HistoryRow) → IsNoted c r → (o : Option ℕ) → (writing_at c r.key).closes ≡ o → (b : Bool) → is_of_birth o r ≡ b → nat_lt t (cond b (record r { gone = n + 1 }) r).gone ≡ nat_lt t r.gone
  past_row r noted o is false other = refl
  past_row r noted None is true so = absurd (true≢false (sym so))
  past_row r noted (Some born) is true so =
      let same : r.born ≡ born = grind (arith, nat_tests) in
      let current : r.gone ≡ never = (noted.noted born (closes_since c r.key born is)).1 same in
      lt_so t (n + 1) (omega arith) ∙ sym (lt_so t r.gone (omega arith))

  pub past_stands : (rows : Rows) → AllByRecursion (IsNoted c) rows → stands t q (map (closed (n + 1) c) rows) ≡ stands t q rows
  past_stands [] noted = refl
  past_stands (r ∷ rows) noted = by_birth (past_stands rows noted.1) (is_of_birth (writing_at c r.key).closes r) refl
    where
      by_birth : stands t q (map (closed (n + 1) c) rows) ≡ stands t q rows → (b : Bool) → is_of_birth (writing_at c r.key).closes r ≡ b
          → cond (holds_after t (cond b (record r { gone = n + 1 }) r) && tie q (cond b (record r { gone = n + 1 }) r).key) (Some (cond b (record r { gone = n + 1 }) r).item) (stands t q (map (closed (n + 1) c) rows)) ≡ cond (holds_after t r && tie q r.key) (Some r.item) (stands t q rows)
      by_birth behind true is = λ i. cond ((nat_le r.born t && past_row r noted.0 (writing_at c r.key).closes refl true is i) && tie q r.key) (Some r.item) (behind i)
      by_birth behind false is = ap (cond (holds_after t r && tie q r.key) (Some r.item)) behind

-- ---- the rows that come

abbrev pub current_item : Option NewRow → Option Item
current_item None = None
current_item (Some r) = cond r.current (Some r.item) None

module _ (m : ℕ) (c : Changes) (q : Key) where
  abbrev pub newly : Option Item
  newly = current_item (writing_at c q).adds

  abbrev has : List Key → Bool
  has ks = list_any (tie q) ks

  held_new : m < never → (k : Key) (r : NewRow) → holds_after m (new_row m k r) ≡ r.current
  held_new room k r = ap (λ b. b && nat_lt m (cond r.current never m)) (le_so m m (omega arith)) ∙ by_current r.current
    where
      by_current : (b : Bool) → nat_lt m (cond b never m) ≡ b
      by_current true = lt_so m never room
      by_current false = lt_no m m (omega arith)

  pub new_stands : m < never → (ks : List Key) → stands m q (filter_map (added m c) ks) ≡ cond (has ks) newly None
  new_stands room [] = refl
  new_stands room (k ∷ ks) = by_row (new_stands room ks) (writing_at c k).adds refl (tie q k) refl
    where
      at_it : tie q k ≡ true → (o : Option NewRow) → (writing_at c k).adds ≡ o → newly ≡ current_item o
      at_it is o there = ap current_item (ap (λ x. (writing_at c x).adds) (same_key q k is) ∙ there)

      by_row : stands m q (filter_map (added m c) ks) ≡ cond (has ks) newly None → (o : Option NewRow) → (writing_at c k).adds ≡ o → (e : Bool) → tie q k ≡ e → stands m q (cons_option (option_map (new_row m k) o) (filter_map (added m c) ks)) ≡ cond (e || has ks) newly None
      by_row behind None there true is = behind ∙ ap (λ x. cond (has ks) x None) (at_it is None there) ∙ sym (none_either (has ks)) ∙ sym (at_it is None there)
      by_row behind None there false is = behind
      by_row behind (Some r) there true is =
          (λ i. cond (held_new room k r i && is i) (Some r.item) ((behind ∙ ap (λ x. cond (has ks) x None) (at_it is (Some r) there)) i)) ∙ by_current r.current ∙ sym (at_it is (Some r) there)
        where
          by_current : (b : Bool) → cond (b && true) (Some r.item) (cond (has ks) (cond b (Some r.item) None) None) ≡ cond b (Some r.item) None
          by_current true = refl
          by_current false = sym (none_either (has ks))
      by_row behind (Some r) there false is =
          ap (λ b. cond (holds_after m (new_row m k r) && b) (Some r.item) (stands m q (filter_map (added m c) ks))) is ∙ skips (holds_after m (new_row m k r)) (Some r.item) (stands m q (filter_map (added m c) ks)) ∙ behind

  -- none of them stands or is used before
  pub new_none : (t : ℕ) → t < m → (ks : List Key) → stands t q (filter_map (added m c) ks) ≡ None
  new_none t lt [] = refl
  new_none t lt (k ∷ ks) = by_row (new_none t lt ks) (writing_at c k).adds
    where
      by_row : stands t q (filter_map (added m c) ks) ≡ None → (o : Option NewRow) → stands t q (cons_option (option_map (new_row m k) o) (filter_map (added m c) ks)) ≡ None
      by_row behind None = behind
      by_row behind (Some r) = ap (λ b. cond ((b && nat_lt t (cond r.current never m)) && tie q k) (Some r.item) (stands t q (filter_map (added m c) ks))) (le_no m t lt) ∙ behind

  pub new_unused : (t : ℕ) → t < m → (ks : List Key) → uses t q (filter_map (added m c) ks) ≡ false
  new_unused t lt [] = refl
  new_unused t lt (k ∷ ks) = by_row (new_unused t lt ks) (writing_at c k).adds
    where
      by_row : uses t q (filter_map (added m c) ks) ≡ false → (o : Option NewRow) → uses t q (cons_option (option_map (new_row m k) o) (filter_map (added m c) ks)) ≡ false
      by_row behind None = behind
      by_row behind (Some r) = ap (λ b. (b && tie q k) || uses t q (filter_map (added m c) ks)) (le_no m t lt) ∙ behind

  pub new_uses : (ks : List Key) → uses m q (filter_map (added m c) ks) ≡ (has ks && is_some (writing_at c q).adds)
  new_uses [] = refl
  new_uses (k ∷ ks) = by_row (new_uses ks) (writing_at c k).adds refl (tie q k) refl
    where
      or_and : (h b : Bool) → b ≡ false → (h && b) ≡ b
      or_and true b is = refl
      or_and false b is = sym is

      same_adds : tie q k ≡ true → (o : Option NewRow) → (writing_at c k).adds ≡ o → is_some (writing_at c q).adds ≡ is_some o
      same_adds is o there = ap is_some (ap (λ x. (writing_at c x).adds) (same_key q k is) ∙ there)

      by_row : uses m q (filter_map (added m c) ks) ≡ (has ks && is_some (writing_at c q).adds) → (o : Option NewRow) → (writing_at c k).adds ≡ o → (e : Bool) → tie q k ≡ e → uses m q (cons_option (option_map (new_row m k) o) (filter_map (added m c) ks)) ≡ ((e || has ks) && is_some (writing_at c q).adds)
      by_row behind None there true is = behind ∙ or_and (has ks) _ (same_adds is None there)
      by_row behind None there false is = behind
      by_row behind (Some r) there true is = (λ i. (le_so m m (omega arith) i && is i) || uses m q (filter_map (added m c) ks)) ∙ sym (same_adds is (Some r) there)
      by_row behind (Some r) there false is = ap (λ b. (is_born_by m (new_row m k r) && b) || uses m q (filter_map (added m c) ks)) is ∙ or_skips (is_born_by m (new_row m k r)) _ ∙ behind
