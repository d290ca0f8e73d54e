-- The rows of a key stay apart when a volume is kept.
use Rattle.std.proofs.Common.{◌≡◌, ◌↔◌, ◌≤◌, ◌<◌, ◌+◌, ◌==◌, ◌∙◌, ◌++◌, ◌||◌, ◌&&◌, ◌⊎◌, inl, inr, ℕ, Bool, true, false, not, cond, T, sym, ap, refl, is_some, List, [], ◌∷◌, map, true≢false, arith}
use Rattle.std.proofs.lemmas.Bool.Decides.{nat_tests}
use Rattle.std.specs.Prelude.{Option, Some, None, option_map}
use Rattle.std.specs.Cmp.{tied_itself}
use Rattle.std.specs.FinMap as finite
use Rattle.std.specs.FinMap.{is_sorted}
use Rattle.std.specs.FinMap.Entries.{below_all}
use Rattle.std.specs.List.{AllByRecursion, cons_option, filter_map}
use Rattle.std.specs.Map.{keys_of}
use Rattle.std.specs.Option.{option_map_or}
use Rattle.std.specs.Ordering.{is_eq, is_lt}
use Rattle.std.specs.declared.cmp.Ordering.{Ordering}
use Rattle.std.specs.declared.cmp.Ordering.TheVariants.{Less, Equal, Greater}
use Rattle.gaz_records.proofs.KeyOrder.{keys_total}
use Rattle.gaz_records.specs.Keys.{key_cmp}
use Rattle.gaz_records.specs.declared.item.Item.{Item}
use Rattle.gaz_records.specs.declared.key.Key.{Key}
use Rattle.gaz_views.specs.View.{View}
use Rattle.gaz_overlay.specs.Changes.{Changes, stood_in}
use Rattle.gaz_overlay.specs.Over.{IsStood, Make, key_view}
use Rattle.gaz_overlay.specs.Passages.{PassageRow}
use Rattle.gaz_overlay.specs.Rows.{AllApart, AreApart, HasCurrent, HistoryRow, IsBefore, IsCurrent, IsUntil, WritingsKeep, added, closed, holds_after, is_of_birth, never, new_row, view_after, view_of_rows, written}
use Rattle.gaz_overlay.specs.Writings.{born_in, writing_at, writing_of}
use Rattle.gaz_overlay.specs.declared.touch.NewRow.{NewRow}
use Rattle.gaz_overlay.specs.declared.touch.Stood.{Stood}
use Rattle.gaz_overlay.specs.declared.touch.Stood.TheVariants.{NoRow, Past, Since}
use Rattle.gaz_overlay.specs.declared.touch.Touch.{Touch}
use Rattle.gaz_overlay.proofs.Laid.{tie}
use Rattle.gaz_overlay.proofs.StandingRows.{Given, IsNoted, Rows, item_after, le_so, lt_so, stands}
use Rattle.gaz_overlay.proofs.NextRows.{closes_since}
use Rattle.gaz_overlay.proofs.Rows.{next_view, past_view}

-- ---- lists

all_both : {A : Type 0} (P : A → Type 0) (a b : List A) → AllByRecursion P a → AllByRecursion P b → AllByRecursion P (a ++ b)
all_both P [] b ha hb = hb
all_both P (x ∷ a) b ha hb = (ha.0, all_both P a b ha.1 hb)

-- ---- the current row that was told is the one that is there

-- beside the current row of a key no other is current or was born with it
other_row : (n : ℕ) (k : Key) (volume : ℕ) (x y : HistoryRow) → n < never → IsUntil n x → IsUntil n y → IsCurrent k volume x → AreApart x y → y.key ≡ k → (y.gone ≡ never) ↔ (y.born ≡ volume)
other_row n k volume x y room ux uy it apart same = by_order (apart (it.of_key ∙ sym same))
  where
    by_order : IsBefore x y ⊎ IsBefore y x → (y.gone ≡ never) ↔ (y.born ≡ volume)
    by_order (inl h) = let a = h.gone in let b = uy.born in let e = it.is_current in absurd (omega arith)
    by_order (inr h) =
        let a = h.gone in
        let b = h.born in
        let d = ux.born in
        let e = it.of_birth in
        (λ current. absurd (omega arith), λ born. absurd (omega arith))

turned : (a b : HistoryRow) → AreApart a b → AreApart b a
turned a b apart same = by_order (apart (sym same))
  where
    by_order : IsBefore a b ⊎ IsBefore b a → IsBefore b a ⊎ IsBefore a b
    by_order (inl h) = inr h
    by_order (inr h) = inl h

abbrev IsOne : Key → ℕ → HistoryRow → Type 0
IsOne k volume r = r.key ≡ k → (r.gone ≡ never) ↔ (r.born ≡ volume)

module _ (n : ℕ) (k : Key) (volume : ℕ) (room : n < never) where
  behind_it : (x : HistoryRow) → IsUntil n x → IsCurrent k volume x → (rows : Rows) → AllByRecursion (IsUntil n) rows → AllByRecursion (AreApart x) rows → AllByRecursion (IsOne k volume) rows
  behind_it x ux it [] until apart = tt
  behind_it x ux it (y ∷ rows) until apart = (other_row n k volume x y room ux until.0 it apart.0, behind_it x ux it rows until.1 apart.1)

  before_it : (x : HistoryRow) → IsUntil n x → (rows : Rows) → AllByRecursion (IsUntil n) rows → AllByRecursion (AreApart x) rows → HasCurrent rows k volume → IsOne k volume x
  before_it x ux [] until apart h = absurd h
  before_it x ux (y ∷ rows) until apart (inl it) = other_row n k volume y x room until.0 ux it (turned x y apart.0)
  before_it x ux (y ∷ rows) until apart (inr h) = before_it x ux rows until.1 apart.1 h

  only_one : (rows : Rows) → AllByRecursion (IsUntil n) rows → AllApart rows → HasCurrent rows k volume → AllByRecursion (IsOne k volume) rows
  only_one [] until apart h = tt
  only_one (x ∷ rows) until apart (inl it) = (λ same. (λ current. it.of_birth, λ born. it.is_current), behind_it x until.0 it rows until.1 apart.0)
  only_one (x ∷ rows) until apart (inr h) = (before_it x until.0 rows until.1 apart.0 h, only_one rows until.1 apart.1 h)

-- for each row, what holds of the rows of its key
each_noted : (c : Changes) (rows : Rows) → ((k : Key) (volume : ℕ) → stood_in c.touched k ≡ Since volume → AllByRecursion (IsOne k volume) rows) → AllByRecursion (IsNoted c) rows
each_noted c [] h = tt
each_noted c (r ∷ rows) h = (record { noted = λ volume since. (h r.key volume since).0 refl }, each_noted c rows (λ k volume since. (h k volume since).1))

-- ---- the rows that were there

kept_key : (m : ℕ) (c : Changes) (r : HistoryRow) → (closed m c r).key ≡ r.key
kept_key m c r = elim (is_of_birth (writing_at c r.key).closes r) as (λ b. (cond b (record r { gone = m }) r).key ≡ r.key) [ true ↦ refl | false ↦ refl ]

kept_birth : (m : ℕ) (c : Changes) (r : HistoryRow) → (closed m c r).born ≡ r.born
kept_birth m c r = elim (is_of_birth (writing_at c r.key).closes r) as (λ b. (cond b (record r { gone = m }) r).born ≡ r.born) [ true ↦ refl | false ↦ refl ]

-- what is closed is current
was_current : (c : Changes) (r : HistoryRow) → IsNoted c r → (o : Option ℕ) → (writing_at c r.key).closes ≡ o → is_of_birth o r ≡ true → r.gone ≡ never
was_current c r noted None is so = absurd (true≢false (sym so))
was_current c r noted (Some born) is so =
    let same : r.born ≡ born = grind (arith, nat_tests) in
    (noted.noted born (closes_since c r.key born is)).1 same

-- a row that was gone by some volume isn't closed
gone_still : (n t : ℕ) (c : Changes) (r : HistoryRow) → n + 1 < never → t ≤ n → IsNoted c r → r.gone ≤ t → (closed (n + 1) c r).gone ≤ t
gone_still n t c r room le noted gone = by_birth (is_of_birth (writing_at c r.key).closes r) refl
  where
    by_birth : (b : Bool) → is_of_birth (writing_at c r.key).closes r ≡ b → (cond b (record r { gone = n + 1 }) r).gone ≤ t
    by_birth true is = let current = was_current c r noted (writing_at c r.key).closes refl is in absurd (omega arith)
    by_birth false is = gone

still_before : (n : ℕ) (c : Changes) (x y : HistoryRow) → n + 1 < never → IsNoted c x → IsUntil n y → IsBefore x y → IsBefore (closed (n + 1) c x) (closed (n + 1) c y)
still_before n c x y room noted until h =
    let bx = kept_birth (n + 1) c x in
    let by = kept_birth (n + 1) c y in
    let less = h.born in
    let gone = gone_still n y.born c x room until.born noted h.gone in
    record { born = omega arith; gone = omega arith }

still_apart : (n : ℕ) (c : Changes) (x y : HistoryRow) → n + 1 < never → IsNoted c x → IsUntil n x → IsNoted c y → IsUntil n y → AreApart x y → AreApart (closed (n + 1) c x) (closed (n + 1) c y)
still_apart n c x y room nx ux ny uy apart same = by_order (apart (sym (kept_key (n + 1) c x) ∙ same ∙ kept_key (n + 1) c y))
  where
    by_order : IsBefore x y ⊎ IsBefore y x → IsBefore (closed (n + 1) c x) (closed (n + 1) c y) ⊎ IsBefore (closed (n + 1) c y) (closed (n + 1) c x)
    by_order (inl h) = inl (still_before n c x y room nx uy h)
    by_order (inr h) = inr (still_before n c y x room ny ux h)

module _ (n : ℕ) (c : Changes) (room : n + 1 < never) where
  one_apart : (x : HistoryRow) → IsNoted c x → IsUntil n x → (rows : Rows) → AllByRecursion (IsNoted c) rows → AllByRecursion (IsUntil n) rows → AllByRecursion (AreApart x) rows
      → AllByRecursion (AreApart (closed (n + 1) c x)) (map (closed (n + 1) c) rows)
  one_apart x nx ux [] noted until apart = tt
  one_apart x nx ux (y ∷ rows) noted until apart = (still_apart n c x y room nx ux noted.0 until.0 apart.0, one_apart x nx ux rows noted.1 until.1 apart.1)

  closed_apart : (rows : Rows) → AllByRecursion (IsNoted c) rows → AllByRecursion (IsUntil n) rows → AllApart rows → AllApart (map (closed (n + 1) c) rows)
  closed_apart [] noted until apart = tt
  closed_apart (x ∷ rows) noted until apart = (one_apart x noted.0 until.0 rows noted.1 until.1 apart.0, closed_apart rows noted.1 until.1 apart.1)

  closed_until : (rows : Rows) → AllByRecursion (IsUntil n) rows → AllByRecursion (IsUntil (n + 1)) (map (closed (n + 1) c) rows)
  closed_until [] h = tt
  closed_until (r ∷ rows) h = (by_birth (is_of_birth (writing_at c r.key).closes r), closed_until rows h.1)
    where
      born : r.born ≤ n + 1
      born = let le = h.0.born in omega arith

      gone : (r.gone ≤ n) ⊎ (r.gone ≡ never) → (r.gone ≤ n + 1) ⊎ (r.gone ≡ never)
      gone (inl le) = inl (omega arith)
      gone (inr current) = inr current

      by_birth : (b : Bool) → IsUntil (n + 1) (cond b (record r { gone = n + 1 }) r)
      by_birth true = record { born = born; gone = inl (omega arith) }
      by_birth false = record { born = born; gone = gone h.0.gone }

-- ---- the rows that come

both_hold : (a b : Bool) → T (a && b) → T a × T b
both_hold true b h = (tt, h)
both_hold false b h = absurd h

is_less : (o : Ordering) → T (is_lt o) → o ≡ Less
is_less Less h = refl
is_less Equal h = absurd h
is_less Greater h = absurd h

-- keys that tie with no key above
later : (k q : Key) → key_cmp k q ≡ Less → k ≡ q → ⊥
later k q less same =
    let tied : is_eq (key_cmp k k) ≡ true = ap is_eq (tied_itself keys_total k) in
    let not_tied : is_eq (key_cmp k k) ≡ false = ap (λ (x : Key). is_eq (key_cmp k x)) same ∙ ap is_eq less in
    true≢false (sym tied ∙ not_tied)

module _ (m : ℕ) (c : Changes) where
  later_apart : (k : Key) (r : NewRow) (es : List (Key × Touch)) → T (below_all key_cmp k es) → AllByRecursion (AreApart (new_row m k r)) (filter_map (added m c) (keys_of es))
  later_apart k r [] h = tt
  later_apart k r (e ∷ es) h = by_row (later_apart k r es two.1) (writing_at c e.0).adds
    where
      two : T (is_lt (key_cmp k e.0)) × T (below_all key_cmp k es)
      two = both_hold (is_lt (key_cmp k e.0)) (below_all key_cmp k es) h

      by_row : AllByRecursion (AreApart (new_row m k r)) (filter_map (added m c) (keys_of es)) → (o : Option NewRow)
          → AllByRecursion (AreApart (new_row m k r)) (cons_option (option_map (new_row m e.0) o) (filter_map (added m c) (keys_of es)))
      by_row rest None = rest
      by_row rest (Some s) = (λ same. absurd (later k e.0 (is_less (key_cmp k e.0) two.0) same), rest)

  added_apart : (es : List (Key × Touch)) → T (is_sorted key_cmp es) → AllApart (filter_map (added m c) (keys_of es))
  added_apart [] h = tt
  added_apart (e ∷ es) h = by_row (added_apart es two.1) (writing_at c e.0).adds
    where
      two : T (below_all key_cmp e.0 es) × T (is_sorted key_cmp es)
      two = both_hold (below_all key_cmp e.0 es) (is_sorted key_cmp es) h

      by_row : AllApart (filter_map (added m c) (keys_of es)) → (o : Option NewRow) → AllApart (cons_option (option_map (new_row m e.0) o) (filter_map (added m c) (keys_of es)))
      by_row rest None = rest
      by_row rest (Some s) = (later_apart e.0 s es two.0, rest)

  added_until : (keys : List Key) → AllByRecursion (IsUntil m) (filter_map (added m c) keys)
  added_until [] = tt
  added_until (k ∷ keys) = by_row (added_until keys) (writing_at c k).adds
    where
      gone : (b : Bool) → (cond b never m ≤ m) ⊎ (cond b never m ≡ never)
      gone true = inr refl
      gone false = inl (omega arith)

      by_row : AllByRecursion (IsUntil m) (filter_map (added m c) keys) → (o : Option NewRow) → AllByRecursion (IsUntil m) (cons_option (option_map (new_row m k) o) (filter_map (added m c) keys))
      by_row behind None = behind
      by_row behind (Some r) = (record { born = omega arith; gone = gone r.current }, behind)

-- ---- those that were there, and those that come

-- a current row is one that stands
abbrev Stands : ℕ → Rows → HistoryRow → Type 0
Stands n rows r = r.gone ≡ never → is_some (stands n r.key rows) ≡ true

one_more : (n : ℕ) (y : HistoryRow) (rows rest : Rows) → AllByRecursion (Stands n rows) rest → AllByRecursion (Stands n (y ∷ rows)) rest
one_more n y rows [] h = tt
one_more n y rows (r ∷ rest) h = (λ current. elim (holds_after n y && tie r.key y.key) as (λ b. is_some (cond b (Some y.item) (stands n r.key rows)) ≡ true) [ true ↦ refl | false ↦ h.0 current ], one_more n y rows rest h.1)

all_stand : (n : ℕ) (rows : Rows) → n < never → AllByRecursion (IsUntil n) rows → AllByRecursion (Stands n rows) rows
all_stand n [] room until = tt
all_stand n (r ∷ rows) room until = (here, one_more n r rows rows (all_stand n rows room until.1))
  where
    here : r.gone ≡ never → is_some (cond (holds_after n r && tie r.key r.key) (Some r.item) (stands n r.key rows)) ≡ true
    here current =
        let born = le_so r.born n until.0.born in
        let gone = lt_so n r.gone (omega arith) in
        ap (λ o. is_some (cond o (Some r.item) (stands n r.key rows))) (λ i. (born i && gone i) && ap is_eq (tied_itself keys_total r.key) i)

module _ (rows : Rows) (was : List PassageRow) (n : ℕ) (c : Changes) (w : View) (room : n + 1 < never) (made : Make (view_of_rows rows was n) c w) where
  -- where something was put over a current row that row is closed
  closes_it : (r : HistoryRow) → IsNoted c r → Stands n rows r → r.gone ≡ never → is_some (writing_at c r.key).adds ≡ true → is_of_birth (writing_at c r.key).closes r ≡ true
  closes_it r noted stood current puts = by_touch (finite.get c.touched r.key) refl puts
    where
      there : is_some (finite.get (view_after rows n).items r.key) ≡ true
      there = ap is_some (item_after rows n r.key) ∙ stood current

      born_so : (b : ℕ) → stood_in c.touched r.key ≡ Since b → (b == r.born) ≡ true
      born_so b since = let same = (noted.noted b since).0 current in grind (arith, nat_tests)

      by_stood : (stood : Stood) → IsStood stood (key_view (view_of_rows rows was n) r.key) → stood_in c.touched r.key ≡ stood → is_of_birth (born_in stood) r ≡ true
      by_stood NoRow so is = absurd (true≢false (sym there ∙ ap is_some so))
      by_stood Past so is = absurd (true≢false (sym there ∙ ap is_some so.0))
      by_stood (Since b) so is = born_so b is

      by_last : (t : Touch) → finite.get c.touched r.key ≡ Some t → (s : Bool) (o : Option Item) → is_some (option_map (λ i. let x : NewRow = record { item = i; current = s } in x) o) ≡ true → is_of_birth (cond (is_some o || not s) (born_in t.stood) None) r ≡ true
      by_last t is s None h = absurd (true≢false (sym h))
      by_last t is s (Some i) h = by_stood t.stood (made.over.each r.key t is).stood (ap (λ o. option_map_or (λ x. x.stood) o NoRow) is)

      by_touch : (o : Option Touch) → finite.get c.touched r.key ≡ o
          → is_some (option_map_or (λ t. writing_of t (is_some (finite.get c.view.items r.key))) o (record { closes = None; adds = None })).adds ≡ true
          → is_of_birth (option_map_or (λ t. writing_of t (is_some (finite.get c.view.items r.key))) o (record { closes = None; adds = None })).closes r ≡ true
      by_touch None is h = absurd (true≢false (sym h))
      by_touch (Some t) is h = by_last t is (is_some (finite.get c.view.items r.key)) t.last h

  -- so it is before the new one
  new_before : (r : HistoryRow) → IsNoted c r → IsUntil n r → Stands n rows r → (k : Key) (s : NewRow) → (writing_at c k).adds ≡ Some s → r.key ≡ k → IsBefore (closed (n + 1) c r) (new_row (n + 1) k s)
  new_before r noted until stood k s puts same = record { born = born; gone = by_gone until.gone }
    where
      born : (closed (n + 1) c r).born < n + 1
      born = let b = kept_birth (n + 1) c r in let le = until.born in omega arith

      adds : is_some (writing_at c r.key).adds ≡ true
      adds = ap is_some (ap (λ (q : Key). (writing_at c q).adds) same ∙ puts)

      by_gone : (r.gone ≤ n) ⊎ (r.gone ≡ never) → (closed (n + 1) c r).gone ≤ n + 1
      by_gone (inl gone) = let le = gone_still n n c r room (omega arith) noted gone in omega arith
      by_gone (inr current) =
          let gone : (closed (n + 1) c r).gone ≡ n + 1 = ap (λ b. (cond b (record r { gone = n + 1 }) r).gone) (closes_it r noted stood current adds) in
          omega arith

  new_apart : (r : HistoryRow) → IsNoted c r → IsUntil n r → Stands n rows r → (keys : List Key) → AllByRecursion (AreApart (closed (n + 1) c r)) (filter_map (added (n + 1) c) keys)
  new_apart r noted until stood [] = tt
  new_apart r noted until stood (k ∷ keys) = by_row (new_apart r noted until stood keys) (writing_at c k).adds refl
    where
      by_row : AllByRecursion (AreApart (closed (n + 1) c r)) (filter_map (added (n + 1) c) keys) → (o : Option NewRow) → (writing_at c k).adds ≡ o
          → AllByRecursion (AreApart (closed (n + 1) c r)) (cons_option (option_map (new_row (n + 1) k) o) (filter_map (added (n + 1) c) keys))
      by_row rest None is = rest
      by_row rest (Some s) is = (λ same. inl (new_before r noted until stood k s is (sym (kept_key (n + 1) c r) ∙ same)), rest)

  joined : (keys : List Key) → AllApart (filter_map (added (n + 1) c) keys) → (some : Rows) → AllByRecursion (IsNoted c) some → AllByRecursion (IsUntil n) some → AllByRecursion (Stands n rows) some
      → AllApart (map (closed (n + 1) c) some) → AllApart (map (closed (n + 1) c) some ++ filter_map (added (n + 1) c) keys)
  joined keys new [] noted until stood apart = new
  joined keys new (r ∷ some) noted until stood apart = (
    all_both (AreApart (closed (n + 1) c r)) (map (closed (n + 1) c) some) (filter_map (added (n + 1) c) keys) apart.0 (new_apart r noted.0 until.0 stood.0 keys),
    joined keys new some noted.1 until.1 stood.1 apart.1,
  )

pub writings_keep : WritingsKeep
unfolding written
writings_keep rows was n c w are room h told made pass =
    let below : n < never = omega arith in
    let noted = each_noted c rows (λ k volume since. only_one n k volume below rows h.until h.apart (told.told k volume since)) in
    let given : Given n c rows = record { room = room; until = h.until; noted = noted } in
    let keys = finite.keys c.touched in
    record {
      next = next_view rows was are n c w given made pass;
      past = past_view rows was are n c w given made pass;
      histories = record {
        until = all_both (IsUntil (n + 1)) (map (closed (n + 1) c) rows) (filter_map (added (n + 1) c) keys) (closed_until n c room rows h.until) (added_until (n + 1) c keys);
        apart = joined rows was n c w room made keys (added_apart (n + 1) c (finite.entries c.touched) (finite.entries_sorted c.touched)) rows noted h.until (all_stand n rows below h.until) (closed_apart n c room rows noted h.until h.apart);
      };
    }
