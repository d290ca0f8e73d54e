-- What a life makes of views.
use Rattle.std.proofs.Common.{◌≡◌, ◌∙◌, ◌≤◌, ◌<◌, ◌⊎◌, ◌||◌, inl, inr, ℕ, Bool, true, false, cond, nat_le, nat_lt, List, refl, sym, ap, arith}
use Rattle.std.proofs.lemmas.Bool.{cases_lt}
use Rattle.std.proofs.lemmas.Bool.Decides.{nat_tests}
use Rattle.std.specs.Prelude.{Option, Some, None}
use Rattle.std.specs.FinMap as finite
use Rattle.std.specs.FinSet as set
use Rattle.std.specs.Option.{IfSome}
use Rattle.gaz_records.proofs.KeyOrder.{keys_exact, keys_total}
use Rattle.gaz_records.specs.Keys.{key_cmp, key_of}
use Rattle.gaz_records.specs.declared.item.Item.{Item}
use Rattle.gaz_records.specs.declared.key.Key.{Key}
use Rattle.std.specs.Ordering.{eq_by_cmp}
use Rattle.gaz_views.proofs.SameKeys.{same_key}
use Rattle.gaz_views.specs.View.{View, with_item, without_key}
use Rattle.gaz_overlay.specs.Passages.{PassageRow, passed_keys, with_passages}
use Rattle.gaz_overlay.specs.Rows.{HistoryRow, never, view_after}
use Rattle.gaz_kept.specs.Histories.{Gained, with_use}
use Rattle.gaz_ledger.specs.Lives.{is_gone_by, with_life}
use Rattle.gaz_loaded.specs.Lives.{gone_of}

lt_so : (a b : ℕ) → a < b → nat_lt a b ≡ true
lt_so a b h = grind (arith, nat_tests)

lt_no : (a b : ℕ) → b ≤ a → nat_lt a b ≡ false
lt_no a b h = grind (arith, nat_tests)

le_so : (a b : ℕ) → a ≤ b → nat_le a b ≡ true
le_so a b h = grind (arith, nat_tests)

le_no : (a b : ℕ) → b < a → nat_le a b ≡ false
le_no a b h = grind (arith, nat_tests)

-- ---- by when it is gone

life_before : (born : ℕ) (gone : Option ℕ) (i : Item) (t : ℕ) (v : View) → t < born → with_life born gone i t v ≡ v
life_before born gone i t v early = ap (λ b. cond b v (cond (is_gone_by gone t) (without_key (with_item v i) (key_of i)) (with_item v i))) (lt_so t born early)

life_holding : (born : ℕ) (gone : Option ℕ) (i : Item) (t : ℕ) (v : View) → born ≤ t → is_gone_by gone t ≡ false → with_life born gone i t v ≡ with_item v i
life_holding born gone i t v late holds =
    ap (λ b. cond b v (cond (is_gone_by gone t) (without_key (with_item v i) (key_of i)) (with_item v i))) (lt_no t born late)
    ∙ ap (λ b. cond b (without_key (with_item v i) (key_of i)) (with_item v i)) holds

life_passed : (born : ℕ) (gone : Option ℕ) (i : Item) (t : ℕ) (v : View) → born ≤ t → is_gone_by gone t ≡ true → with_life born gone i t v ≡ without_key (with_item v i) (key_of i)
life_passed born gone i t v late gone_then =
    ap (λ b. cond b v (cond (is_gone_by gone t) (without_key (with_item v i) (key_of i)) (with_item v i))) (lt_no t born late)
    ∙ ap (λ b. cond b (without_key (with_item v i) (key_of i)) (with_item v i)) gone_then

-- ---- what comes and goes leaves the key used

-- nothing stood there
removed_again : (v : View) (i : Item) → finite.get v.items (key_of i) ≡ None → finite.remove (finite.insert v.items (key_of i) i) (key_of i) ≡ v.items
removed_again v i none = finite.same_map keys_total keys_exact _ _ (λ q. at q (eq_by_cmp key_cmp q (key_of i)) refl)
  where
    k : Key
    k = key_of i

    at : (q : Key) (b : Bool) → eq_by_cmp key_cmp q k ≡ b → finite.get (finite.remove (finite.insert v.items k i) k) q ≡ finite.get v.items q
    at q true is =
        finite.get-remove keys_total (finite.insert v.items k i) k q
        ∙ ap (λ b. cond b None (finite.get (finite.insert v.items k i) q)) is
        ∙ sym (ap (finite.get v.items) (same_key q k is) ∙ none)
    at q false is =
        finite.get-remove keys_total (finite.insert v.items k i) k q
        ∙ ap (λ b. cond b None (finite.get (finite.insert v.items k i) q)) is
        ∙ finite.get-insert keys_total v.items k i q
        ∙ ap (λ b. cond b (Some i) (finite.get v.items q)) is

pub came_and_went : (v : View) (i : Item) → finite.get v.items (key_of i) ≡ None → without_key (with_item v i) (key_of i) ≡ with_use v (key_of i)
came_and_went v i none = λ j. record { items = removed_again v i none j; used = set.insert v.used (key_of i); custody = v.custody }

-- ---- a life beside what became of numbers

used_beside : (u p : set.FinSet key_cmp) (k : Key) → set.insert (set.union u p) k ≡ set.union (set.insert u k) p
used_beside u p k = set.same_set keys_total keys_exact _ _ (λ q.
    set.contains-insert keys_total (set.union u p) k q
    ∙ ap (λ b. eq_by_cmp key_cmp q k || b) (set.contains-union keys_total u p q)
    ∙ or_assoc (eq_by_cmp key_cmp q k) (set.contains u q) (set.contains p q)
    ∙ ap (λ b. b || set.contains p q) (sym (set.contains-insert keys_total u k q))
    ∙ sym (set.contains-union keys_total (set.insert u k) p q))
  where
    or_assoc : (a b c : Bool) → (a || (b || c)) ≡ ((a || b) || c)
    or_assoc true b c = refl
    or_assoc false b c = refl

pub life_beside : (born : ℕ) (gone : Option ℕ) (i : Item) (t : ℕ) (v : View) (passages : List PassageRow) → with_life born gone i t (with_passages v passages t) ≡ with_passages (with_life born gone i t v) passages t
life_beside born gone i t v passages = by_tests (nat_lt t born) (is_gone_by gone t)
  where
    by_tests : (a b : Bool) → cond a (with_passages v passages t) (cond b (without_key (with_item (with_passages v passages t) i) (key_of i)) (with_item (with_passages v passages t) i)) ≡ with_passages (cond a v (cond b (without_key (with_item v i) (key_of i)) (with_item v i))) passages t
    by_tests true b = refl
    by_tests false true = λ j. record (with_passages (without_key (with_item v i) (key_of i)) passages t) { used = used_beside v.used (passed_keys passages t) (key_of i) j }
    by_tests false false = λ j. record (with_passages (with_item v i) passages t) { used = used_beside v.used (passed_keys passages t) (key_of i) j }

-- ---- a row more is its life

module _ (h : HistoryRow) (old new : List HistoryRow) (gone : Option ℕ) (own : h.key ≡ key_of h.item) (is : h.gone ≡ gone_of gone) (t : ℕ) (short : t < never)
    (within : IfSome gone (λ g. g < never)) (free : h.born ≤ t → finite.get (view_after old t).items (key_of h.item) ≡ None) (gained : Gained h old new) where
  by_gone : h.born ≤ t → (o : Option ℕ) → gone ≡ o → view_after new t ≡ with_life h.born o h.item t (view_after old t)
  by_gone late None e =
      let ends : h.gone ≡ never = is ∙ ap gone_of e in
      gained.holding t late (omega arith) ∙ sym (life_holding h.born None h.item t (view_after old t) late refl)
  by_gone late (Some g) e = by_end (cases_lt t g)
    where
      ends : h.gone ≡ g
      ends = is ∙ ap gone_of e

      by_end : (t < g) ⊎ (g ≤ t) → view_after new t ≡ with_life h.born (Some g) h.item t (view_after old t)
      by_end (inl less) = gained.holding t late (omega (arith, ends)) ∙ sym (life_holding h.born (Some g) h.item t (view_after old t) late (le_no g t less))
      by_end (inr ge) =
          gained.passed t late (omega (arith, ends))
          ∙ ap (with_use (view_after old t)) own
          ∙ sym (came_and_went (view_after old t) h.item (free late))
          ∙ sym (life_passed h.born (Some g) h.item t (view_after old t) late (le_so g t ge))

  pub gained_life : view_after new t ≡ with_life h.born gone h.item t (view_after old t)
  gained_life = by_birth (cases_lt t h.born)
    where
      by_birth : (t < h.born) ⊎ (h.born ≤ t) → view_after new t ≡ with_life h.born gone h.item t (view_after old t)
      by_birth (inl early) = gained.before t early ∙ sym (life_before h.born gone h.item t (view_after old t) early)
      by_birth (inr late) = by_gone late gone refl
