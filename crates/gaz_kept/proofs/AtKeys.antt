-- What a view has at a key, by the row there that was born last.
use Rattle.std.proofs.Common.{◌≡◌, ◌∙◌, ◌≤◌, ◌<◌, ◌==◌, ◌⊎◌, inl, inr, ℕ, Bool, true, false, cond, nat_lt, List, [], ◌∷◌, refl, sym, ap, subst, arith, eqb-true}
use Rattle.std.proofs.lemmas.Bool.{cases_lt}
use Rattle.std.proofs.lemmas.Bool.Decides.{nat_tests}
use Rattle.std.specs.Prelude.{Option, Some, None, is_some}
use Rattle.std.specs.FinMap as finite
use Rattle.sqlite_rules.specs.Lists.{Has}
use Rattle.gaz_records.proofs.KeyOrder.{keys_exact, keys_total}
use Rattle.gaz_records.specs.Keys.{key_cmp}
use Rattle.gaz_records.specs.declared.item.Item.{Item}
use Rattle.gaz_records.specs.declared.key.Key.{Key}
use Rattle.gaz_views.specs.View.{was_used}
use Rattle.gaz_overlay.specs.Over.{IsStood, key_view}
use Rattle.gaz_overlay.specs.Rows.{HasCurrent, HistoryRow, IsCurrent, never, view_after}
use Rattle.gaz_overlay.specs.declared.touch.Stood.TheVariants.{NoRow, Past, Since}
use Rattle.gaz_row_items.specs.Newest.{IsNewest, IsNewestUntil, TellsStood, current_in, item_after, row_of, stood_by}
use Rattle.gaz_row_items.specs.declared.newest.Life.{Life}
use Rattle.gaz_row_items.proofs.Pairs.{at_one, found, in_set, missing, not_in_set}
use Rattle.gaz_kept.specs.Kept.{AreInTurn, AreThrough}
use Rattle.gaz_kept.proofs.Views.{Holds, IsEntry, entered_as, entries_at, entry, lt_is, single_at, use_of, used_as, used_at}

pub has_current : (rows : List HistoryRow) (k : Key) (volume : ℕ) (h : HistoryRow) → Has rows h → IsCurrent k volume h → HasCurrent rows k volume
has_current [] k volume h there is = absurd there
has_current (r ∷ rows) k volume h (inl same) is = inl (subst (IsCurrent k volume) same is)
has_current (r ∷ rows) k volume h (inr there) is = inr (has_current rows k volume h there is)

module _ (rows : List HistoryRow) (apart : AreInTurn rows) (t : ℕ) (k : Key) where
  get_is : finite.get (view_after rows t).items k ≡ finite.find key_cmp k (entries_at t rows)
  unfolding view_after
  get_is = finite.get-from_entries keys_total (entries_at t rows) k

  -- the item of a row that holds
  pub held_item : (h : HistoryRow) → Has rows h → Holds t h → h.key ≡ k → finite.get (view_after rows t).items k ≡ Some h.item
  held_item h there held own = get_is ∙ at_one keys_total keys_exact k (entries_at t rows) h.item (single_at rows apart t) (entered_as t rows k h.item (record { row = h; there = there; held = held; key = own; item = refl }))

  -- an item is that of a row that holds
  pub item_held : (x : Item) → finite.get (view_after rows t).items k ≡ Some x → IsEntry t rows k x
  item_held x is = entry t rows k x (found keys_total keys_exact k (entries_at t rows) x (sym get_is ∙ is))

  pub item_at : (life : Option Life) → IsNewestUntil t rows k life → finite.get (view_after rows t).items k ≡ item_after t life
  item_at None none = get_is ∙ missing keys_total keys_exact k (entries_at t rows) (λ x there. let e = entry t rows k x there in none e.row e.there e.key e.held.born)
  item_at (Some life) newest = get_is ∙ by_gone (nat_lt t life.gone) refl
    where
      gone_then : nat_lt t life.gone ≡ false → (x : Item) → ¬ Has (entries_at t rows) (k, x)
      gone_then is x there = by_birth (cases_lt e.row.born life.born)
        where
          e : IsEntry t rows k x
          e = entry t rows k x there

          by_birth : (e.row.born < life.born) ⊎ (life.born ≤ e.row.born) → ⊥
          by_birth (inl less) =
              let turn = apart.in_turn e.row (row_of k life) e.there newest.there e.key less in
              let born = newest.passes in
              let gone = e.held.gone in
              omega arith
          by_birth (inr ge) =
              let le = newest.last e.row e.there e.key e.held.born in
              let one : e.row.born ≡ life.born = omega arith in
              let same = apart.once e.row (row_of k life) e.there newest.there e.key one in
              let gone : e.row.gone ≡ life.gone = ap (λ (r : HistoryRow). r.gone) same in
              let held = e.held.gone in
              absurd (grind (arith, nat_tests))

      by_gone : (b : Bool) → nat_lt t life.gone ≡ b → finite.find key_cmp k (entries_at t rows) ≡ cond (nat_lt t life.gone) (Some life.item) None
      by_gone true is =
          at_one keys_total keys_exact k (entries_at t rows) life.item (single_at rows apart t)
          (entered_as t rows k life.item (record { row = row_of k life; there = newest.there; held = record { born = newest.passes; gone = lt_is t life.gone is }; key = refl; item = refl }))
          ∙ sym (ap (λ b. cond b (Some life.item) None) is)
      by_gone false is = missing keys_total keys_exact k (entries_at t rows) (gone_then is) ∙ sym (ap (λ b. cond b (Some life.item) None) is)

  pub used_at_key : (life : Option Life) → IsNewestUntil t rows k life → was_used (view_after rows t) k ≡ is_some life
  unfolding view_after
  used_at_key None none = not_in_set keys_total keys_exact k (used_at t rows) (λ there. let u = use_of t rows k there in none u.row u.there u.key u.born)
  used_at_key (Some life) newest = in_set keys_total keys_exact k (used_at t rows) (used_as t rows k (record { row = row_of k life; there = newest.there; born = newest.passes; key = refl }))

-- ---- the last view

module _ (rows : List HistoryRow) (n : ℕ) (room : n < never) (through : AreThrough n rows) (k : Key) where
  -- each row was born by then
  pub newest_by_then : (life : Option Life) → IsNewest rows k life → IsNewestUntil n rows k life
  newest_by_then None none = λ r there key early. none r there key tt
  newest_by_then (Some life) newest = record {
    there = newest.there;
    of_key = newest.of_key;
    passes = (through.until (row_of k life) newest.there).born;
    last = λ r there key early. newest.last r there key tt;
  }

  current_then : (life : Option Life) → IsNewest rows k life → item_after n life ≡ current_in life
  current_then None none = refl
  current_then (Some life) newest = ap (λ b. cond b (Some life.item) None) (by_gone (through.until (row_of k life) newest.there).gone)
    where
      by_gone : (life.gone ≤ n) ⊎ (life.gone ≡ never) → nat_lt n life.gone ≡ (life.gone == never)
      by_gone (inl le) = grind (arith, nat_tests)
      by_gone (inr is) = grind (arith, nat_tests)

  pub last_item : (life : Option Life) → IsNewest rows k life → finite.get (view_after rows n).items k ≡ current_in life
  last_item life newest = item_at rows through.apart n k life (newest_by_then life newest) ∙ current_then life newest

  pub last_use : (life : Option Life) → IsNewest rows k life → was_used (view_after rows n) k ≡ is_some life
  last_use life newest = used_at_key rows through.apart n k life (newest_by_then life newest)

  -- what stands there
  pub stood_there : (life : Option Life) → IsNewest rows k life → TellsStood rows (view_after rows n) k (stood_by life) (current_in life)
  stood_there life newest = record {
    is_stood = by_life life newest (last_item life newest) (last_use life newest);
    is_item = sym (last_item life newest);
    current = λ volume is. current_at life newest volume is;
  }
    where
      by_life : (life : Option Life) → IsNewest rows k life → finite.get (view_after rows n).items k ≡ current_in life → was_used (view_after rows n) k ≡ is_some life
          → IsStood (stood_by life) (key_view (view_after rows n) k)
      by_life None none item used = item
      by_life (Some life) newest item used = by_test (life.gone == never) refl
        where
          by_test : (b : Bool) → (life.gone == never) ≡ b → IsStood (cond (life.gone == never) (Since life.born) Past) (key_view (view_after rows n) k)
          by_test true is = subst (λ b. IsStood (cond b (Since life.born) Past) (key_view (view_after rows n) k)) (sym is) (ap is_some (item ∙ ap (λ b. cond b (Some life.item) None) is), used)
          by_test false is = subst (λ b. IsStood (cond b (Since life.born) Past) (key_view (view_after rows n) k)) (sym is) (item ∙ ap (λ b. cond b (Some life.item) None) is, used)

      current_at : (life : Option Life) → IsNewest rows k life → (volume : ℕ) → stood_by life ≡ Since volume → HasCurrent rows k volume
      current_at None none volume is = let clash : NoRow ≡ Since volume = is in absurd (cc)
      current_at (Some life) newest volume is = by_test (life.gone == never) refl is
        where
          by_test : (b : Bool) → (life.gone == never) ≡ b → cond (life.gone == never) (Since life.born) Past ≡ Since volume → HasCurrent rows k volume
          by_test true t e =
              let same : Since life.born ≡ Since volume = sym (ap (λ b. cond b (Since life.born) Past) t) ∙ e in
              let born : life.born ≡ volume = cc in
              has_current rows k volume (row_of k life) newest.there (record { of_key = refl; of_birth = born; is_current = eqb-true life.gone never t })
          by_test false t e = let clash : Past ≡ Since volume = sym (ap (λ b. cond b (Since life.born) Past) t) ∙ e in absurd (cc)
