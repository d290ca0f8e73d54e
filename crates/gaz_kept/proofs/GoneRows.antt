-- Views once a row goes with a volume, and what becomes of views by rows.
use Rattle.std.proofs.Common.{◌≡◌, ◌≢◌, ◌∙◌, ◌≤◌, ◌<◌, ◌==◌, ◌⊎◌, inl, inr, ℕ, Bool, true, false, refl, sym, ap, arith, true≢false}
use Rattle.std.proofs.lemmas.Bool.{cases_lt}
use Rattle.std.proofs.lemmas.Bool.Decides.{nat_tests}
use Rattle.std.specs.FinMap as finite
use Rattle.std.specs.FinSet as set
use Rattle.std.specs.Ordering.{eq_by_cmp}
use Rattle.sqlite_rules.specs.Lists.{Has}
use Rattle.gaz_records.proofs.KeyOrder.{keys_exact, keys_total}
use Rattle.gaz_records.specs.Keys.{key_cmp}
use Rattle.gaz_records.specs.declared.item.Item.{Item}
use Rattle.gaz_records.specs.declared.key.Key.{Key}
use Rattle.gaz_views.proofs.SameKeys.{same_key}
use Rattle.gaz_views.specs.View.{without_key}
use Rattle.gaz_overlay.specs.Rows.{HistoryRow, view_after}
use Rattle.gaz_row_items.proofs.Pairs.{IsWithout, removed}
use Rattle.gaz_kept.specs.Histories.{Close, GoesWith, HistoriesChange, IsLast, RowsClose, gone_with}
use Rattle.gaz_kept.specs.Kept.{AreInTurn}
use Rattle.gaz_kept.proofs.Views.{Holds, IsEntry, IsUse, Rows, entered_as, entries_at, entry, rows_gain, rows_join, same_items, same_rows, same_uses, single_at, ties, used_at}

module _ (h : HistoryRow) (volume : ℕ) (old new : Rows) (apart : AreInTurn old) (last : IsLast h old) (goes : GoesWith h volume) (close : Close h volume old new) where
  abbrev closed : HistoryRow
  closed = gone_with volume h

  closed_born : (r : HistoryRow) → r ≡ closed → r.born ≡ h.born
  closed_born r is = ap (λ (s : HistoryRow). s.born) is

  closed_gone : (r : HistoryRow) → r ≡ closed → r.gone ≡ volume
  closed_gone r is = ap (λ (s : HistoryRow). s.gone) is

  closed_key : (r : HistoryRow) → r ≡ closed → r.key ≡ h.key
  closed_key r is = ap (λ (s : HistoryRow). s.key) is

  abbrev FromOld : HistoryRow → Type 0
  FromOld r = (Has old r × (r ≢ h)) ⊎ (r ≡ closed)

  close_once : (a b : HistoryRow) → FromOld a → FromOld b → a.key ≡ b.key → a.born ≡ b.born → a ≡ b
  close_once a b (inl ha) (inl hb) key born = apart.once a b ha.0 hb.0 key born
  close_once a b (inl ha) (inr hb) key born = absurd (ha.1 (apart.once a h ha.0 last.there (key ∙ closed_key b hb) (born ∙ closed_born b hb)))
  close_once a b (inr ha) (inl hb) key born = absurd (hb.1 (apart.once b h hb.0 last.there (sym key ∙ closed_key a ha) (sym born ∙ closed_born a ha)))
  close_once a b (inr ha) (inr hb) key born = ha ∙ sym hb

  close_turn : (a b : HistoryRow) → FromOld a → FromOld b → a.key ≡ b.key → a.born < b.born → a.gone ≤ b.born
  close_turn a b (inl ha) (inl hb) key less = apart.in_turn a b ha.0 hb.0 key less
  close_turn a b (inl ha) (inr hb) key less =
      let e = closed_born b hb in
      let early : a.born < h.born = omega arith in
      let turn = apart.in_turn a h ha.0 last.there (key ∙ closed_key b hb) early in
      omega arith
  close_turn a b (inr ha) (inl hb) key less = let e = closed_born a ha in let le = last.last b hb.0 (sym key ∙ closed_key a ha) in absurd (omega arith)
  close_turn a b (inr ha) (inr hb) key less = let e = closed_born a ha in let f = closed_born b hb in absurd (omega arith)

  close_apart : AreInTurn new
  close_apart = record {
    once = λ a b ha hb. close_once a b (close.only a ha) (close.only b hb);
    in_turn = λ a b ha hb. close_turn a b (close.only a ha) (close.only b hb);
  }

  -- whether a row is the one that goes
  which : (r : HistoryRow) → Has old r → (r ≡ h) ⊎ (r ≢ h)
  which r there = by_key (eq_by_cmp key_cmp r.key h.key) refl
    where
      by_birth : r.key ≡ h.key → (b : Bool) → (r.born == h.born) ≡ b → (r ≡ h) ⊎ (r ≢ h)
      by_birth key true is = let e : r.born ≡ h.born = grind (arith, nat_tests) in inl (apart.once r h there last.there key e)
      by_birth key false is = inr (λ same. let e = ap (λ (s : HistoryRow). s.born) same in absurd (grind (arith, nat_tests)))

      by_key : (b : Bool) → eq_by_cmp key_cmp r.key h.key ≡ b → (r ≡ h) ⊎ (r ≢ h)
      by_key true is = by_birth (same_key r.key h.key is) (r.born == h.born) refl
      by_key false is = inr (λ same. true≢false (sym (ties r.key h.key (ap (λ (s : HistoryRow). s.key) same)) ∙ is))

  module _ (t : ℕ) where
    -- before the volume
    early_from : t < volume → (q : Key) (x : Item) (e : IsEntry t new q x) → FromOld e.row → IsEntry t old q x
    early_from early q x e (inl was) = record { row = e.row; there = was.0; held = e.held; key = e.key; item = e.item }
    early_from early q x e (inr is) = record {
      row = h;
      there = last.there;
      held = let b = e.held.born in let f = closed_born e.row is in let g = goes.gone in record { born = omega arith; gone = omega arith };
      key = sym (closed_key e.row is) ∙ e.key;
      item = sym (ap (λ (s : HistoryRow). s.item) is) ∙ e.item;
    }

    early_to : t < volume → (q : Key) (x : Item) (e : IsEntry t old q x) → (e.row ≡ h) ⊎ (e.row ≢ h) → IsEntry t new q x
    early_to early q x e (inl is) = record {
      row = closed;
      there = close.there;
      held = let b = e.held.born in let f = ap (λ (s : HistoryRow). s.born) is in record { born = omega arith; gone = early };
      key = sym (ap (λ (s : HistoryRow). s.key) is) ∙ e.key;
      item = sym (ap (λ (s : HistoryRow). s.item) is) ∙ e.item;
    }
    early_to early q x e (inr other) = record { row = e.row; there = close.kept e.row e.there other; held = e.held; key = e.key; item = e.item }

    -- from the volume on
    free_then : volume ≤ t → (r : HistoryRow) → FromOld r → r.key ≡ h.key → ¬ Holds t r
    free_then late r (inr is) key held = let g = closed_gone r is in let u = held.gone in absurd (omega arith)
    free_then late r (inl was) key held = by_birth (cases_lt r.born h.born)
      where
        le : r.born ≤ h.born
        le = last.last r was.0 key

        by_birth : (r.born < h.born) ⊎ (h.born ≤ r.born) → ⊥
        by_birth (inl less) = let turn = apart.in_turn r h was.0 last.there key less in let u = held.gone in let b = goes.born in absurd (omega arith)
        by_birth (inr ge) = let e : r.born ≡ h.born = omega arith in was.1 (apart.once r h was.0 last.there key e)

    late_without : volume ≤ t → IsWithout h.key (entries_at t old) (entries_at t new)
    late_without late = record {
      single = single_at old apart t;
      gone = λ y there. let e = entry t new h.key y there in free_then late e.row (close.only e.row e.there) e.key e.held;
      only = λ q y there. let e = entry t new q y there in by_row q y e (close.only e.row e.there);
      kept = λ q y there other.
          let e = entry t old q y there in
          entered_as t new q y (record { row = e.row; there = close.kept e.row e.there (λ is. other (sym e.key ∙ ap (λ (s : HistoryRow). s.key) is)); held = e.held; key = e.key; item = e.item });
    }
      where
        by_row : (q : Key) (y : Item) (e : IsEntry t new q y) → FromOld e.row → Has (entries_at t old) (q, y)
        by_row q y e (inl was) = entered_as t old q y (record { row = e.row; there = was.0; held = e.held; key = e.key; item = e.item })
        by_row q y e (inr is) = absurd (free_then late e.row (inr is) (closed_key e.row is) e.held)

    use_from : (q : Key) (u : IsUse t new q) → FromOld u.row → IsUse t old q
    use_from q u (inl was) = record { row = u.row; there = was.0; born = u.born; key = u.key }
    use_from q u (inr is) = record { row = h; there = last.there; born = let b = u.born in let f = closed_born u.row is in omega arith; key = sym (closed_key u.row is) ∙ u.key }

    use_to : (q : Key) (u : IsUse t old q) → (u.row ≡ h) ⊎ (u.row ≢ h) → IsUse t new q
    use_to q u (inl is) = record {
      row = closed;
      there = close.there;
      born = let b = u.born in let f = ap (λ (s : HistoryRow). s.born) is in omega arith;
      key = sym (ap (λ (s : HistoryRow). s.key) is) ∙ u.key;
    }
    use_to q u (inr other) = record { row = u.row; there = close.kept u.row u.there other; born = u.born; key = u.key }

    close_uses : set.from_list {R = key_cmp} (used_at t new) ≡ set.from_list (used_at t old)
    close_uses = same_uses old new t (λ q u. use_from q u (close.only u.row u.there)) (λ q u. use_to q u (which u.row u.there))

    close_gone : volume ≤ t → view_after new t ≡ without_key (view_after old t) h.key
    unfolding view_after
    close_gone late = λ i. record { items = removed keys_total keys_exact h.key (entries_at t old) (entries_at t new) (late_without late) i; used = close_uses i; custody = finite.empty }

    close_before : t < volume → view_after new t ≡ view_after old t
    unfolding view_after
    close_before early = λ i. record {
      items = same_items old new t apart (λ q x e. early_from early q x e (close.only e.row e.there)) (λ q x e. early_to early q x e (which e.row e.there)) i;
      used = close_uses i;
      custody = finite.empty;
    }

pub rows_close : RowsClose
rows_close h volume old new apart last goes close = record {
  apart = close_apart h volume old new apart last goes close;
  gone = close_gone h volume old new apart last goes close;
  before = close_before h volume old new apart last goes close;
}

pub histories_change : HistoriesChange
histories_change = record { same = same_rows; gain = rows_gain; join = rows_join; close = rows_close }
