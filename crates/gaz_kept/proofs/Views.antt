-- Views by what rows there are.
use Rattle.std.proofs.Common.{◌≡◌, ◌∙◌, ◌≤◌, ◌<◌, ◌+◌, ◌⊎◌, ◌&&◌, inl, inr, ℕ, Bool, true, false, cond, nat_le, nat_lt, List, [], ◌∷◌, map, filter, refl, sym, ap, subst, arith}
use Rattle.std.proofs.lemmas.Bool.{and_from, and_parts, cases_lt}
use Rattle.std.proofs.lemmas.Bool.Decides.{nat_tests}
use Rattle.std.specs.Cmp.{tied_itself}
use Rattle.std.specs.FinMap as finite
use Rattle.std.specs.FinSet as set
use Rattle.std.specs.Ordering.{eq_by_cmp, is_eq}
use Rattle.sqlite_rules.specs.Lists.{Has}
use Rattle.sqlite_rules.proofs.ListLemmas.{has_filtered, has_kept}
use Rattle.sqlite_rules.proofs.ProbeLemmas.{has_mapped, mapped_has}
use Rattle.gaz_records.proofs.KeyOrder.{keys_exact, keys_total}
use Rattle.gaz_records.specs.Keys.{key_cmp, key_of}
use Rattle.gaz_records.specs.declared.item.Item.{Item}
use Rattle.gaz_records.specs.declared.key.Key.{Key}
use Rattle.gaz_views.specs.View.{empty_view, with_item}
use Rattle.gaz_overlay.specs.Rows.{HistoryRow, holds_after, is_born_by, never, view_after}
use Rattle.gaz_row_items.proofs.Pairs.{AreSingle, IsWith, alike, alike_set, inserted, inserted_set}
use Rattle.gaz_kept.specs.Histories.{Gain, IsNext, RowsGain, RowsJoin, SameRows, with_use}
use Rattle.gaz_kept.specs.Kept.{AreInTurn, AreThrough}
use Rattle.gaz_kept.specs.Judging.{AreBornLater}

pub ties : (q k : Key) → q ≡ k → eq_by_cmp key_cmp q k ≡ true
ties q k is = subst (λ x. eq_by_cmp key_cmp q x ≡ true) is (ap is_eq (tied_itself keys_total q))

abbrev pub Rows : Type 0
Rows = List HistoryRow

-- ---- when a row holds

pub record Holds (t : ℕ) (r : HistoryRow) : Type 0 where
  pub born : r.born ≤ t
  pub gone : t < r.gone

pub le_is : (a b : ℕ) → nat_le a b ≡ true → a ≤ b
le_is a b h = grind (arith, nat_tests)

pub lt_is : (a b : ℕ) → nat_lt a b ≡ true → a < b
lt_is a b h = grind (arith, nat_tests)

le_no : (a b : ℕ) → b < a → nat_le a b ≡ false
le_no a b h = grind (arith, nat_tests)

le_so : (a b : ℕ) → a ≤ b → nat_le a b ≡ true
le_so a b h = grind (arith, nat_tests)

lt_so : (a b : ℕ) → a < b → nat_lt a b ≡ true
lt_so a b h = grind (arith, nat_tests)

holds : (t : ℕ) (r : HistoryRow) → holds_after t r ≡ true → Holds t r
holds t r h = let both = and_parts (nat_le r.born t) (nat_lt t r.gone) h in record { born = le_is r.born t both.0; gone = lt_is t r.gone both.1 }

passes : (t : ℕ) (r : HistoryRow) → Holds t r → holds_after t r ≡ true
passes t r h = and_from (nat_le r.born t) (nat_lt t r.gone) (le_so r.born t h.born) (lt_so t r.gone h.gone)

-- ---- the entries and the used keys of a view

abbrev pub entries_at : ℕ → Rows → List (Key × Item)
entries_at t rows = map (λ r. (r.key, r.item)) (filter (holds_after t) rows)

abbrev pub used_at : ℕ → Rows → List Key
used_at t rows = map (λ r. r.key) (filter (is_born_by t) rows)

-- an entry comes from a row that holds
pub record IsEntry (t : ℕ) (rows : Rows) (q : Key) (x : Item) : Type 0 where
  pub row : HistoryRow
  pub there : Has rows row
  pub held : Holds t row
  pub key : row.key ≡ q
  pub item : row.item ≡ x

pub entry : (t : ℕ) (rows : Rows) (q : Key) (x : Item) → Has (entries_at t rows) (q, x) → IsEntry t rows q x
entry t rows q x h =
    let r = has_mapped (λ (r : HistoryRow). (r.key, r.item)) (filter (holds_after t) rows) (q, x) h in
    let f = has_filtered (holds_after t) rows r.0 r.1 in
    record { row = r.0; there = f.0; held = holds t r.0 f.1; key = ap (λ p. p.0) (sym r.2); item = ap (λ p. p.1) (sym r.2) }

pub entered : (t : ℕ) (rows : Rows) (r : HistoryRow) → Has rows r → Holds t r → Has (entries_at t rows) (r.key, r.item)
entered t rows r h held = mapped_has (λ (r : HistoryRow). (r.key, r.item)) (filter (holds_after t) rows) r (has_kept (holds_after t) rows r h (passes t r held))

pub entered_as : (t : ℕ) (rows : Rows) (q : Key) (x : Item) → IsEntry t rows q x → Has (entries_at t rows) (q, x)
entered_as t rows q x e = subst (λ p. Has (entries_at t rows) p) (λ i. (e.key i, e.item i)) (entered t rows e.row e.there e.held)

pub record IsUse (t : ℕ) (rows : Rows) (q : Key) : Type 0 where
  pub row : HistoryRow
  pub there : Has rows row
  pub born : row.born ≤ t
  pub key : row.key ≡ q

pub use_of : (t : ℕ) (rows : Rows) (q : Key) → Has (used_at t rows) q → IsUse t rows q
use_of t rows q h =
    let r = has_mapped (λ (r : HistoryRow). r.key) (filter (is_born_by t) rows) q h in
    let f = has_filtered (is_born_by t) rows r.0 r.1 in
    record { row = r.0; there = f.0; born = le_is r.0.born t f.1; key = sym r.2 }

pub used_as : (t : ℕ) (rows : Rows) (q : Key) → IsUse t rows q → Has (used_at t rows) q
used_as t rows q u = subst (λ k. Has (used_at t rows) k) u.key
    (mapped_has (λ (r : HistoryRow). r.key) (filter (is_born_by t) rows) u.row (has_kept (is_born_by t) rows u.row u.there (le_so u.row.born t u.born)))

-- ---- at no key two rows hold

pub one_holds : (rows : Rows) → AreInTurn rows → (t : ℕ) (a b : HistoryRow) → Has rows a → Has rows b → a.key ≡ b.key → Holds t a → Holds t b → a ≡ b
one_holds rows apart t a b ha hb key la lb = by_birth (cases_lt a.born b.born) (cases_lt b.born a.born)
  where
    by_birth : (a.born < b.born) ⊎ (b.born ≤ a.born) → (b.born < a.born) ⊎ (a.born ≤ b.born) → a ≡ b
    by_birth (inl less) other = let g = apart.in_turn a b ha hb key less in let u = la.gone in let w = lb.born in absurd (omega arith)
    by_birth (inr le) (inl less) = let g = apart.in_turn b a hb ha (sym key) less in let u = lb.gone in let w = la.born in absurd (omega arith)
    by_birth (inr le) (inr ge) = let e : a.born ≡ b.born = omega arith in apart.once a b ha hb key e

pub single_at : (rows : Rows) → AreInTurn rows → (t : ℕ) → AreSingle (entries_at t rows)
single_at rows apart t k x y hx hy =
    let a = entry t rows k x hx in
    let b = entry t rows k y hy in
    let same = one_holds rows apart t a.row b.row a.there b.there (a.key ∙ sym b.key) a.held b.held in
    sym a.item ∙ ap (λ (r : HistoryRow). r.item) same ∙ b.item

-- ---- the same rows

pub same_items : (old new : Rows) (t : ℕ) → AreInTurn old → ((q : Key) (x : Item) → IsEntry t new q x → IsEntry t old q x) → ((q : Key) (x : Item) → IsEntry t old q x → IsEntry t new q x)
    → finite.from_entries {R = key_cmp} (entries_at t new) ≡ finite.from_entries (entries_at t old)
same_items old new t apart only kept =
    alike keys_total keys_exact (entries_at t new) (entries_at t old) (single_at old apart t)
    (λ q x h. entered_as t old q x (only q x (entry t new q x h)))
    (λ q x h. entered_as t new q x (kept q x (entry t old q x h)))

same_entries : (old new : Rows) (t : ℕ) → AreInTurn old → ((r : HistoryRow) → Has new r → Holds t r → Has old r) → ((r : HistoryRow) → Has old r → Holds t r → Has new r)
    → finite.from_entries {R = key_cmp} (entries_at t new) ≡ finite.from_entries (entries_at t old)
same_entries old new t apart only kept =
    same_items old new t apart
    (λ q x e. record { row = e.row; there = only e.row e.there e.held; held = e.held; key = e.key; item = e.item })
    (λ q x e. record { row = e.row; there = kept e.row e.there e.held; held = e.held; key = e.key; item = e.item })

pub same_uses : (old new : Rows) (t : ℕ) → ((q : Key) → IsUse t new q → IsUse t old q) → ((q : Key) → IsUse t old q → IsUse t new q)
    → set.from_list {R = key_cmp} (used_at t new) ≡ set.from_list (used_at t old)
same_uses old new t only kept =
    alike_set keys_total keys_exact (used_at t new) (used_at t old)
    (λ q h. used_as t old q (only q (use_of t new q h)))
    (λ q h. used_as t new q (kept q (use_of t old q h)))

pub same_rows : SameRows
unfolding view_after
same_rows old new apart same t = λ i. record {
  items = same_entries old new t apart (λ r h _. same.only r h) (λ r h _. same.kept r h) i;
  used = same_uses old new t
      (λ q u. record { row = u.row; there = same.only u.row u.there; born = u.born; key = u.key })
      (λ q u. record { row = u.row; there = same.kept u.row u.there; born = u.born; key = u.key }) i;
  custody = finite.empty;
}

-- ---- a volume that changes no row

module _ (n : ℕ) (rows : Rows) (room : n + 1 < never) (through : AreThrough n rows) where
  next_holds : (r : HistoryRow) → Has rows r → Holds n r → Holds (n + 1) r
  next_holds r there held = by_gone (through.until r there).gone
    where
      by_gone : (r.gone ≤ n) ⊎ (r.gone ≡ never) → Holds (n + 1) r
      by_gone (inl le) = let u = held.gone in absurd (omega arith)
      by_gone (inr current) = let b = held.born in record { born = omega arith; gone = omega arith }

  held_already : (r : HistoryRow) → Has rows r → Holds (n + 1) r → Holds n r
  held_already r there held = let b = (through.until r there).born in let u = held.gone in record { born = b; gone = omega arith }

  pub stays_next : view_after rows (n + 1) ≡ view_after rows n
  unfolding view_after
  stays_next = λ i. record {
    items = same_items_at i;
    used = same_uses_at i;
    custody = finite.empty;
  }
    where
      same_items_at : finite.from_entries {R = key_cmp} (entries_at (n + 1) rows) ≡ finite.from_entries (entries_at n rows)
      same_items_at = alike keys_total keys_exact (entries_at (n + 1) rows) (entries_at n rows) (single_at rows through.apart n)
          (λ q x h. let e = entry (n + 1) rows q x h in entered_as n rows q x (record { row = e.row; there = e.there; held = held_already e.row e.there e.held; key = e.key; item = e.item }))
          (λ q x h. let e = entry n rows q x h in entered_as (n + 1) rows q x (record { row = e.row; there = e.there; held = next_holds e.row e.there e.held; key = e.key; item = e.item }))

      same_uses_at : set.from_list {R = key_cmp} (used_at (n + 1) rows) ≡ set.from_list (used_at n rows)
      same_uses_at = alike_set keys_total keys_exact (used_at (n + 1) rows) (used_at n rows)
          (λ q h. let u = use_of (n + 1) rows q h in used_as n rows q (record { row = u.row; there = u.there; born = (through.until u.row u.there).born; key = u.key }))
          (λ q h. let u = use_of n rows q h in used_as (n + 1) rows q (record { row = u.row; there = u.there; born = (let b = u.born in omega arith); key = u.key }))

pub none_pass : {A : Type 0} (p : A → Bool) (xs : List A) → ((x : A) → Has xs x → p x ≡ false) → filter p xs ≡ []
none_pass p [] none = refl
none_pass p (x ∷ xs) none = ap (λ b. cond b (x ∷ filter p xs) (filter p xs)) (none x (inl refl)) ∙ none_pass p xs (λ y h. none y (inr h))

-- nothing stands, and nothing was used, before any row was born
pub nothing_born : (rows : Rows) → AreBornLater rows → view_after rows 0 ≡ empty_view
unfolding view_after empty_view
nothing_born rows later = λ i. record {
  items = finite.from_entries (map (λ (r : HistoryRow). (r.key, r.item)) (none_pass (holds_after 0) rows (λ r h. ap (λ b. b && nat_lt 0 r.gone) (not_born r h)) i));
  used = set.from_list (map (λ (r : HistoryRow). r.key) (none_pass (is_born_by 0) rows not_born i));
  custody = finite.empty;
}
  where
    not_born : (r : HistoryRow) → Has rows r → nat_le r.born 0 ≡ false
    not_born r h = le_no r.born 0 (later r h)

-- ---- a row more

-- that is apart from those there
module _ (h : HistoryRow) (old new : Rows) (apart : AreInTurn new) (own : h.key ≡ key_of h.item) (gain : Gain h old new) where
  born_is : (r : HistoryRow) → r ≡ h → r.born ≡ h.born
  born_is r is = ap (λ (s : HistoryRow). s.born) is

  key_is : (r : HistoryRow) → r ≡ h → r.key ≡ h.key
  key_is r is = ap (λ (s : HistoryRow). s.key) is

  was_apart : AreInTurn old
  was_apart = record {
    once = λ a b ha hb. apart.once a b (gain.kept a ha) (gain.kept b hb);
    in_turn = λ a b ha hb. apart.in_turn a b (gain.kept a ha) (gain.kept b hb);
  }

  module _ (t : ℕ) where
    gain_entry : Holds t h → IsWith (key_of h.item) h.item (entries_at t old) (entries_at t new)
    gain_entry held = record {
      single = single_at new apart t;
      there = entered_as t new (key_of h.item) h.item (record { row = h; there = gain.there; held = held; key = own; item = refl });
      only = λ q y there. let e = entry t new q y there in by_row q y e (gain.only e.row e.there);
      kept = λ q y there other. let e = entry t old q y there in entered_as t new q y (record { row = e.row; there = gain.kept e.row e.there; held = e.held; key = e.key; item = e.item });
    }
      where
        by_row : (q : Key) (y : Item) (e : IsEntry t new q y) → (e.row ≡ h) ⊎ Has old e.row → (q ≡ key_of h.item) ⊎ Has (entries_at t old) (q, y)
        by_row q y e (inl is) = inl (sym e.key ∙ key_is e.row is ∙ own)
        by_row q y e (inr there) = inr (entered_as t old q y (record { row = e.row; there = there; held = e.held; key = e.key; item = e.item }))

    gain_use : h.born ≤ t → set.from_list {R = key_cmp} (used_at t new) ≡ set.insert (set.from_list (used_at t old)) h.key
    gain_use born = inserted_set keys_total keys_exact h.key (used_at t old) (used_at t new)
        (used_as t new h.key (record { row = h; there = gain.there; born = born; key = refl }))
        (λ q there. let u = use_of t new q there in by_row q u (gain.only u.row u.there))
        (λ q there. let u = use_of t old q there in used_as t new q (record { row = u.row; there = gain.kept u.row u.there; born = u.born; key = u.key }))
      where
        by_row : (q : Key) (u : IsUse t new q) → (u.row ≡ h) ⊎ Has old u.row → (q ≡ h.key) ⊎ Has (used_at t old) q
        by_row q u (inl is) = inl (sym u.key ∙ key_is u.row is)
        by_row q u (inr there) = inr (used_as t old q (record { row = u.row; there = there; born = u.born; key = u.key }))

    gain_idle : ¬ Holds t h → finite.from_entries {R = key_cmp} (entries_at t new) ≡ finite.from_entries (entries_at t old)
    gain_idle idle = same_entries old new t was_apart (λ r there held. by_row r held (gain.only r there)) (λ r there held. gain.kept r there)
      where
        by_row : (r : HistoryRow) → Holds t r → (r ≡ h) ⊎ Has old r → Has old r
        by_row r held (inl is) = absurd (idle (subst (Holds t) is held))
        by_row r held (inr there) = there

    gain_unused : t < h.born → set.from_list {R = key_cmp} (used_at t new) ≡ set.from_list (used_at t old)
    gain_unused early = same_uses old new t
        (λ q u. by_row q u (gain.only u.row u.there))
        (λ q u. record { row = u.row; there = gain.kept u.row u.there; born = u.born; key = u.key })
      where
        by_row : (q : Key) (u : IsUse t new q) → (u.row ≡ h) ⊎ Has old u.row → IsUse t old q
        by_row q u (inl is) = let e = born_is u.row is in let b = u.born in absurd (omega arith)
        by_row q u (inr there) = record { row = u.row; there = there; born = u.born; key = u.key }

    gain_holding : h.born ≤ t → t < h.gone → view_after new t ≡ with_item (view_after old t) h.item
    unfolding view_after
    gain_holding born gone = λ i. record {
      items = inserted keys_total keys_exact (key_of h.item) h.item (entries_at t old) (entries_at t new) (gain_entry (record { born = born; gone = gone })) i;
      used = (gain_use born ∙ ap (set.insert (set.from_list (used_at t old))) own) i;
      custody = finite.empty;
    }

    gain_passed : h.born ≤ t → h.gone ≤ t → view_after new t ≡ with_use (view_after old t) h.key
    unfolding view_after
    gain_passed born gone = λ i. record { items = gain_idle (λ held. let u = held.gone in absurd (omega arith)) i; used = gain_use born i; custody = finite.empty }

    gain_before : t < h.born → view_after new t ≡ view_after old t
    unfolding view_after
    gain_before early = λ i. record { items = gain_idle (λ held. let b = held.born in absurd (omega arith)) i; used = gain_unused early i; custody = finite.empty }

pub rows_join : RowsJoin
rows_join h old new apart own gain = record {
  apart = apart;
  holding = gain_holding h old new apart own gain;
  passed = gain_passed h old new apart own gain;
  before = gain_before h old new apart own gain;
}

-- that comes after those there
module _ (h : HistoryRow) (old new : Rows) (apart : AreInTurn old) (next : IsNext h old) (gain : Gain h old new) where
  next_born : (r : HistoryRow) → r ≡ h → r.born ≡ h.born
  next_born r is = ap (λ (s : HistoryRow). s.born) is

  next_key : (r : HistoryRow) → r ≡ h → r.key ≡ h.key
  next_key r is = ap (λ (s : HistoryRow). s.key) is

  gain_once : (a b : HistoryRow) → (a ≡ h) ⊎ Has old a → (b ≡ h) ⊎ Has old b → a.key ≡ b.key → a.born ≡ b.born → a ≡ b
  gain_once a b (inl ha) (inl hb) key born = ha ∙ sym hb
  gain_once a b (inl ha) (inr hb) key born = let less = next.later b hb (sym key ∙ next_key a ha) in let e = next_born a ha in absurd (omega arith)
  gain_once a b (inr ha) (inl hb) key born = let less = next.later a ha (key ∙ next_key b hb) in let e = next_born b hb in absurd (omega arith)
  gain_once a b (inr ha) (inr hb) key born = apart.once a b ha hb key born

  gain_turn : (a b : HistoryRow) → (a ≡ h) ⊎ Has old a → (b ≡ h) ⊎ Has old b → a.key ≡ b.key → a.born < b.born → a.gone ≤ b.born
  gain_turn a b (inl ha) (inl hb) key less = let e = next_born a ha in let f = next_born b hb in absurd (omega arith)
  gain_turn a b (inl ha) (inr hb) key less = let later = next.later b hb (sym key ∙ next_key a ha) in let e = next_born a ha in absurd (omega arith)
  gain_turn a b (inr ha) (inl hb) key less = let free = next.free a ha (key ∙ next_key b hb) in let e = next_born b hb in omega arith
  gain_turn a b (inr ha) (inr hb) key less = apart.in_turn a b ha hb key less

  gain_apart : AreInTurn new
  gain_apart = record {
    once = λ a b ha hb. gain_once a b (gain.only a ha) (gain.only b hb);
    in_turn = λ a b ha hb. gain_turn a b (gain.only a ha) (gain.only b hb);
  }

pub rows_gain : RowsGain
rows_gain h old new apart next gain = rows_join h old new (gain_apart h old new apart next gain) next.own gain
