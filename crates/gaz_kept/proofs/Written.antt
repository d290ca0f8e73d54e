-- A custodian's histories while keys are written, by what rows there are.
use Rattle.std.proofs.Common.{◌≡◌, ◌≢◌, ◌∙◌, ◌<◌, ◌==◌, ◌⊎◌, ◌||◌, inl, inr, ℕ, Bool, true, false, cond, List, ◌∷◌, refl, sym, ap, subst, arith, eq-eqb, eqb-true, true≢false}
use Rattle.std.specs.Prelude.{Option, Some, None, option_map}
use Rattle.std.specs.List.{list_any}
use Rattle.std.specs.Ordering.{eq_by_cmp}
use Rattle.sqlite_rules.specs.Lists.{Has}
use Rattle.gaz_records.proofs.KeyOrder.{keys_exact, keys_total}
use Rattle.gaz_records.specs.Keys.{key_cmp}
use Rattle.gaz_records.specs.declared.key.Key.{Key}
use Rattle.gaz_views.proofs.SameKeys.{same_key}
use Rattle.gaz_overlay.specs.Changes.{Changes}
use Rattle.gaz_overlay.specs.Rows.{HistoryRow, IsCurrent, added, closed, is_of_birth, new_row}
use Rattle.gaz_overlay.specs.Writings.{writing_at}
use Rattle.gaz_overlay.specs.declared.touch.NewRow.{NewRow}
use Rattle.gaz_row_items.proofs.Pairs.{has_tied}
use Rattle.gaz_kept.specs.Histories.{Close, Gain, gone_with}
use Rattle.gaz_kept.proofs.Statements.{AreOnce}
use Rattle.gaz_kept.proofs.Views.{ties}

abbrev pub Rows : Type 0
Rows = List HistoryRow

abbrev pub among : List Key → Key → Bool
among keys k = list_any (eq_by_cmp key_cmp k) keys

-- a row, closed where its key is one of these
abbrev pub closed_in : ℕ → Changes → List Key → HistoryRow → HistoryRow
closed_in m c keys r = cond (among keys r.key) (closed m c r) r

-- a row that was there
pub record WasThere (m : ℕ) (c : Changes) (ended : List Key) (old : Rows) (r : HistoryRow) : Type 0 where
  pub row : HistoryRow
  pub there : Has old row
  pub is : r ≡ closed_in m c ended row

-- a row that comes
pub record Comes (m : ℕ) (c : Changes) (begun : List Key) (r : HistoryRow) : Type 0 where
  pub key : Key
  pub listed : Has begun key
  pub is : added m c key ≡ Some r

-- the rows, closed at some keys, and those that come at some keys
pub record IsWritten (m : ℕ) (c : Changes) (ended begun : List Key) (old new : Rows) : Type 0 where
  pub only : (r : HistoryRow) → Has new r → WasThere m c ended old r ⊎ Comes m c begun r
  pub kept : (r : HistoryRow) → Has old r → Has new (closed_in m c ended r)
  pub there : (k : Key) (r : HistoryRow) → Has begun k → added m c k ≡ Some r → Has new r

-- ---- a row that is closed keeps its key and its birth

closed_key : (m : ℕ) (c : Changes) (r : HistoryRow) → (closed m c r).key ≡ r.key
closed_key m c r = elim (is_of_birth (writing_at c r.key).closes r) as (λ b. (cond b (gone_with m r) r).key ≡ r.key) [ true ↦ refl | false ↦ refl ]

closed_birth : (m : ℕ) (c : Changes) (r : HistoryRow) → (closed m c r).born ≡ r.born
closed_birth m c r = elim (is_of_birth (writing_at c r.key).closes r) as (λ b. (cond b (gone_with m r) r).born ≡ r.born) [ true ↦ refl | false ↦ refl ]

pub key_in : (m : ℕ) (c : Changes) (keys : List Key) (r : HistoryRow) → (closed_in m c keys r).key ≡ r.key
key_in m c keys r = elim (among keys r.key) as (λ b. (cond b (closed m c r) r).key ≡ r.key) [ true ↦ closed_key m c r | false ↦ refl ]

pub birth_in : (m : ℕ) (c : Changes) (keys : List Key) (r : HistoryRow) → (closed_in m c keys r).born ≡ r.born
birth_in m c keys r = elim (among keys r.key) as (λ b. (cond b (closed m c r) r).born ≡ r.born) [ true ↦ closed_birth m c r | false ↦ refl ]

-- ---- a row that comes

pub record IsNewRow (m : ℕ) (k : Key) (r : HistoryRow) : Type 0 where
  pub key : r.key ≡ k
  pub born : r.born ≡ m

pub comes_new : (m : ℕ) (c : Changes) (k : Key) (r : HistoryRow) → added m c k ≡ Some r → IsNewRow m k r
comes_new m c k r is = by_row (writing_at c k).adds is
  where
    by_row : (o : Option NewRow) → option_map (new_row m k) o ≡ Some r → IsNewRow m k r
    by_row None h = let none : None ≡ Some r = h in absurd (cc)
    by_row (Some s) h = let same : new_row m k s ≡ r = cc in record { key = ap (λ (x : HistoryRow). x.key) (sym same); born = ap (λ (x : HistoryRow). x.born) (sym same) }

-- where no two rows of a key were born in one volume, and all before this one, it is so with the rows that come
pub once_now : (m : ℕ) (c : Changes) (ended begun : List Key) (old now : Rows) → AreOnce old → ((r : HistoryRow) → Has old r → r.born < m) → IsWritten m c ended begun old now → AreOnce now
once_now m c ended begun old now once before w a b ha hb key born = by_origin (w.only a ha) (w.only b hb)
  where
    early : (r : HistoryRow) → WasThere m c ended old r → r.born < m
    early r t = let less = before t.row t.there in let e = ap (λ (x : HistoryRow). x.born) t.is ∙ birth_in m c ended t.row in omega arith

    by_origin : WasThere m c ended old a ⊎ Comes m c begun a → WasThere m c ended old b ⊎ Comes m c begun b → a ≡ b
    by_origin (inl x) (inl y) =
        let keys = sym (key_in m c ended x.row) ∙ ap (λ (r : HistoryRow). r.key) (sym x.is) ∙ key ∙ ap (λ (r : HistoryRow). r.key) y.is ∙ key_in m c ended y.row in
        let births = sym (birth_in m c ended x.row) ∙ ap (λ (r : HistoryRow). r.born) (sym x.is) ∙ born ∙ ap (λ (r : HistoryRow). r.born) y.is ∙ birth_in m c ended y.row in
        x.is ∙ ap (closed_in m c ended) (once x.row y.row x.there y.there keys births) ∙ sym y.is
    by_origin (inl x) (inr y) = let less = early a x in let late = (comes_new m c y.key b y.is).born in absurd (omega arith)
    by_origin (inr x) (inl y) = let less = early b y in let late = (comes_new m c x.key a x.is).born in absurd (omega arith)
    by_origin (inr x) (inr y) =
        let keys = sym (comes_new m c x.key a x.is).key ∙ key ∙ (comes_new m c y.key b y.is).key in
        let same : Some a ≡ Some b = sym x.is ∙ ap (added m c) keys ∙ y.is in
        cc

-- ---- one key more is closed

pub not_among : (keys : List Key) (k : Key) → ¬ Has keys k → among keys k ≡ false
not_among keys k none = by_test (among keys k) refl
  where
    by_test : (b : Bool) → among keys k ≡ b → among keys k ≡ false
    by_test false is = is
    by_test true is = absurd (none (has_tied keys_total keys_exact k keys is))

module _ (m : ℕ) (c : Changes) (k : Key) (ended begun : List Key) (old now : Rows) (other_key : ¬ Has ended k) (w : IsWritten m c ended begun old now) where
  pub before_here : (s : HistoryRow) → s.key ≡ k → closed_in m c ended s ≡ s
  before_here s key = ap (λ b. cond b (closed m c s) s) (ap (among ended) key ∙ not_among ended k other_key)

  now_here : (s : HistoryRow) → s.key ≡ k → closed_in m c (k ∷ ended) s ≡ closed m c s
  now_here s key = ap (λ b. cond (b || among ended s.key) (closed m c s) s) (ties s.key k key)

  elsewhere : (s : HistoryRow) → eq_by_cmp key_cmp s.key k ≡ false → closed_in m c (k ∷ ended) s ≡ closed_in m c ended s
  elsewhere s other = ap (λ b. cond (b || among ended s.key) (closed m c s) s) other

  module _ (same_rows : (s : HistoryRow) → Has old s → closed_in m c (k ∷ ended) s ≡ closed_in m c ended s) where
    still_written : IsWritten m c (k ∷ ended) begun old now
    still_written = record {
      only = λ r there. by_origin r (w.only r there);
      kept = λ s there. subst (Has now) (sym (same_rows s there)) (w.kept s there);
      there = w.there;
    }
      where
        by_origin : (r : HistoryRow) → WasThere m c ended old r ⊎ Comes m c begun r → WasThere m c (k ∷ ended) old r ⊎ Comes m c begun r
        by_origin r (inl x) = inl (record { row = x.row; there = x.there; is = x.is ∙ sym (same_rows x.row x.there) })
        by_origin r (inr x) = inr x

  -- none of its rows is
  pub closes_none : (writing_at c k).closes ≡ None → IsWritten m c (k ∷ ended) begun old now
  closes_none none = still_written (λ s _. by_tie s (eq_by_cmp key_cmp s.key k) refl)
    where
      as_was : (s : HistoryRow) → s.key ≡ k → closed m c s ≡ s
      as_was s key = ap (λ o. cond (is_of_birth o s) (gone_with m s) s) (ap (λ q. (writing_at c q).closes) key ∙ none)

      by_tie : (s : HistoryRow) (t : Bool) → eq_by_cmp key_cmp s.key k ≡ t → closed_in m c (k ∷ ended) s ≡ closed_in m c ended s
      by_tie s true is = let key = same_key s.key k is in now_here s key ∙ as_was s key ∙ sym (before_here s key)
      by_tie s false is = elsewhere s is

  -- its current row is
  module _ (born : ℕ) (so : (writing_at c k).closes ≡ Some born) (h : HistoryRow) (there : Has old h) (current : IsCurrent k born h) (once : AreOnce old) (mid : Rows) (close : Close h m now mid) where
    it_closes : (s : HistoryRow) (b : Bool) → s.key ≡ k → (born == s.born) ≡ b → closed m c s ≡ cond b (gone_with m s) s
    it_closes s b key is = ap (λ o. cond (is_of_birth o s) (gone_with m s) s) (ap (λ q. (writing_at c q).closes) key ∙ so) ∙ ap (λ t. cond t (gone_with m s) s) is

    its_row : (s : HistoryRow) → Has old s → s.key ≡ k → (born == s.born) ≡ true → s ≡ h
    its_row s hs key is = once s h hs there (key ∙ sym current.of_key) (sym (eqb-true born s.born is) ∙ sym current.of_birth)

    not_its : (s : HistoryRow) → (born == s.born) ≡ false → s ≢ h
    not_its s is same = true≢false (sym (eq-eqb born s.born (sym (ap (λ (x : HistoryRow). x.born) same ∙ current.of_birth))) ∙ is)

    -- any other row is as it was
    as_before : (s : HistoryRow) → Has old s → closed_in m c ended s ≢ h → closed_in m c (k ∷ ended) s ≡ closed_in m c ended s
    as_before s hs other = by_tie (eq_by_cmp key_cmp s.key k) refl
      where
        by_birth : s.key ≡ k → (b : Bool) → (born == s.born) ≡ b → closed_in m c (k ∷ ended) s ≡ closed_in m c ended s
        by_birth key true is = absurd (other (before_here s key ∙ its_row s hs key is))
        by_birth key false is = now_here s key ∙ it_closes s false key is ∙ sym (before_here s key)

        by_tie : (t : Bool) → eq_by_cmp key_cmp s.key k ≡ t → closed_in m c (k ∷ ended) s ≡ closed_in m c ended s
        by_tie true is = by_birth (same_key s.key k is) (born == s.born) refl
        by_tie false is = elsewhere s is

    its_now : closed_in m c (k ∷ ended) h ≡ gone_with m h
    its_now = now_here h current.of_key ∙ it_closes h true current.of_key (eq-eqb born h.born (sym current.of_birth))

    still_there : (s : HistoryRow) → Has old s → (t : Bool) → eq_by_cmp key_cmp s.key k ≡ t → Has mid (closed_in m c (k ∷ ended) s)
    still_there s hs true is = by_birth (born == s.born) refl
      where
        key : s.key ≡ k
        key = same_key s.key k is

        by_birth : (b : Bool) → (born == s.born) ≡ b → Has mid (closed_in m c (k ∷ ended) s)
        by_birth true same = subst (λ x. Has mid (closed_in m c (k ∷ ended) x)) (sym (its_row s hs key same)) (subst (Has mid) (sym its_now) close.there)
        by_birth false other =
            subst (Has mid) (sym (now_here s key ∙ it_closes s false key other))
            (close.kept s (subst (Has now) (before_here s key) (w.kept s hs)) (not_its s other))
    still_there s hs false is =
        subst (Has mid) (sym (elsewhere s is))
        (close.kept _ (w.kept s hs) (λ same. true≢false (sym (ties s.key k (sym (key_in m c ended s) ∙ ap (λ (x : HistoryRow). x.key) same ∙ current.of_key)) ∙ is)))

    pub closes_row : ¬ Has begun k → IsWritten m c (k ∷ ended) begun old mid
    closes_row other = record {
      only = λ r here. by_close r (close.only r here);
      kept = λ s hs. still_there s hs (eq_by_cmp key_cmp s.key k) refl;
      there = λ q r listed is. close.kept r (w.there q r listed is) (λ same. other (subst (Has begun) (sym (comes_new m c q r is).key ∙ ap (λ (x : HistoryRow). x.key) same ∙ current.of_key) listed));
    }
      where
        by_origin : (r : HistoryRow) → r ≢ h → WasThere m c ended old r ⊎ Comes m c begun r → WasThere m c (k ∷ ended) old r ⊎ Comes m c begun r
        by_origin r apart (inl x) = inl (record { row = x.row; there = x.there; is = x.is ∙ sym (as_before x.row x.there (λ same. apart (x.is ∙ same))) })
        by_origin r apart (inr x) = inr x

        by_close : (r : HistoryRow) → (Has now r × (r ≢ h)) ⊎ (r ≡ gone_with m h) → WasThere m c (k ∷ ended) old r ⊎ Comes m c begun r
        by_close r (inl was) = by_origin r was.1 (w.only r was.0)
        by_close r (inr is) = inl (record { row = h; there = there; is = is ∙ sym its_now })

-- ---- one key more has its row

module _ (m : ℕ) (c : Changes) (k : Key) (ended begun : List Key) (old now : Rows) (w : IsWritten m c ended begun old now) where
  comes_later : (r : HistoryRow) → WasThere m c ended old r ⊎ Comes m c begun r → WasThere m c ended old r ⊎ Comes m c (k ∷ begun) r
  comes_later r (inl x) = inl x
  comes_later r (inr x) = inr (record { key = x.key; listed = inr x.listed; is = x.is })

  pub adds_none : (writing_at c k).adds ≡ None → IsWritten m c ended (k ∷ begun) old now
  adds_none none = record {
    only = λ r there. comes_later r (w.only r there);
    kept = w.kept;
    there = λ q r listed is. by_key q r listed is;
  }
    where
      by_key : (q : Key) (r : HistoryRow) → (q ≡ k) ⊎ Has begun q → added m c q ≡ Some r → Has now r
      by_key q r (inl same) is =
          let clash : None ≡ Some r = ap (option_map (new_row m k)) (sym none) ∙ ap (added m c) (sym same) ∙ is in
          absurd (cc)
      by_key q r (inr listed) is = w.there q r listed is

  pub adds_row : (s : NewRow) (new : Rows) → (writing_at c k).adds ≡ Some s → Gain (new_row m k s) now new → IsWritten m c ended (k ∷ begun) old new
  adds_row s new so gain = record {
    only = λ r there. by_gain r (gain.only r there);
    kept = λ r there. gain.kept _ (w.kept r there);
    there = λ q r listed is. by_key q r listed is;
  }
    where
      it : added m c k ≡ Some (new_row m k s)
      it = ap (option_map (new_row m k)) so

      by_gain : (r : HistoryRow) → (r ≡ new_row m k s) ⊎ Has now r → WasThere m c ended old r ⊎ Comes m c (k ∷ begun) r
      by_gain r (inl same) = inr (record { key = k; listed = inl refl; is = it ∙ ap Some (sym same) })
      by_gain r (inr was) = comes_later r (w.only r was)

      by_key : (q : Key) (r : HistoryRow) → (q ≡ k) ⊎ Has begun q → added m c q ≡ Some r → Has new r
      by_key q r (inl same) is = let e : Some (new_row m k s) ≡ Some r = sym it ∙ ap (added m c) (sym same) ∙ is in let row : new_row m k s ≡ r = cc in subst (Has new) row gain.there
      by_key q r (inr listed) is = gain.kept r (w.there q r listed is)
