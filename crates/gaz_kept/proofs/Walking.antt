-- What the touched keys make of a custodian's histories, written in turn.
use Rattle.std.proofs.Common.{◌≡◌, ◌≢◌, ◌∙◌, ◌≤◌, ◌<◌, ◌+◌, ◌++◌, ◌⊎◌, ◌&&◌, inl, inr, ℕ, Bool, true, false, cond, T, List, [], ◌∷◌, map, refl, sym, ap, subst, arith, true≢false}
use Rattle.std.specs.Prelude.{Option, Some, None}
use Rattle.std.specs.Cmp.{IsTotalOrder, tied_itself}
use Rattle.std.specs.FinMap as finite
use Rattle.std.specs.FinMap.{is_sorted}
use Rattle.std.specs.FinMap.Entries.{below_all}
use Rattle.std.specs.List.{filter_map}
use Rattle.std.specs.Map.{keys_of}
use Rattle.std.specs.Option.{option_map_or}
use Rattle.std.specs.Ordering.{is_lt}
use Rattle.std.specs.declared.cmp.Ordering.{Ordering}
use Rattle.std.specs.declared.cmp.Ordering.TheVariants.{Less, Equal, Greater}
use Rattle.sqlite.specs.declared.types.Value.TheVariants.{Int}
use Rattle.sqlite.specs.Edit.{next_rowid}
use Rattle.sqlite.specs.Order.{Row}
use Rattle.sqlite_rules.specs.Lists.{Has}
use Rattle.sqlite_rules.proofs.ListLemmas.{has_either, has_left, has_right}
use Rattle.sqlite_rules.proofs.ProbeLemmas.{has_mapped, mapped_has}
use Rattle.gaz_records.proofs.KeyOrder.{keys_exact, keys_total}
use Rattle.gaz_records.specs.Items.{is_entry}
use Rattle.gaz_records.specs.Keys.{key_of}
use Rattle.gaz_records.specs.Kinds.{number_of}
use Rattle.gaz_records.specs.declared.key.Key.{Key}
use Rattle.gaz_views.specs.View.{holds}
use Rattle.gaz_cells.specs.Ids.{id_of, kind_in}
use Rattle.gaz_overlay.specs.Changes.{Changes}
use Rattle.gaz_overlay.specs.Rows.{AreTold, HistoryRow, added, closed, is_of_birth, never, new_row, written}
use Rattle.gaz_overlay.specs.Writings.{nothing, writing_at, writing_of}
use Rattle.gaz_overlay.specs.declared.touch.NewRow.{NewRow}
use Rattle.gaz_overlay.specs.declared.touch.Touch.{Touch}
use Rattle.gaz_overlay.proofs.NextRows.{closes_since}
use Rattle.gaz_tables.specs.Versions.{Closes}
use Rattle.gaz_row_items.specs.Versions.{histories_in, living}
use Rattle.gaz_row_items.proofs.Pairs.{missing, ties_has}
use Rattle.gaz_kept.specs.Histories.{AddsVersion, AreSame, ClosesVersion, Gain, SamePassages, gone_with}
use Rattle.gaz_kept.specs.Keeping.{AddsItem, ClosesRow, WritesKey, WritesKeys}
use Rattle.gaz_kept.specs.Kept.{AreThrough, AreVersions}
use Rattle.gaz_kept.proofs.Singly.{Current, current_of, singly, singly_kept, singly_only}
use Rattle.gaz_kept.proofs.RowsRead.{read_from, read_in}
use Rattle.gaz_kept.proofs.Statements.{AreOnce, closes_version, insert_adds}
use Rattle.gaz_kept.proofs.Written.{Comes, IsWritten, Rows, WasThere, adds_none, adds_row, among, before_here, closed_in, closes_none, closes_row, once_now}

-- ---- keys in turn

-- the keys, or numbers, done one after another
abbrev pub onto : {K : Type 0} → List K → List K → List K
onto [] done = done
onto (k ∷ keys) done = onto keys (k ∷ done)

onto_done : {K : Type 0} (keys done : List K) (q : K) → Has done q → Has (onto keys done) q
onto_done [] done q h = h
onto_done (k ∷ keys) done q h = onto_done keys (k ∷ done) q (inr h)

pub onto_has : {K : Type 0} (keys done : List K) (q : K) → Has keys q → Has (onto keys done) q
onto_has [] done q h = absurd h
onto_has (k ∷ keys) done q (inl same) = onto_done keys (k ∷ done) q (inl same)
onto_has (k ∷ keys) done q (inr h) = onto_has keys (k ∷ done) q h

pub onto_only : {K : Type 0} (keys done : List K) (q : K) → Has (onto keys done) q → Has keys q ⊎ Has done q
onto_only [] done q h = inr h
onto_only (k ∷ keys) done q h = by_origin (onto_only keys (k ∷ done) q h)
  where
    by_origin : Has keys q ⊎ ((q ≡ k) ⊎ Has done q) → ((q ≡ k) ⊎ Has keys q) ⊎ Has done q
    by_origin (inl there) = inl (inr there)
    by_origin (inr (inl same)) = inl (inl same)
    by_origin (inr (inr there)) = inr there

-- none comes twice
abbrev pub AreNew : {K : Type 0} → List K → List K → Type 0
AreNew done [] = Unit {0}
AreNew done (k ∷ keys) = (¬ Has done k) × AreNew (k ∷ done) keys

both_hold : (a b : Bool) → T (a && b) → T a × T b
both_hold true b h = (tt, h)
both_hold false b h = absurd h

not_below : {K : Type 0} {R : K → K → Ordering} → IsTotalOrder R → (k : K) → T (is_lt (R k k)) → ⊥
not_below {K} {R} total k less = by_order (R k k) (tied_itself total k) less
  where
    by_order : (o : Ordering) → o ≡ Equal → T (is_lt o) → ⊥
    by_order Less is less = let clash : Less ≡ Equal = is in absurd (cc)
    by_order Equal is less = less
    by_order Greater is less = less

-- as they don't in a map
pub are_new : {K X : Type 0} {R : K → K → Ordering} → IsTotalOrder R → (done : List K) (es : List (K × X)) → T (is_sorted R es) → ((d : K) → Has done d → T (below_all R d es)) → AreNew done (keys_of es)
are_new total done [] sorted below = tt
are_new {K} {X} {R} total done (e ∷ es) sorted below = (
  λ there. not_below total e.0 (both_hold (is_lt (R e.0 e.0)) (below_all R e.0 es) (below e.0 there)).0,
  are_new total (e.0 ∷ done) es both.1 (λ d there. by_place d there),
)
  where
    both : T (below_all R e.0 es) × T (is_sorted R es)
    both = both_hold (below_all R e.0 es) (is_sorted R es) sorted

    by_place : (d : K) → (d ≡ e.0) ⊎ Has done d → T (below_all R d es)
    by_place d (inl same) = subst (λ k. T (below_all R k es)) (sym same) both.0
    by_place d (inr there) = (both_hold (is_lt (R d e.0)) (below_all R d es) (below d there)).1

-- ---- under way

-- some keys' rows are closed and some have come; no other custodian's rows change, and none of a number
pub record IsUnderWay (c m : ℕ) (changes : Changes) (ended begun : List Key) (old now : List Row) : Type 0 where
  pub written : IsWritten m changes ended begun (histories_in old c) (histories_in now c)
  pub others : (d : ℕ) → d ≢ c → AreSame (histories_in old d) (histories_in now d)
  pub passages : SamePassages old now
  pub rows : AreVersions now

pub same_then : {X : Type 0} (old mid new : List X) → AreSame old mid → AreSame mid new → AreSame old new
same_then old mid new one two = record { only = λ r there. one.only r (two.only r there); kept = λ r there. two.kept r (one.kept r there) }

pub nothing_yet : (c m : ℕ) (changes : Changes) (old : List Row) → AreVersions old → IsUnderWay c m changes [] [] old old
nothing_yet c m changes old all = record {
  written = record { only = λ r there. inl (record { row = r; there = there; is = refl }); kept = λ r there. there; there = λ k r none is. absurd none };
  others = λ d other. record { only = λ r there. there; kept = λ r there. there };
  passages = λ d. record { only = λ r there. there; kept = λ r there. there };
  rows = all;
}

module _ (c n : ℕ) (room : n + 1 < never) (changes : Changes) (old : List Row) (through : AreThrough n (histories_in old c)) (told : AreTold changes (histories_in old c))
    (own : (k : Key) (r : NewRow) → (writing_at changes k).adds ≡ Some r → key_of r.item ≡ k)
    (entries : (k : Key) (r : NewRow) → (writing_at changes k).adds ≡ Some r → is_entry r.item ≡ true) where
  early : (r : HistoryRow) → Has (histories_in old c) r → r.born < n + 1
  early r there = let le = (through.until r there).born in omega arith

  module _ (k : Key) (done : List Key) (new_key : ¬ Has done k) where
    close_key : (now mid : List Row) (o : Option ℕ) → (writing_at changes k).closes ≡ o → IsUnderWay c (n + 1) changes done done old now
        → ClosesRow c (n + 1) k o now mid → IsUnderWay c (n + 1) changes (k ∷ done) done old mid
    close_key now mid None is u same = subst (IsUnderWay c (n + 1) changes (k ∷ done) done old) (sym same) (record {
      written = closes_none (n + 1) changes k done done _ _ new_key u.written is;
      others = u.others;
      passages = u.passages;
      rows = u.rows;
    })
    close_key now mid (Some born) is u closes = record {
      written = closes_row (n + 1) changes k done done _ _ new_key u.written born is x.row x.there x.is through.apart.once (histories_in mid c) v.close new_key;
      others = λ d other. same_then _ _ _ (u.others d other) (v.others d other);
      passages = λ d. same_then _ _ _ (u.passages d) (v.passages d);
      rows = v.rows;
    }
      where
        x : Current (histories_in old c) k born
        x = current_of (histories_in old c) k born (told.told k born (closes_since changes k born is))

        there_now : Has (histories_in now c) x.row
        there_now = subst (Has (histories_in now c)) (before_here (n + 1) changes k done done _ _ new_key u.written x.row x.is.of_key) (u.written.kept x.row x.there)

        its_closes : Closes c (number_of (kind_in x.row.key)) (id_of x.row.key) x.row.born (n + 1) now mid
        its_closes = subst (λ (p : Key × ℕ). Closes c (number_of (kind_in p.0)) (id_of p.0) p.1 (n + 1) now mid) (λ i. (sym x.is.of_key i, sym x.is.of_birth i)) closes

        v : ClosesVersion c (n + 1) x.row now mid
        v =
            let le : x.row.born ≤ n + 1 = let less = early x.row x.there in omega arith in
            closes_version c (n + 1) x.row now mid le u.rows (once_now (n + 1) changes done done _ _ through.apart.once early u.written) there_now its_closes

    add_key : (mid new : List Row) (o : Option NewRow) → (writing_at changes k).adds ≡ o → IsUnderWay c (n + 1) changes (k ∷ done) done old mid
        → AddsItem c (n + 1) o mid new → IsUnderWay c (n + 1) changes (k ∷ done) (k ∷ done) old new
    add_key mid new None is u same = subst (IsUnderWay c (n + 1) changes (k ∷ done) (k ∷ done) old) (sym same) (record {
      written = adds_none (n + 1) changes k (k ∷ done) done _ _ u.written is;
      others = u.others;
      passages = u.passages;
      rows = u.rows;
    })
    add_key mid new (Some r) is u adds = record {
      written = adds_row (n + 1) changes k (k ∷ done) done _ _ u.written r (histories_in new c) is its_gain;
      others = λ d other. same_then _ _ _ (u.others d other) (v.others d other);
      passages = λ d. same_then _ _ _ (u.passages d) (v.passages d);
      rows = v.rows;
    }
      where
        in_turn : (b : Bool) → n + 1 ≤ cond b never (n + 1)
        in_turn true = omega arith
        in_turn false = omega arith

        v : AddsVersion c (living (n + 1) (cond r.current never (n + 1)) r.item) mid new
        v = let first : 1 ≤ n + 1 = omega arith in insert_adds (Int (next_rowid mid)) c (n + 1) (cond r.current never (n + 1)) r.item mid new adds.0 adds.1 (entries k r is) first (in_turn r.current) u.rows adds.2

        its_gain : Gain (new_row (n + 1) k r) (histories_in mid c) (histories_in new c)
        its_gain = subst (λ q. Gain (record { key = q; born = n + 1; gone = cond r.current never (n + 1); item = r.item }) (histories_in mid c) (histories_in new c)) (own k r is) v.gain

    write_key : (now new : List Row) → IsUnderWay c (n + 1) changes done done old now → WritesKey c (n + 1) k (writing_at changes k) now new → IsUnderWay c (n + 1) changes (k ∷ done) (k ∷ done) old new
    write_key now new u w = add_key w.between new (writing_at changes k).adds refl (close_key now w.between (writing_at changes k).closes refl u w.closes) w.adds

  pub write_keys : (keys done : List Key) (now new : List Row) → AreNew done keys → IsUnderWay c (n + 1) changes done done old now → WritesKeys c (n + 1) changes keys now new
      → IsUnderWay c (n + 1) changes (onto keys done) (onto keys done) old new
  write_keys [] done now new apart u same = subst (IsUnderWay c (n + 1) changes done done old) (sym same) u
  write_keys (k ∷ keys) done now new apart u w = write_keys keys (k ∷ done) w.0 new apart.1 (write_key k done apart.0 now w.0 u w.1) w.2

-- ---- once all are written

module _ (m : ℕ) (changes : Changes) where
  -- a key that isn't touched has nothing to be closed
  untouched : (r : HistoryRow) → ¬ Has (finite.keys changes.touched) r.key → closed m changes r ≡ r
  untouched r none = ap (λ w. cond (is_of_birth w r) (gone_with m r) r) nothing_there
    where
      nothing_there : (writing_at changes r.key).closes ≡ None
      nothing_there = ap (λ o. (option_map_or (λ (t : Touch). writing_of t (holds changes.view r.key)) o nothing).closes)
          (finite.get-entries changes.touched r.key ∙ missing keys_total keys_exact r.key (finite.entries changes.touched) (λ t there. none (mapped_has (λ (e : Key × Touch). e.0) (finite.entries changes.touched) (r.key, t) there)))

  module _ (all : List Key) (touched : (q : Key) → Has (finite.keys changes.touched) q → Has all q) (only : (q : Key) → Has all q → Has (finite.keys changes.touched) q) where
    each_closed : (r : HistoryRow) → closed_in m changes all r ≡ closed m changes r
    each_closed r = by_test (among all r.key) refl
      where
        by_test : (b : Bool) → among all r.key ≡ b → closed_in m changes all r ≡ closed m changes r
        by_test true is = ap (λ b. cond b (closed m changes r) r) is
        by_test false is = ap (λ b. cond b (closed m changes r) r) is ∙ sym (untouched r (λ there. true≢false (sym (ties_has keys_total keys_exact r.key all (touched r.key there)) ∙ is)))

    -- the rows are those that the changes say
    pub same_written : (old new : Rows) → AreOnce old → IsWritten m changes all all old new → AreSame (written m changes (singly old)) new
    unfolding written
    same_written old new once w = record {
      only = λ r there. by_origin r (w.only r there);
      kept = λ r there. by_part r (has_either (map (closed m changes) (singly old)) (filter_map (added m changes) (finite.keys changes.touched)) r there);
    }
      where
        by_origin : (r : HistoryRow) → WasThere m changes all old r ⊎ Comes m changes all r → Has (map (closed m changes) (singly old) ++ filter_map (added m changes) (finite.keys changes.touched)) r
        by_origin r (inl x) =
            has_left (map (closed m changes) (singly old)) (filter_map (added m changes) (finite.keys changes.touched)) r
            (subst (Has (map (closed m changes) (singly old))) (sym (x.is ∙ each_closed x.row)) (mapped_has (closed m changes) (singly old) x.row (singly_kept old once x.row x.there)))
        by_origin r (inr x) =
            has_right (map (closed m changes) (singly old)) (filter_map (added m changes) (finite.keys changes.touched)) r
            (read_in (added m changes) (finite.keys changes.touched) x.key r (only x.key x.listed) x.is)

        by_part : (r : HistoryRow) → Has (map (closed m changes) (singly old)) r ⊎ Has (filter_map (added m changes) (finite.keys changes.touched)) r → Has new r
        by_part r (inl there) =
            let s = has_mapped (closed m changes) (singly old) r there in
            subst (Has new) (each_closed s.0 ∙ sym s.2) (w.kept s.0 (singly_only old s.0 s.1))
        by_part r (inr there) =
            let k = read_from (added m changes) (finite.keys changes.touched) r there in
            w.there k.0 r (touched k.0 k.1) k.2
