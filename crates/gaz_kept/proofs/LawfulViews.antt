-- Views of a store's tables are lawful.
use Rattle.std.proofs.Common.{◌≡◌, ◌∙◌, ◌≤◌, ◌<◌, ◌⊎◌, ◌||◌, inl, inr, length, ℕ, true, false, List, refl, sym, ap, subst, arith}
use Rattle.std.proofs.lemmas.Bool.{cases_lt}
use Rattle.std.proofs.lemmas.List.{length-map}
use Rattle.std.proofs.lemmas.Option.{slice_get_past}
use Rattle.std.specs.Prelude.{Option, Some, None, is_some, unwrap_or}
use Rattle.std.specs.FinMap as finite
use Rattle.std.specs.FinSet as set
use Rattle.sqlite.specs.Effect.{Database}
use Rattle.sqlite_rules.specs.Lists.{Has}
use Rattle.gaz_records.proofs.KeyOrder.{keys_exact, keys_total}
use Rattle.gaz_records.specs.Items.{is_entry}
use Rattle.gaz_records.specs.Keys.{key_of}
use Rattle.gaz_records.specs.declared.item.Item.{Item}
use Rattle.gaz_records.specs.declared.key.Key.{Key}
use Rattle.gaz_views.proofs.Lawful.{lawful_empty}
use Rattle.gaz_views.specs.Lawful.{IsLawfulView}
use Rattle.gaz_views.specs.View.{View, empty_view, holds, was_used}
use Rattle.gaz_overlay.specs.Passages.{passed_keys}
use Rattle.gaz_overlay.specs.Rows.{HistoryRow, view_after}
use Rattle.gaz_keeper.specs.Board as board
use Rattle.gaz_views.specs.Judgements.{Judgement, views}
use Rattle.gaz_keeper.specs.Keeper.{IsLawful}
use Rattle.gaz_tables.specs.Schema.{received, version2}
use Rattle.gaz_tables.specs.Tables.{rows_of}
use Rattle.gaz_row_items.specs.Versions.{histories_in, history_in, passages_in, view_in}
use Rattle.gaz_row_items.proofs.Pairs.{in_set}
use Rattle.gaz_kept.specs.Contents.{board_of, content_in}
use Rattle.gaz_kept.specs.Files.{reached_in}
use Rattle.gaz_kept.specs.Kept.{IsKept}
use Rattle.gaz_kept.specs.LastViews.{last_in}
use Rattle.gaz_kept.proofs.AtKeys.{item_held}
use Rattle.gaz_kept.proofs.Boards.{board_reads}
use Rattle.gaz_kept.proofs.PassageStatements.{passed_later}
use Rattle.gaz_kept.proofs.RowsRead.{born_later, history_of, item_of, item_row, its_custodian, read_from, some_same}
use Rattle.gaz_kept.proofs.Views.{IsEntry, used_as, used_at}

-- each row of a custodian's histories has the key of its item
own_key : (db : Database) → IsKept db → (c : ℕ) (h : HistoryRow) → Has (histories_in (rows_of db version2) c) h → h.key ≡ key_of h.item
own_key db kept c h there =
    let r = read_from (history_in c) (rows_of db version2) h there in
    let s = item_of r.0 (item_row c r.0 (kept.rows r.0 r.1) h r.2) in
    let same = some_same _ h (history_of c r.0 s (its_custodian c r.0 h r.2)) r.2 in
    ap (λ (g : HistoryRow). g.key) (sym same) ∙ ap (λ (g : HistoryRow). key_of g.item) same

-- and its item is an entry
own_entry : (db : Database) → IsKept db → (c : ℕ) (h : HistoryRow) → Has (histories_in (rows_of db version2) c) h → is_entry h.item ≡ true
own_entry db kept c h there =
    let r = read_from (history_in c) (rows_of db version2) h there in
    let s = item_of r.0 (item_row c r.0 (kept.rows r.0 r.1) h r.2) in
    let same = some_same _ h (history_of c r.0 s (its_custodian c r.0 h r.2)) r.2 in
    ap (λ (g : HistoryRow). is_entry g.item) (sym same) ∙ s.entry

module _ (db : Database) (kept : IsKept db) (c t : ℕ) where
  abbrev rows : List HistoryRow
  rows = histories_in (rows_of db version2) c

  held : (k : Key) (x : Item) → finite.get (view_after rows t).items k ≡ Some x → IsEntry t rows k x
  held k x is = item_held rows (kept.histories c).apart t k x is

  used_by : (k : Key) (x : Item) → IsEntry t rows k x → was_used (view_after rows t) k ≡ true
  unfolding view_after
  used_by k x e = in_set keys_total keys_exact k (used_at t rows) (used_as t rows k (record { row = e.row; there = e.there; born = e.held.born; key = e.key }))

  pub view_lawful : IsLawfulView (view_in (rows_of db version2) c t)
  view_lawful = record {
    entries = λ k x is. let e = held k x is in ap is_entry (sym e.item) ∙ own_entry db kept c e.row e.there;
    keyed = λ k x is. let e = held k x is in ap key_of (sym e.item) ∙ sym (own_key db kept c e.row e.there) ∙ e.key;
    used = λ k holds_it. by_item k (finite.get (view_after rows t).items k) refl holds_it;
  }
    where
      by_item : (k : Key) (o : Option Item) → finite.get (view_after rows t).items k ≡ o → holds (view_after rows t) k ≡ true → was_used (view_in (rows_of db version2) c t) k ≡ true
      by_item k (Some x) is holds_it =
          let passed = passed_keys (passages_in (rows_of db version2) c) t in
          set.contains-union keys_total (view_after rows t).used passed k ∙ ap (λ b. b || set.contains passed k) (used_by k x (held k x is))
      by_item k None is holds_it = let clash : false ≡ true = sym (ap is_some is) ∙ holds_it in absurd (cc)

-- the views on the board are those of the rows, up to the reached volume
pub board_view : (db : Database) → IsKept db → (c t : ℕ) → t ≤ reached_in (rows_of db received) c → board.view_after (board_of db) c t ≡ view_in (rows_of db version2) c t
board_view db kept c t le = (board_reads (rows_of db received) (rows_of db version2) c).view (born_later c (rows_of db version2) kept.rows) (passed_later c (rows_of db version2) kept.rows) t le

-- a custodian's last view on the board is that of the rows
pub last_is : (db : Database) → IsKept db → (c : ℕ) → board.last_view (board_of db) c ≡ last_in db c
last_is db kept c =
    let r = (board_reads (rows_of db received) (rows_of db version2) c).reached in
    let le : reached_in (rows_of db received) c ≤ reached_in (rows_of db received) c = omega arith in
    ap (board.view_after (board_of db) c) r ∙ board_view db kept c (reached_in (rows_of db received) c) le

-- what the tables of a store stand for is lawful, beside a lawful working view
pub content_lawful : (db : Database) → IsKept db → (w : View) → IsLawfulView w → IsLawful (content_in db w)
content_lawful db kept w lawful = record { views = λ c t. by_reach c t (cases_lt (reached_in (rows_of db received) c) t); working = lawful }
  where
    by_reach : (c t : ℕ) → (reached_in (rows_of db received) c < t) ⊎ (t ≤ reached_in (rows_of db received) c) → IsLawfulView (board.view_after (board_of db) c t)
    by_reach c t (inr le) = subst IsLawfulView (sym (board_view db kept c t le)) (view_lawful db kept c t)
    by_reach c t (inl above) = subst IsLawfulView (sym (beyond c t above)) lawful_empty
      where
        beyond : (c t : ℕ) → reached_in (rows_of db received) c < t → board.view_after (board_of db) c t ≡ empty_view
        beyond c t above =
            let r = (board_reads (rows_of db received) (rows_of db version2) c).reached in
            let n = length-map (board_of db c) (λ (j : Judgement). j.view) in
            let past : length (views (board_of db c)) ≤ t = omega arith in
            ap (λ o. unwrap_or o empty_view) (slice_get_past (views (board_of db c)) t past)
