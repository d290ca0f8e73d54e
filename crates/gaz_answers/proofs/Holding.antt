-- The rows that hold after a volume, and the view of which they are.
use Rattle.std.proofs.Common.{◌≡◌, ◌∙◌, ◌≤◌, ◌<◌, inl, inr, ℕ, pos, true, List, refl, sym, ap, subst, arith}
use Rattle.std.specs.Prelude.{Some}
use Rattle.std.specs.Ordering.{nat_cmp, ordering_then}
use Rattle.std.specs.Cmp.{nat_cmp_is}
use Rattle.std.specs.Cmp.Lexicographic.{slice_cmp}
use Rattle.std.specs.declared.cmp.Ordering.{Ordering}
use Rattle.std.specs.declared.cmp.Ordering.TheVariants.{Equal}
use Rattle.sqlite.specs.Effect.{Database}
use Rattle.sqlite.specs.Order.{Row, value_cmp}
use Rattle.sqlite.specs.declared.types.Value.TheVariants.{Int, Text}
use Rattle.sqlite_rules.specs.Lists.{Has}
use Rattle.sqlite_value.proofs.OrderLemmas.{value_cmp-Text}
use Rattle.gaz_records.proofs.KeyOrder.{keys_exact, keys_total}
use Rattle.gaz_records.specs.Items.{is_entry, is_item}
use Rattle.gaz_records.specs.Keys.{key_cmp, key_of, kind_number}
use Rattle.gaz_records.specs.Kinds.{is_entry_kind, number_of}
use Rattle.gaz_records.specs.declared.item.Item.{Item}
use Rattle.gaz_records.specs.declared.item.Kind.{Kind}
use Rattle.gaz_records.specs.declared.item.Kind.TheVariants as kind
use Rattle.gaz_records.specs.declared.key.Key.{Key}
use Rattle.gaz_views.specs.View.{View}
use Rattle.gaz_views.specs.Words.{entries}
use Rattle.gaz_cells.proofs.Ids.{ids_order}
use Rattle.gaz_cells.specs.Columns.{CellsValue, cells_of}
use Rattle.gaz_cells.specs.Ids.{id_of, is_key}
use Rattle.gaz_overlay.specs.Rows.{HistoryRow, view_after}
use Rattle.gaz_tables.proofs.VersionOnce.{born_once}
use Rattle.gaz_tables.specs.Schema.{version2}
use Rattle.gaz_tables.specs.Versions as table
use Rattle.gaz_tables.specs.Tables.{rows_of}
use Rattle.gaz_row_items.specs.Versions.{cells_in, histories_in, history_in, item_in, living, number_in, text_in, view_in}
use Rattle.gaz_row_items.proofs.CustodyFollows.{no_item}
use Rattle.gaz_kept.specs.Kept.{IsItemRow, IsKept, IsVersion}
use Rattle.gaz_kept.proofs.Sorted.{map_from, map_has}
use Rattle.gaz_kept.proofs.RowsRead.{birth_of, fits, history_of, item_of, item_row, its_custodian, not_none, passage_kind, read_from, read_in, some_same}
use Rattle.gaz_kept.proofs.Views.{Holds, entered, entries_at, entry, one_holds, single_at}

-- a row says an item of a custodian, which holds after a volume
pub record HoldsItem (c t : ℕ) (r : Row) (x : Item) : Type 0 where
  pub cust : number_in (table.cust_of r) ≡ c
  pub item : item_in r ≡ Some x
  pub born : number_in (table.born_of r) ≤ t
  pub gone : t < number_in (table.gone_of r)

abbrev pub entry_of : Item → Key × Item
entry_of x = (key_of x, x)

-- ---- a row and its item

-- a row that says an item is an item's
pub own_row : (r : Row) → IsVersion r → (x : Item) → item_in r ≡ Some x → IsItemRow r
own_row r (inl v) x is = v
own_row r (inr p) x is = not_none x is (no_item r (passage_kind r p))

not_of_entries : (k : Kind) → is_entry_kind k ≡ true → number_of k ≡ 92 → ⊥
not_of_entries kind.Street entry e = omega (arith, e)
not_of_entries kind.Descriptor entry e = omega (arith, e)
not_of_entries kind.Blpu entry e = omega (arith, e)
not_of_entries kind.Xref entry e = omega (arith, e)
not_of_entries kind.Lpi entry e = omega (arith, e)
not_of_entries kind.Release entry e = cc
not_of_entries kind.Adopt entry e = cc

-- so is one of a kind of entries
pub kind_row : (k : Kind) (r : Row) → is_entry_kind k ≡ true → IsVersion r → table.kind_of r ≡ Int (pos (number_of k)) → IsItemRow r
kind_row k r entry (inl v) is = v
kind_row k r entry (inr p) is = absurd (not_of_entries k entry (sym (ap number_in is) ∙ passage_kind r p))

module _ (r : Row) (version : IsVersion r) (x : Item) (is : item_in r ≡ Some x) where
  row_is : IsItemRow r
  row_is = own_row r version x is

  same_item : (item_of r row_is).item ≡ x
  same_item = some_same (item_of r row_is).item x (item_of r row_is).said is

  pub said_known : is_item x ≡ true
  said_known = subst (λ y. is_item y ≡ true) same_item (item_of r row_is).known

  pub said_entry : is_entry x ≡ true
  said_entry = subst (λ y. is_entry y ≡ true) same_item (item_of r row_is).entry

  pub said_cells : cells_of x ≡ cells_in r
  said_cells = subst (λ y. cells_of y ≡ cells_in r) same_item (item_of r row_is).cells

  pub said_key : is_key (key_of x) ≡ true
  said_key = (fits x said_known said_entry).key

  pub said_id : text_in (table.id_of r) ≡ id_of (key_of x)
  said_id = ap (λ (d : CellsValue). d.id) (sym said_cells)

  pub said_text : table.id_of r ≡ Text (id_of (key_of x))
  said_text = row_is.id ∙ ap Text said_id

  pub said_history : (c : ℕ) → number_in (table.cust_of r) ≡ c → history_in c r ≡ Some (living (number_in (table.born_of r)) (number_in (table.gone_of r)) x)
  said_history c cust = history_of c r (item_of r row_is) cust ∙ ap (λ y. Some (living (number_in (table.born_of r)) (number_in (table.gone_of r)) y)) same_item

-- ---- the view

module _ (db : Database) (kept : IsKept db) (c t : ℕ) where
  abbrev rows : List Row
  rows = rows_of db version2

  abbrev histories : List HistoryRow
  histories = histories_in rows c

  abbrev v : View
  v = view_in rows c t

  -- each entry is the item of a row that holds
  pub row_of : (e : Key × Item) → Has (entries v) e → (r : Row) × Has rows r × HoldsItem c t r e.1 × (e ≡ entry_of e.1)
  unfolding view_after
  row_of e there =
      let i = entry t histories e.0 e.1 (map_from keys_total keys_exact (entries_at t histories) e there) in
      let r = read_from (history_in c) rows i.row i.there in
      let version = kept.rows r.0 r.1 in
      let cust = its_custodian c r.0 i.row r.2 in
      let s = item_of r.0 (item_row c r.0 version i.row r.2) in
      let same : living (number_in (table.born_of r.0)) (number_in (table.gone_of r.0)) s.item ≡ i.row = some_same _ _ (history_of c r.0 s cust) r.2 in
      let item : s.item ≡ e.1 = ap (λ (h : HistoryRow). h.item) same ∙ i.item in
      let key : key_of s.item ≡ e.0 = ap (λ (h : HistoryRow). h.key) same ∙ i.key in
      let born : number_in (table.born_of r.0) ≡ i.row.born = ap (λ (h : HistoryRow). h.born) same in
      let gone : number_in (table.gone_of r.0) ≡ i.row.gone = ap (λ (h : HistoryRow). h.gone) same in
      let b = i.held.born in
      let g = i.held.gone in (
        r.0,
        r.1,
        record { cust = cust; item = s.said ∙ ap Some item; born = omega arith; gone = omega arith },
        λ j. ((sym key ∙ ap key_of item) j, e.1),
      )

  held : (r : Row) (x : Item) → HoldsItem c t r x → Holds t (living (number_in (table.born_of r)) (number_in (table.gone_of r)) x)
  held r x h = record { born = h.born; gone = h.gone }

  -- and the item of each row that holds is one
  pub entry_in_view : (r : Row) (x : Item) → Has rows r → HoldsItem c t r x → Has (entries v) (entry_of x)
  unfolding view_after
  entry_in_view r x there h =
      let living_x = living (number_in (table.born_of r)) (number_in (table.gone_of r)) x in
      let in_histories = read_in (history_in c) rows r living_x there (said_history r (kept.rows r there) x h.item c h.cust) in
      map_has keys_total keys_exact (entries_at t histories) (single_at histories (kept.histories c).apart t) (entry_of x) (entered t histories living_x in_histories (held r x h))

  -- two rows that hold one key are one row
  pub one_row : (r s : Row) (x y : Item) → Has rows r → Has rows s → HoldsItem c t r x → HoldsItem c t s y → key_of x ≡ key_of y → r ≡ s
  one_row r s x y hr hs a b key =
      let vr = kept.rows r hr in
      let vs = kept.rows s hs in
      let of_r = said_history r vr x a.item c a.cust in
      let of_s = said_history s vs y b.item c b.cust in
      let h = living (number_in (table.born_of r)) (number_in (table.gone_of r)) x in
      let g = living (number_in (table.born_of s)) (number_in (table.gone_of s)) y in
      let same : h ≡ g = one_holds histories (kept.histories c).apart t h g (read_in (history_in c) rows r h hr of_r) (read_in (history_in c) rows s g hs of_s) key (held r x a) (held s y b) in
      let birth = birth_of c s vs h (of_s ∙ ap Some (sym same)) in
      born_once db c _ (id_of (key_of x)) (number_in (table.born_of r)) s r kept.tables hs hr birth (birth_of c r vr h of_r)

-- ---- keys of a kind are in the order of their ids

pub like_kinds : (n : ℕ) (o : Ordering) → ordering_then (nat_cmp n n) o ≡ o
like_kinds n o = ap (λ k. ordering_then k o) (sym (nat_cmp_is n n Equal refl))

pub by_ids : (a b : Key) → is_key a ≡ true → is_key b ≡ true → kind_number a ≡ kind_number b → key_cmp a b ≡ slice_cmp nat_cmp (id_of a) (id_of b)
by_ids a b ka kb kinds =
    ids_order a b ka kb
    ∙ ap (λ n. ordering_then (nat_cmp (kind_number a) n) (slice_cmp nat_cmp (id_of a) (id_of b))) (sym kinds)
    ∙ like_kinds (kind_number a) (slice_cmp nat_cmp (id_of a) (id_of b))

-- and rows by their ids
pub by_rows : (r s : Row) (x y : Item) → IsVersion r → IsVersion s → item_in r ≡ Some x → item_in s ≡ Some y → kind_number (key_of x) ≡ kind_number (key_of y) → key_cmp (key_of x) (key_of y) ≡ value_cmp (table.id_of r) (table.id_of s)
by_rows r s x y vr vs sx sy kinds =
    by_ids (key_of x) (key_of y) (said_key r vr x sx) (said_key s vs y sy) kinds
    ∙ sym ((λ i. value_cmp (said_text r vr x sx i) (said_text s vs y sy i)) ∙ value_cmp-Text (id_of (key_of x)) (id_of (key_of y)))
