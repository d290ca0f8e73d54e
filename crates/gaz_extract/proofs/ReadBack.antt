-- An extract reads back as the view that it was taken of.
use Rattle.std.proofs.Common.{◌≡◌, ◌∙◌, ◌+◌, ℕ, Bool, true, false, cond, ◌&&◌, List, [], ◌∷◌, ◌++◌, map, length, append_assoc, append-nil, refl, sym, ap, subst, arith, T}
use Rattle.std.specs.Prelude.{Some, None, fold, nat_le}
use Rattle.std.specs.Result.{result_ok}
use Rattle.std.specs.List.{All, cons_option, filter_map}
use Rattle.csv.specs.Reading.{default_config, records, strip_bom}
use Rattle.csv.specs.Writing.{fields_text}
use Rattle.std.proofs.lemmas.List.Elements.{All-head, All-tail}
use Rattle.std.specs.Ordering.{is_eq, is_lt, ordering_reverse}
use Rattle.std.specs.declared.cmp.Ordering.{Ordering}
use Rattle.std.specs.declared.cmp.Ordering.TheVariants.{Less, Equal, Greater}
use Rattle.std.specs.FinMap as finite
use Rattle.std.specs.FinMap.Entries.{below_all, is_sorted}
use Rattle.gaz_rows.specs.Rows.{AllFilled, Fields, lines_of, rows_of}
use Rattle.gaz_rows.proofs.Back.{rows-read-back}
use Rattle.gaz_records.proofs.ItemsBack.{fields-back}
use Rattle.gaz_records.proofs.KeyOrder.{keys_exact, keys_total}
use Rattle.gaz_records.specs.Keys.{key_cmp, key_of}
use Rattle.gaz_records.specs.Items.{is_item}
use Rattle.gaz_records.specs.declared.item.Item.{Item}
use Rattle.gaz_records.specs.declared.item.Item.TheVariants as item
use Rattle.gaz_records.specs.declared.key.Key.{Key}
use Rattle.gaz_keeper.specs.Board.{reached, view_after}
use Rattle.gaz_views.proofs.Pages.{rows_keyed}
use Rattle.gaz_views.specs.Lawful.{IsKeyed}
use Rattle.gaz_views.specs.View.{View, empty_view, with_item}
use Rattle.gaz_views.specs.Words.{entries}
use Rattle.gaz_extract.specs.Extracts.{extract_rows, items_of, record_of, records_from, trailer}
use Rattle.gaz_extract.specs.Laws.{ExtractsReadBack, inserted, items_read}

-- ---- rows and records

all_filled : (n : ℕ) (items : List Item) (more : List Fields) → AllFilled more → AllFilled (records_from n items ++ more)
all_filled n [] more h = h
all_filled n (i ∷ is) more h = (omega arith, all_filled (n + 1) is more h)

-- the text is read from its start: it has no byte order mark
no_mark : (c volume : ℕ) (items : List Item) → strip_bom (lines_of (extract_rows c volume items)) ≡ lines_of (extract_rows c volume items)
unfolding lines_of strip_bom fields_text
no_mark c volume items = refl

rows_back : (c volume : ℕ) (items : List Item) → rows_of (lines_of (extract_rows c volume items)) ≡ extract_rows c volume items
rows_back c volume items =
    ap (records default_config) (no_mark c volume items)
    ∙ rows-read-back _ (omega arith, all_filled 1 items (trailer (length items) ∷ []) (omega arith, tt))

-- a record inserts its item
record_back : (order : ℕ) (i : Item) → is_item i ≡ true → inserted (record_of order i) ≡ Some i
record_back order (item.Street x) h = ap result_ok (fields-back (item.Street x) h)
record_back order (item.Descriptor x) h = ap result_ok (fields-back (item.Descriptor x) h)
record_back order (item.Blpu x) h = ap result_ok (fields-back (item.Blpu x) h)
record_back order (item.Xref x) h = ap result_ok (fields-back (item.Xref x) h)
record_back order (item.Lpi x) h = ap result_ok (fields-back (item.Lpi x) h)
record_back order (item.Release x) h = ap result_ok (fields-back (item.Release x) h)
record_back order (item.Adopt x) h = ap result_ok (fields-back (item.Adopt x) h)

abbrev IsAllowed : Item → Type 0
IsAllowed i = is_item i ≡ true

records_back : (order count : ℕ) (items : List Item) → All IsAllowed items → filter_map inserted (records_from order items ++ trailer count ∷ []) ≡ items
records_back order count [] all = refl
records_back order count (i ∷ is) all =
    ap (λ o. cons_option o (filter_map inserted (records_from (order + 1) is ++ trailer count ∷ []))) (record_back order i (All-head IsAllowed i is all))
    ∙ ap (λ l. i ∷ l) (records_back (order + 1) count is (All-tail IsAllowed i is all))

-- ---- items

abbrev Row : Type 0
Row = Key × Item

both_true : (a b : Bool) → T (a && b) → (a ≡ true) × T b
both_true true b h = (refl, h)
both_true false b h = absurd h

passing : (b : Bool) → b ≡ true → T b
passing b e = subst T (sym e) tt

less : (o : Ordering) → is_lt o ≡ true → o ≡ Less
less Less e = refl
less Equal e = cc
less Greater e = cc

-- what stands behind others follows them
behind : (k : Key) (before : List Row) (e : Row) (after : List Row) → T (below_all key_cmp k (before ++ e ∷ after)) → is_lt (key_cmp k e.0) ≡ true
behind k [] e after h = (both_true _ _ h).0
behind k (f ∷ before) e after h = behind k before e after (both_true _ _ h).1

not_tied : (k q : Key) → is_lt (key_cmp k q) ≡ true → is_eq (key_cmp q k) ≡ false
not_tied k q e = ap is_eq (keys_total.antisymm q k ∙ ap ordering_reverse (less _ e))

-- a row's key isn't among those of the rows before it
is_new : (before : List Row) (e : Row) (after : List Row) → T (is_sorted key_cmp (before ++ e ∷ after)) → finite.find key_cmp e.0 before ≡ None
is_new [] e after h = refl
is_new (f ∷ before) e after h =
    let two = both_true _ _ h in
    let apart = not_tied f.0 e.0 (behind f.0 before e after (passing _ two.0)) in
    ap (λ b. cond b (Some f.1) (finite.find key_cmp e.0 before)) apart ∙ is_new before e after two.1

-- rows put after those before them
put_behind : (w : View) (before rest : List Row) → w.items ≡ finite.from_entries before → T (is_sorted key_cmp (before ++ rest)) → All (λ e. key_of e.1 ≡ e.0) rest
    → (fold with_item w (map (λ e. e.1) rest)).items ≡ finite.from_entries (before ++ rest)
put_behind w before [] same sorted keyed = same ∙ ap finite.from_entries (sym (append-nil before))
put_behind w before (e ∷ rest) same sorted keyed =
    let named : key_of e.1 ≡ e.0 = All-head (λ (f : Row). key_of f.1 ≡ f.0) e rest keyed in
    let whole : (before ++ e ∷ []) ++ rest ≡ before ++ e ∷ rest = append_assoc before (e ∷ []) rest in
    let put : (with_item w e.1).items ≡ finite.from_entries (before ++ e ∷ []) =
    ap (λ k. finite.insert w.items k e.1) named ∙ ap (λ m. finite.insert m e.0 e.1) same ∙ sym (finite.from_entries_push keys_total keys_exact before e.0 e.1 (is_new before e rest sorted)) in
    put_behind (with_item w e.1) (before ++ e ∷ []) rest put (subst (λ (es : List Row). T (is_sorted key_cmp es)) (sym whole) sorted) (All-tail (λ (f : Row). key_of f.1 ≡ f.0) e rest keyed)
    ∙ ap finite.from_entries whole

nothing_yet : empty_view.items ≡ finite.from_entries []
unfolding empty_view
nothing_yet = refl

view_back : (v : View) → IsKeyed v → (fold with_item empty_view (items_of v)).items ≡ v.items
view_back v keyed =
    put_behind empty_view [] (entries v) nothing_yet (finite.entries_sorted v.items) (rows_keyed v keyed)
    ∙ finite.same_map keys_total keys_exact (finite.from_entries (entries v)) v.items (λ q. finite.get-from_entries keys_total (entries v) q ∙ sym (finite.get-entries v.items q))

-- ---- an extract

text_is : (b : Bool) (made text : List ℕ) → cond b (Some made) None ≡ Some text → text ≡ made
text_is true made text e = cc
text_is false made text e = cc

pub extracts_back : ExtractsReadBack
extracts_back B c volume text e keyed allowed =
    let v = view_after B c volume in
    let made = lines_of (extract_rows c volume (items_of v)) in
    let is : text ≡ made = text_is (nat_le volume (reached B c)) made text e in
    let items : items_read text ≡ items_of v = ap items_read is ∙ ap (filter_map inserted) (rows_back c volume (items_of v)) ∙ records_back 1 (length (items_of v)) (items_of v) allowed in
    record {
      items = items;
      holds = ap (λ (is : List Item). (fold with_item empty_view is).items) items ∙ view_back v keyed;
    }
