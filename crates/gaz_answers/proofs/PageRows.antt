-- A page of rows is a page of the view.
use Rattle.std.proofs.Common.{◌≡◌, ◌∙◌, ◌≤◌, ◌<◌, ◌&&◌, ℕ, Bool, true, false, cond, List, [], ◌∷◌, ◌++◌, filter, length, map, take, refl, sym, ap, subst, arith, true≢false}
use Rattle.std.specs.Prelude.{Option, Some, None}
use Rattle.std.specs.Result.{result_ok}
use Rattle.std.proofs.lemmas.Bool.Decides.{nat_tests}
use Rattle.std.proofs.lemmas.List.{length-append, length-map, length-take, take_all}
use Rattle.std.specs.Ordering.{is_gt, is_lt, nat_cmp, ordering_reverse, ordering_then}
use Rattle.std.specs.Cmp.Lexicographic.{nat_list_cmp_total, slice_cmp}
use Rattle.std.specs.declared.cmp.Ordering.{Ordering}
use Rattle.std.specs.declared.cmp.Ordering.TheVariants.{Less, Equal, Greater}
use Rattle.sqlite.specs.Effect.{Database}
use Rattle.sqlite.specs.Order.{Row}
use Rattle.sqlite_rules.specs.Lists.{Has}
use Rattle.gaz_ids.specs.Codes.{lang_text}
use Rattle.gaz_fields.specs.Labels.{label_cmp}
use Rattle.gaz_fields.proofs.LabelOrder.{greater, less}
use Rattle.gaz_records.specs.Items.{item_of_text, kind_of}
use Rattle.gaz_records.specs.Keys.{key_cmp, kind_number, number_in, text_in as text_of}
use Rattle.gaz_records.specs.Kinds.{is_entry_kind, number_of}
use Rattle.gaz_records.specs.declared.item.Item.{Item}
use Rattle.gaz_records.specs.declared.item.Kind.{Kind}
use Rattle.gaz_records.specs.declared.item.Kind.TheVariants as kind
use Rattle.gaz_records.specs.declared.key.Key.{Key}
use Rattle.gaz_records.specs.declared.key.Key.TheVariants as key
use Rattle.gaz_views.specs.View.{View}
use Rattle.gaz_views.specs.Words.{comes_after, entries, is_of, page}
use Rattle.gaz_cells.proofs.Digits.{digits_size}
use Rattle.gaz_cells.specs.Digits.{digits_in}
use Rattle.gaz_cells.specs.Ids.{id_of, is_key, kind_in}
use Rattle.gaz_tables.specs.Schema.{received, version2}
use Rattle.gaz_tables.specs.Shows.{ShowsPage}
use Rattle.gaz_tables.specs.Versions as table
use Rattle.gaz_tables.specs.Versions.{FindsHolding, IsHolding, body_shown}
use Rattle.gaz_tables.specs.Tables.{rows_of}
use Rattle.gaz_keeper.specs.Board.{reached}
use Rattle.gaz_row_items.specs.Versions.{text_in, view_in}
use Rattle.gaz_kept.specs.Contents.{board_of}
use Rattle.gaz_kept.specs.Files.{reached_in}
use Rattle.gaz_kept.specs.Kept.{IsKept}
use Rattle.gaz_answers.specs.Paging.{IsPageFrom, IsStart, SayItems, is_behind, item_said}
use Rattle.gaz_kept.proofs.Boards.{board_reads}
use Rattle.gaz_answers.proofs.Chosen.{page_read}
use Rattle.gaz_answers.proofs.Fits.{comes_in, holding_just}
use Rattle.gaz_answers.proofs.Holding.{HoldsItem, by_ids, said_cells, said_entry, said_known}
use Rattle.gaz_kept.proofs.Reached.{reached_room}
use Rattle.gaz_kept.proofs.PassageStatements.{passed_later}
use Rattle.gaz_kept.proofs.RowsRead.{born_later, fits}

-- ---- where a page begins

behind_nothing : (t : List ℕ) → 1 ≤ length t → is_gt (slice_cmp nat_cmp t []) ≡ true
behind_nothing [] some = absurd (omega arith)
behind_nothing (x ∷ t) some = refl

-- the name of a key has a byte
pub all_behind : (k : Key) → is_key k ≡ true → is_behind [] k ≡ true
all_behind (key.Street n) h = behind_nothing (digits_in 8 n) (omega (arith, digits_size 8 n))
all_behind (key.Descriptor n l) h = behind_nothing (digits_in 8 n ++ lang_text l) (omega (arith, length-append (digits_in 8 n) (lang_text l), digits_size 8 n))
all_behind (key.Blpu n) h = behind_nothing (digits_in 12 n) (omega (arith, digits_size 12 n))
all_behind (key.Xref t) h = let some : 1 ≤ length t = grind (arith, nat_tests) in behind_nothing t some
all_behind (key.Lpi t) h = let some : 1 ≤ length t = grind (arith, nat_tests) in behind_nothing t some

kind_number_in : (q : Key) → kind_number q ≡ number_of (kind_in q)
kind_number_in (key.Street n) = refl
kind_number_in (key.Descriptor n l) = refl
kind_number_in (key.Blpu n) = refl
kind_number_in (key.Xref t) = refl
kind_number_in (key.Lpi t) = refl

pub start_first : (k : Kind) → IsStart k None (Some [])
start_first k q known own = sym (all_behind q known)

turned : (o : Ordering) → is_lt (ordering_reverse o) ≡ is_gt o
turned Less = refl
turned Equal = refl
turned Greater = refl

pub start_same : (k : Kind) (a : Key) → is_key a ≡ true → number_of (kind_in a) ≡ number_of k → IsStart k (Some a) (Some (id_of a))
start_same k a known same q is_q own =
    let kinds : kind_number a ≡ kind_number q = kind_number_in a ∙ same ∙ ap number_of (sym own) ∙ sym (kind_number_in q) in
    ap is_lt (by_ids a q known is_q kinds ∙ nat_list_cmp_total.antisymm (id_of a) (id_of q)) ∙ turned (slice_cmp nat_cmp (id_of q) (id_of a))

-- kinds that differ decide
by_kinds : (a q : Key) (o : Ordering) → o ≡ nat_cmp (kind_number a) (kind_number q) → key_cmp a q ≡ ordering_then o (ordering_then (nat_cmp (number_in a) (number_in q)) (label_cmp (text_of a) (text_of q)))
by_kinds a q o is = ap (λ k. ordering_then k (ordering_then (nat_cmp (number_in a) (number_in q)) (label_cmp (text_of a) (text_of q)))) (sym is)

pub start_earlier : (k : Kind) (a : Key) → number_of (kind_in a) < number_of k → IsStart k (Some a) (Some [])
start_earlier k a earlier q is_q own =
    let ka = kind_number_in a in
    let kq : kind_number q ≡ number_of k = kind_number_in q ∙ ap number_of own in
    let first : kind_number a < kind_number q = omega arith in
    ap is_lt (by_kinds a q Less (sym (less (kind_number a) (kind_number q) first))) ∙ sym (all_behind q is_q)

pub start_later : (k : Kind) (a : Key) → number_of k < number_of (kind_in a) → IsStart k (Some a) None
start_later k a later q own =
    let ka = kind_number_in a in
    let kq : kind_number q ≡ number_of k = kind_number_in q ∙ ap number_of own in
    let last : kind_number q < kind_number a = omega arith in
    ap is_lt (by_kinds a q Greater (sym (greater (kind_number a) (kind_number q) last)))

-- ---- a page of rows

module _ (db : Database) (kept : IsKept db) (c t : ℕ) (k : Kind) (kind_entry : is_entry_kind k ≡ true) (after : Option Key) (start : List ℕ) (begins : IsStart k after (Some start)) (most : ℕ) (answer : List Row) where
  abbrev v : View
  v = view_in (rows_of db version2) c t

  reads : (r : Row) (x : Item) → Has (rows_of db version2) r → HoldsItem c t r x → kind_of x ≡ k → item_said k (body_shown r) ≡ Some x
  reads r x there h same =
      let version = kept.rows r there in
      let body = (fits x (said_known r version x h.item) (said_entry r version x h.item)).body in
      (λ i. result_ok (item_of_text (sym same i) (text_in (table.body_of r))))
      ∙ (λ i. result_ok (item_of_text (kind_of x) ((sym (said_cells r version x h.item) i).body)))
      ∙ ap result_ok body

  pub page_told : FindsHolding c (number_of k) start t most (rows_of db version2) answer → (items : List Item) → SayItems k answer items → items ≡ page v k after most
  page_told found items say =
      page_read db kept c t k (comes_in db kept c t k kind_entry after start begins) (IsHolding c (number_of k) start t) (holding_just db kept c t k kind_entry after start begins) most body_shown answer found
      (item_said k) (λ e. e.1) reads items say

-- and so of the board
pub page_on_board : (db : Database) → IsKept db → (c t : ℕ) (k : Kind) → is_entry_kind k ≡ true → (start : List ℕ) (most : ℕ) (answer : List Row) → FindsHolding c (number_of k) start t most (rows_of db version2) answer
    → (items : List Item) → SayItems k answer items → IsPageFrom (board_of db) c t k (Some start) most items
page_on_board db kept c t k entry start most answer found items say after begins within =
    let reads = board_reads (rows_of db received) (rows_of db version2) c in
    let reached : t ≤ reached_in (rows_of db received) c = subst (λ n. t ≤ n) reads.reached within in
    page_told db kept c t k entry after start begins most answer found items say
    ∙ ap (λ v. page v k after most) (sym (reads.view (born_later c (rows_of db version2) kept.rows) (passed_later c (rows_of db version2) kept.rows) t reached))

-- a volume beyond the last isn't reached
pub not_reached : (db : Database) → IsKept db → (c t : ℕ) → 999_999 < t → ¬ (t ≤ reached (board_of db) c)
not_reached db kept c t late within =
    let reads = board_reads (rows_of db received) (rows_of db version2) c in
    let room = reached_room db c kept in
    let is = reads.reached in
    absurd (omega (arith, room, is, within, late))

-- ---- where no key comes

kind_in_is : (k : Kind) (q : Key) → is_of k q ≡ true → kind_in q ≡ k
kind_in_is kind.Street (key.Street n) e = refl
kind_in_is kind.Descriptor (key.Descriptor n l) e = refl
kind_in_is kind.Blpu (key.Blpu n) e = refl
kind_in_is kind.Xref (key.Xref t) e = refl
kind_in_is kind.Lpi (key.Lpi t) e = refl
kind_in_is k q e = cc

none_comes : (k : Kind) (after : Option Key) → IsStart k after None → (q : Key) → (is_of k q && comes_after after q) ≡ false
none_comes k after none q = by_test (is_of k q) refl
  where
    by_test : (b : Bool) → is_of k q ≡ b → (is_of k q && comes_after after q) ≡ false
    by_test true is = ap (λ b. b && comes_after after q) is ∙ none q (kind_in_is k q is)
    by_test false is = ap (λ b. b && comes_after after q) is

no_entries : (p : Key × Item → Bool) → ((e : Key × Item) → p e ≡ false) → (es : List (Key × Item)) → filter p es ≡ []
no_entries p none [] = refl
no_entries p none (e ∷ es) = ap (λ b. cond b (e ∷ filter p es) (filter p es)) (none e) ∙ no_entries p none es

pub page_nothing : (v : View) (k : Kind) (after : Option Key) (most : ℕ) → IsStart k after None → [] ≡ page v k after most
page_nothing v k after most none =
    sym (take_all most [] (omega arith)) ∙ ap (λ (es : List (Key × Item)). take most (map (λ e. e.1) es)) (sym (no_entries (λ e. is_of k e.0 && comes_after after e.0) (λ e. none_comes k after none e.0) (entries v)))

-- nothing that stands in views is of another kind than entries are
pub page_of_none : (v : View) (k : Kind) (after : Option Key) (most : ℕ) → is_entry_kind k ≡ false → [] ≡ page v k after most
page_of_none v k after most none = page_nothing v k after most (λ q own. absurd (true≢false (sym (entry_key q) ∙ ap is_entry_kind own ∙ none)))
  where
    entry_key : (q : Key) → is_entry_kind (kind_in q) ≡ true
    entry_key (key.Street n) = refl
    entry_key (key.Descriptor n l) = refl
    entry_key (key.Blpu n) = refl
    entry_key (key.Xref t) = refl
    entry_key (key.Lpi t) = refl

-- ---- a page that isn't full has all

pub all_taken : (Fits : Row → Type 0) (place few most : ℕ) (show : Row → Row) (rows answer : List Row) → length answer < few → few ≤ most
    → ShowsPage Fits place few show rows answer → ShowsPage Fits place most show rows answer
all_taken Fits place few most show rows answer short le h = record {
  chosen = h.chosen;
  picks = h.picks;
  rising = h.rising;
  shown = h.shown ∙ ap (map show) (take_all few h.chosen fit ∙ sym (take_all most h.chosen far));
}
  where
    fit : length h.chosen ≤ few
    fit =
        let n = length-take few h.chosen in
        let m : length answer ≡ length (take few h.chosen) = ap length h.shown ∙ length-map (take few h.chosen) show in
        omega (arith, n, m)

    far : length h.chosen ≤ most
    far = omega (arith, fit)
