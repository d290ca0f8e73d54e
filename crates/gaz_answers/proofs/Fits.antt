-- The rows that the queries of pages take are those that hold an item of the view which is asked for.
use Rattle.std.proofs.Common.{◌≡◌, ◌∙◌, ◌≤◌, ◌⊎◌, ◌&&◌, ◌==◌, ℕ, ℤ, pos, ◌≤ℤ◌, ◌<ℤ◌, Bool, true, false, List, inl, inr, refl, sym, ap, subst, arith, eq-eqb, eqb-true}
use Rattle.std.specs.Prelude.{Option, Some, None}
use Rattle.std.specs.Option.{option_map_or}
use Rattle.std.proofs.lemmas.Bool.{and_from, and_parts}
use Rattle.std.proofs.lemmas.Int.{ints}
use Rattle.std.specs.Ordering.{is_gt, nat_cmp}
use Rattle.std.specs.Cmp.Lexicographic.{slice_cmp}
use Rattle.std.specs.declared.cmp.Ordering.{Ordering}
use Rattle.std.specs.declared.cmp.Ordering.TheVariants.{Less, Equal, Greater}
use Rattle.sqlite.specs.Effect.{Database}
use Rattle.sqlite.specs.Order.{Row}
use Rattle.sqlite.specs.declared.types.Value.TheVariants.{Int, Text}
use Rattle.sqlite_rules.specs.Lists.{Has}
use Rattle.gaz_ids.specs.Codes.{lang_number}
use Rattle.gaz_ids.specs.declared.lang.Lang.{Lang}
use Rattle.gaz_ids.specs.declared.lang.Lang.TheVariants.{Cym, Eng}
use Rattle.gaz_ids.specs.declared.status.Status.{Status}
use Rattle.gaz_ids.specs.declared.status.Status.TheVariants.{Approved, Alternative, Provisional, Historical}
use Rattle.gaz_records.specs.Items.{is_entry, kind_of}
use Rattle.gaz_records.specs.Keys.{key_of}
use Rattle.gaz_records.specs.Kinds.{is_entry_kind, number_of}
use Rattle.gaz_records.specs.declared.item.Item.{Item}
use Rattle.gaz_records.specs.declared.item.Item.TheVariants as item
use Rattle.gaz_records.specs.declared.item.Kind.{Kind}
use Rattle.gaz_records.specs.declared.item.Kind.TheVariants as kind
use Rattle.gaz_records.specs.declared.key.Key.{Key}
use Rattle.gaz_views.specs.Words.{comes_after, is_approved, is_approved_on, is_in, is_of, same_lang}
use Rattle.gaz_cells.specs.Columns.{CellsValue, blpu_of, lang_in, live_number, live_of, parent_number, street_of}
use Rattle.gaz_cells.specs.Ids.{id_of, kind_in}
use Rattle.gaz_overlay.specs.Rows.{HistoryRow, never}
use Rattle.gaz_tables.specs.Schema.{received, version2}
use Rattle.gaz_tables.specs.Versions as table
use Rattle.gaz_tables.specs.Versions.{IsApprovedOn, IsBehind, IsHolding, IsPartOf}
use Rattle.gaz_tables.specs.Tables.{rows_of}
use Rattle.gaz_row_items.specs.Versions.{history_in, item_in, living, number_in}
use Rattle.gaz_kept.specs.Files.{reached_in}
use Rattle.gaz_kept.specs.Kept.{IsKept, IsVersion}
use Rattle.gaz_answers.specs.Paging.{IsStart, is_behind}
use Rattle.gaz_answers.proofs.Chosen.{FitJust}
use Rattle.gaz_answers.proofs.Holding.{HoldsItem, kind_row, own_row, said_cells, said_entry, said_history, said_key, said_known, said_text}
use Rattle.gaz_answers.specs.Streets.{is_of_blpu}
use Rattle.gaz_kept.proofs.Reached.{reached_room}
use Rattle.gaz_kept.proofs.RowsRead.{fits, item_of, read_in, same_kind, whole}

-- ---- ids behind a text

is_greater : (o : Ordering) → is_gt o ≡ true → o ≡ Greater
is_greater Less e = cc
is_greater Equal e = cc
is_greater Greater e = refl

text_same : (s t : List ℕ) → Text s ≡ Text t → s ≡ t
text_same s t e = cc

module _ (r : Row) (v : IsVersion r) (x : Item) (is : item_in r ≡ Some x) (start : List ℕ) where
  behind_row : is_behind start (key_of x) ≡ true → IsBehind start r
  behind_row h = (id_of (key_of x), said_text r v x is, is_greater (slice_cmp nat_cmp (id_of (key_of x)) start) h)

  row_behind : IsBehind start r → is_behind start (key_of x) ≡ true
  row_behind h =
      let same : id_of (key_of x) ≡ h.0 = text_same (id_of (key_of x)) h.0 (sym (said_text r v x is) ∙ h.1) in
      ap (λ t. is_gt (slice_cmp nat_cmp t start)) same ∙ ap is_gt h.2

-- ---- kinds

pub own_kind : (x : Item) → is_entry x ≡ true → is_of (kind_of x) (key_of x) ≡ true
own_kind (item.Street x) h = refl
own_kind (item.Descriptor x) h = refl
own_kind (item.Blpu x) h = refl
own_kind (item.Xref x) h = refl
own_kind (item.Lpi x) h = refl
own_kind (item.Release x) h = cc
own_kind (item.Adopt x) h = cc

kind_is : (k : Kind) (x : Item) → is_entry x ≡ true → is_of k (key_of x) ≡ true → kind_of x ≡ k
kind_is kind.Street (item.Street x) h e = refl
kind_is kind.Descriptor (item.Descriptor x) h e = refl
kind_is kind.Blpu (item.Blpu x) h e = refl
kind_is kind.Xref (item.Xref x) h e = refl
kind_is kind.Lpi (item.Lpi x) h e = refl
kind_is k x h e = cc

module _ (r : Row) (v : IsVersion r) (x : Item) (is : item_in r ≡ Some x) where
  cell_kind : number_of (kind_of x) ≡ number_in (table.kind_of r)
  cell_kind = ap (λ (d : CellsValue). d.kind) (said_cells r v x is)

  pub of_kind : (k : Kind) → table.kind_of r ≡ Int (pos (number_of k)) → kind_of x ≡ k
  of_kind k cell = same_kind (kind_of x) k (cell_kind ∙ ap number_in cell)

  kind_cell : (k : Kind) → kind_of x ≡ k → table.kind_of r ≡ Int (pos (number_of k))
  kind_cell k same = whole (table.kind_of r) (number_of k) (own_row r v x is).kind (sym cell_kind ∙ ap number_of same)

  pub key_kind : kind_in (key_of x) ≡ kind_of x
  key_kind = (fits x (said_known r v x is) (said_entry r v x is)).kind

-- ---- rows of a kind that hold after a volume

pub pos_same : (m n : ℤ) → Int m ≡ Int n → m ≡ n
pos_same m n e = cc

module _ (db : Database) (kept : IsKept db) (c t : ℕ) (k : Kind) (entry : is_entry_kind k ≡ true) (after : Option Key) (start : List ℕ) (begins : IsStart k after (Some start)) where
  abbrev pub comes_in : Key × Item → Bool
  comes_in e = is_of k e.0 && comes_after after e.0

  pub holding_just : FitJust db c t k comes_in (IsHolding c (number_of k) start t)
  holding_just = record {
    item = λ r there fit.
        let version = kept.rows r there in
        let v = kind_row k r entry version fit.of_kind in
        let s = item_of r v in
        let early : pos (number_in (table.born_of r)) ≤ℤ pos t = subst (λ n. n ≤ℤ pos t) (pos_same fit.early.0 (pos (number_in (table.born_of r))) (sym fit.early.1 ∙ v.born)) fit.early.2 in
        let late : pos t <ℤ pos (number_in (table.gone_of r)) = subst (λ n. pos t <ℤ n) (pos_same fit.late.0 (pos (number_in (table.gone_of r))) (sym fit.late.1 ∙ v.gone)) fit.late.2 in
        let same = of_kind r version s.item s.said k fit.of_kind in (
          s.item,
          record { cust = ap number_in fit.of_cust; item = s.said; born = omega (arith, ints, early); gone = omega (arith, ints, late) },
          same,
          and_from (is_of k (key_of s.item)) (comes_after after (key_of s.item))
              (subst (λ j. is_of j (key_of s.item) ≡ true) same (own_kind s.item s.entry))
              (begins (key_of s.item) (said_key r version s.item s.said) (key_kind r version s.item s.said ∙ same) ∙ row_behind r version s.item s.said start fit.behind),
        );
    row = λ r x there h passes.
        let version = kept.rows r there in
        let v = own_row r version x h.item in
        let both = and_parts (is_of k (key_of x)) (comes_after after (key_of x)) passes in
        let same = kind_is k x (said_entry r version x h.item) both.0 in
        let b = h.born in
        let g = h.gone in
        record {
          of_cust = whole (table.cust_of r) c v.cust h.cust;
          of_kind = kind_cell r version x h.item k same;
          behind = behind_row r version x h.item start (sym (begins (key_of x) (said_key r version x h.item) (key_kind r version x h.item ∙ same)) ∙ both.1);
          early = (pos (number_in (table.born_of r)), v.born, omega (arith, ints, b));
          late = (pos (number_in (table.gone_of r)), v.gone, omega (arith, ints, g));
        };
  }

-- ---- current rows

module _ (db : Database) (kept : IsKept db) (c : ℕ) where
  abbrev n : ℕ
  n = reached_in (rows_of db received) c

  current_holds : (r : Row) (x : Item) → Has (rows_of db version2) r → number_in (table.cust_of r) ≡ c → item_in r ≡ Some x → table.gone_of r ≡ Int table.never → HoldsItem c n r x
  current_holds r x there cust is gone =
      let h = living (number_in (table.born_of r)) (number_in (table.gone_of r)) x in
      let born = ((kept.histories c).until h (read_in (history_in c) (rows_of db version2) r h there (said_history r (kept.rows r there) x is c cust))).born in
      let room = reached_room db c kept in
      let ends : number_in (table.gone_of r) ≡ 1000000 = ap number_in gone in
      record { cust = cust; item = is; born = born; gone = omega arith }

  holds_current : (r : Row) (x : Item) → Has (rows_of db version2) r → HoldsItem c n r x → table.gone_of r ≡ Int table.never
  holds_current r x there h = whole (table.gone_of r) 1000000 (own_row r (kept.rows r there) x h.item).gone (by_gone ((kept.histories c).until row (read_in (history_in c) (rows_of db version2) r row there (said_history r (kept.rows r there) x h.item c h.cust))).gone)
    where
      row : HistoryRow
      row = living (number_in (table.born_of r)) (number_in (table.gone_of r)) x

      by_gone : (number_in (table.gone_of r) ≤ n) ⊎ (number_in (table.gone_of r) ≡ never) → number_in (table.gone_of r) ≡ 1000000
      by_gone (inl le) = let g = h.gone in absurd (omega arith)
      by_gone (inr current) = current

-- ---- approved LPIs on a street

approved_status : (s : Status) → live_number s ≡ 1 → is_approved s ≡ true
approved_status Approved e = refl
approved_status Alternative e = absurd (omega arith)
approved_status Provisional e = absurd (omega arith)
approved_status Historical e = absurd (omega arith)

status_approved : (s : Status) → is_approved s ≡ true → live_number s ≡ 1
status_approved Approved e = refl
status_approved Alternative e = cc
status_approved Provisional e = cc
status_approved Historical e = cc

lpi_on : (x : Item) (usrn : ℕ) → kind_of x ≡ kind.Lpi → live_of x ≡ 1 → street_of x ≡ usrn → is_approved_on usrn None x ≡ true
lpi_on (item.Street x) usrn k live street = absurd (cc)
lpi_on (item.Descriptor x) usrn k live street = absurd (cc)
lpi_on (item.Blpu x) usrn k live street = absurd (cc)
lpi_on (item.Xref x) usrn k live street = absurd (cc)
lpi_on (item.Release x) usrn k live street = absurd (cc)
lpi_on (item.Adopt x) usrn k live street = absurd (cc)
lpi_on (item.Lpi x) usrn k live street =
    and_from (is_approved x.status && x.usrn == usrn) true (and_from (is_approved x.status) (x.usrn == usrn) (approved_status x.status live) (eq-eqb x.usrn usrn street)) refl

record IsOn (x : Item) (usrn : ℕ) : Type 0 where
  kind : kind_of x ≡ kind.Lpi
  live : live_of x ≡ 1
  street : street_of x ≡ usrn

on_lpi : (x : Item) (usrn : ℕ) → is_approved_on usrn None x ≡ true → IsOn x usrn
on_lpi (item.Street x) usrn e = absurd (cc)
on_lpi (item.Descriptor x) usrn e = absurd (cc)
on_lpi (item.Blpu x) usrn e = absurd (cc)
on_lpi (item.Xref x) usrn e = absurd (cc)
on_lpi (item.Release x) usrn e = absurd (cc)
on_lpi (item.Adopt x) usrn e = absurd (cc)
on_lpi (item.Lpi x) usrn e =
    let both = (and_parts (is_approved x.status && x.usrn == usrn) true e).0 in
    let parts = and_parts (is_approved x.status) (x.usrn == usrn) both in
    record { kind = refl; live = status_approved x.status parts.0; street = eqb-true x.usrn usrn parts.1 }

same_number : (m l : Lang) → same_lang m l ≡ (lang_number m == lang_number l)
same_number Cym Cym = refl
same_number Cym Eng = refl
same_number Eng Cym = refl
same_number Eng Eng = refl

and_true : (a b : Bool) → (a && b) ≡ ((a && true) && b)
and_true true b = refl
and_true false b = refl

lang_test : (lang : Option Lang) (m : Lang) → is_in lang m ≡ option_map_or (λ l. lang_number m == lang_number l) lang true
lang_test None m = refl
lang_test (Some l) m = same_number m l

-- in a language it is one in any, and its cell says the language
pub in_lang : (x : Item) (usrn : ℕ) (lang : Option Lang) → is_approved_on usrn lang x ≡ (is_approved_on usrn None x && option_map_or (λ l. lang_in x == lang_number l) lang true)
in_lang (item.Street x) usrn lang = refl
in_lang (item.Descriptor x) usrn lang = refl
in_lang (item.Blpu x) usrn lang = refl
in_lang (item.Xref x) usrn lang = refl
in_lang (item.Release x) usrn lang = refl
in_lang (item.Adopt x) usrn lang = refl
in_lang (item.Lpi x) usrn lang =
    ap (λ b. (is_approved x.status && x.usrn == usrn) && b) (lang_test lang x.lang) ∙ and_true (is_approved x.status && x.usrn == usrn) _

module _ (db : Database) (kept : IsKept db) (c usrn : ℕ) (start : List ℕ) where
  abbrev pub left_on : Key × Item → Bool
  left_on e = is_approved_on usrn None e.1 && is_behind start e.0

  pub approved_just : FitJust db c (reached_in (rows_of db received) c) kind.Lpi left_on (IsApprovedOn c usrn start)
  approved_just = record {
    item = λ r there fit.
        let version = kept.rows r there in
        let s = item_of r (kind_row kind.Lpi r refl version fit.approved.of_kind) in
        let is_of_kind = of_kind r version s.item s.said kind.Lpi fit.approved.of_kind in
        let live : live_of s.item ≡ 1 = ap (λ (d : CellsValue). d.links.live) s.cells ∙ ap number_in fit.approved.is_live in
        let street : street_of s.item ≡ usrn = ap (λ (d : CellsValue). d.links.street) s.cells ∙ ap number_in fit.on_street in (
          s.item,
          current_holds db kept c r s.item there (ap number_in fit.approved.of_cust) s.said fit.approved.is_current,
          is_of_kind,
          and_from (is_approved_on usrn None s.item) (is_behind start (key_of s.item)) (lpi_on s.item usrn is_of_kind live street) (row_behind r version s.item s.said start fit.behind),
        );
    row = λ r x there h passes.
        let version = kept.rows r there in
        let v = own_row r version x h.item in
        let both = and_parts (is_approved_on usrn None x) (is_behind start (key_of x)) passes in
        let on = on_lpi x usrn both.0 in
        let cells = said_cells r version x h.item in
        record {
          approved = record {
            of_cust = whole (table.cust_of r) c v.cust h.cust;
            of_kind = kind_cell r version x h.item kind.Lpi on.kind;
            is_live = whole (table.live_of r) 1 v.live (ap (λ (d : CellsValue). d.links.live) (sym cells) ∙ on.live);
            is_current = holds_current db kept c r x there h;
          };
          on_street = whole (table.street_of r) usrn v.street (ap (λ (d : CellsValue). d.links.street) (sym cells) ∙ on.street);
          behind = behind_row r version x h.item start both.1;
        };
  }

-- ---- what names a BLPU

part_of : (x : Item) (uprn : ℕ) → 1 ≤ uprn → is_entry x ≡ true → blpu_of x ≡ uprn → is_of_blpu (kind_of x) uprn x ≡ true
part_of (item.Street x) uprn some entry of = absurd (omega (arith, some, of))
part_of (item.Descriptor x) uprn some entry of = absurd (omega (arith, some, of))
part_of (item.Xref x) uprn some entry of = eq-eqb x.uprn uprn of
part_of (item.Lpi x) uprn some entry of = eq-eqb x.uprn uprn of
part_of (item.Release x) uprn some entry of = absurd (cc)
part_of (item.Adopt x) uprn some entry of = absurd (cc)
part_of (item.Blpu x) uprn some entry of = by_parent x.parent of
  where
    by_parent : (p : Option ℕ) → parent_number p ≡ uprn → option_map_or (λ m. m == uprn) p false ≡ true
    by_parent None of = absurd (omega arith)
    by_parent (Some m) of = eq-eqb m uprn of

-- it is of that kind, and its cell says the number
pub part_is : (k : Kind) (x : Item) (uprn : ℕ) → is_of_blpu k uprn x ≡ true → (kind_of x ≡ k) × (blpu_of x ≡ uprn)
part_is kind.Xref (item.Xref x) uprn e = (refl, eqb-true x.uprn uprn e)
part_is kind.Lpi (item.Lpi x) uprn e = (refl, eqb-true x.uprn uprn e)
part_is kind.Blpu (item.Blpu x) uprn e = (refl, by_parent x.parent e)
  where
    by_parent : (p : Option ℕ) → option_map_or (λ m. m == uprn) p false ≡ true → parent_number p ≡ uprn
    by_parent None e = absurd (cc)
    by_parent (Some m) e = eqb-true m uprn e
part_is kind.Blpu (item.Street x) uprn e = absurd (cc)
part_is kind.Blpu (item.Descriptor x) uprn e = absurd (cc)
part_is kind.Blpu (item.Xref x) uprn e = absurd (cc)
part_is kind.Blpu (item.Lpi x) uprn e = absurd (cc)
part_is kind.Blpu (item.Release x) uprn e = absurd (cc)
part_is kind.Blpu (item.Adopt x) uprn e = absurd (cc)
part_is k x uprn e = absurd (cc)

module _ (db : Database) (kept : IsKept db) (c : ℕ) (k : Kind) (entry : is_entry_kind k ≡ true) (uprn : ℕ) (some : 1 ≤ uprn) (start : List ℕ) where
  abbrev pub part_left : Key × Item → Bool
  part_left e = is_of_blpu k uprn e.1 && is_behind start e.0

  pub parts_just : FitJust db c (reached_in (rows_of db received) c) k part_left (IsPartOf c (number_of k) (pos uprn) start)
  parts_just = record {
    item = λ r there fit.
        let version = kept.rows r there in
        let s = item_of r (kind_row k r entry version fit.of_kind) in
        let is_of_kind = of_kind r version s.item s.said k fit.of_kind in
        let blpu : blpu_of s.item ≡ uprn = ap (λ (d : CellsValue). d.links.blpu) s.cells ∙ ap number_in fit.of_blpu in (
          s.item,
          current_holds db kept c r s.item there (ap number_in fit.of_cust) s.said fit.is_current,
          is_of_kind,
          and_from (is_of_blpu k uprn s.item) (is_behind start (key_of s.item))
              (subst (λ (j : Kind). is_of_blpu j uprn s.item ≡ true) is_of_kind (part_of s.item uprn some s.entry blpu))
              (row_behind r version s.item s.said start fit.behind),
        );
    row = λ r x there h passes.
        let version = kept.rows r there in
        let v = own_row r version x h.item in
        let both = and_parts (is_of_blpu k uprn x) (is_behind start (key_of x)) passes in
        let part = part_is k x uprn both.0 in
        record {
          of_cust = whole (table.cust_of r) c v.cust h.cust;
          of_kind = kind_cell r version x h.item k part.0;
          of_blpu = whole (table.blpu_of r) uprn v.blpu (ap (λ (d : CellsValue). d.links.blpu) (sym (said_cells r version x h.item)) ∙ part.1);
          is_current = holds_current db kept c r x there h;
          behind = behind_row r version x h.item start both.1;
        };
  }
