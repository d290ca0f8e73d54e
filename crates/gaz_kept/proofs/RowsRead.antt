-- What a row of the table says of an item, a key or a number, and what is read off a list of rows.
use Rattle.std.proofs.Common.{◌≡◌, ◌≢◌, ◌∙◌, ◌≤◌, ◌==◌, ◌⊎◌, inl, inr, ℕ, pos, Bool, true, false, cond, List, [], ◌∷◌, refl, sym, ap, subst, arith, eq-eqb, ne_eqb, eqb-true, true≢false}
use Rattle.std.specs.Prelude.{Option, Some, None, Ok, Err, Result, IsSomeAnd, is_some, option_map}
use Rattle.std.specs.Result.{result_ok}
use Rattle.std.specs.List.{cons_option, filter_map, find}
use Rattle.sqlite.specs.declared.types.Value.{Value}
use Rattle.sqlite.specs.declared.types.Value.TheVariants.{Int, Text}
use Rattle.sqlite.specs.Order.{Row}
use Rattle.sqlite_rules.specs.Lists.{Has}
use Rattle.gaz_records.proofs.ItemsBack.{fields-back, text-back}
use Rattle.gaz_records.specs.Items.{ItemsReadBack, is_entry, is_item}
use Rattle.gaz_records.specs.Keys.{key_of}
use Rattle.gaz_records.specs.Kinds.{kinds, number_of}
use Rattle.gaz_records.specs.declared.item.Item.{Item}
use Rattle.gaz_records.specs.declared.item.Kind.{Kind}
use Rattle.gaz_records.specs.declared.item.Kind.TheVariants as kind
use Rattle.gaz_records.specs.declared.key.Key.{Key}
use Rattle.gaz_records.specs.declared.key.Key.TheVariants as key
use Rattle.gaz_cells.proofs.CellsBack.{cells_fit, cells_follow, cells_say_entries}
use Rattle.gaz_cells.proofs.Ids.{ids_apart}
use Rattle.gaz_views.specs.declared.custody.Custody.{Custody}
use Rattle.gaz_cells.specs.Columns.{CellsValue, cells_of}
use Rattle.gaz_cells.specs.Custody.{CustodyValue, custody_in}
use Rattle.gaz_cells.specs.Ids.{id_of, is_key, kind_in}
use Rattle.gaz_cells.specs.Laws.{CellsFit}
use Rattle.gaz_cells.specs.Reading.{read_cells}
use Rattle.gaz_cells.specs.declared.fault.CellFault.{CellFault}
use Rattle.gaz_overlay.specs.Rows.{HistoryRow}
use Rattle.gaz_sql_facts.specs.Changes.{IsAdded, IsChanged}
use Rattle.gaz_tables.specs.Versions as table
use Rattle.gaz_tables.specs.Versions.{IsOfBirth, gone_at}
use Rattle.gaz_row_items.specs.Versions.{cells_in, custody_cells_in, histories_in, history_in, item_in, living, number_in, text_in}
use Rattle.gaz_row_items.proofs.CustodyFollows.{CustodyFollows, custody_follows, no_item}
use Rattle.gaz_row_items.proofs.Unsaid.{history_none}
use Rattle.gaz_kept.specs.Histories.{AreSame, gone_with}
use Rattle.gaz_kept.specs.Judging.{AreBornLater}
use Rattle.gaz_kept.specs.Kept.{AreVersions, IsCode, IsItemRow, IsPassageRow, IsVersion}

-- ---- lists that are read

module _ {X Y : Type 0} (f : X → Option Y) where
  pub read_from : (xs : List X) (y : Y) → Has (filter_map f xs) y → (x : X) × Has xs x × (f x ≡ Some y)
  read_from [] y h = absurd h
  read_from (x ∷ xs) y h = by_read (read_from xs y) (f x) refl h
    where
      later : ((z : X) × Has xs z × (f z ≡ Some y)) → (z : X) × Has (x ∷ xs) z × (f z ≡ Some y)
      later z = (z.0, inr z.1, z.2)

      by_read : (Has (filter_map f xs) y → (z : X) × Has xs z × (f z ≡ Some y)) → (o : Option Y) → f x ≡ o → Has (cons_option o (filter_map f xs)) y → (z : X) × Has (x ∷ xs) z × (f z ≡ Some y)
      by_read behind None is h = later (behind h)
      by_read behind (Some z) is (inl same) = (x, inl refl, is ∙ ap Some (sym same))
      by_read behind (Some z) is (inr h) = later (behind h)

  pub read_in : (xs : List X) (x : X) (y : Y) → Has xs x → f x ≡ Some y → Has (filter_map f xs) y
  read_in [] x y h is = absurd h
  read_in (z ∷ xs) x y (inl same) is = subst (λ o. Has (cons_option o (filter_map f xs)) y) (sym (ap f (sym same) ∙ is)) (inl refl)
  read_in (z ∷ xs) x y (inr later) is = by_read (read_in xs x y later is) (f z)
    where
      by_read : Has (filter_map f xs) y → (o : Option Y) → Has (cons_option o (filter_map f xs)) y
      by_read h None = h
      by_read h (Some w) = inr h

pub some_same : {X : Type 0} {o : Option X} (x y : X) → o ≡ Some x → o ≡ Some y → x ≡ y
some_same x y a b = let e : Some x ≡ Some y = sym a ∙ b in cc

pub not_none : {X A : Type 0} {o : Option X} (x : X) → o ≡ Some x → o ≡ None → A
not_none x some none = let e : None ≡ Some x = sym none ∙ some in absurd (cc)

-- where a row comes that isn't read, the same are read
pub same_added : {Y : Type 0} (f : Row → Option Y) (row : Row) (old new : List Row) → IsAdded row old new → f row ≡ None → AreSame (filter_map f old) (filter_map f new)
same_added {Y} f row old new added none = record {
  only = λ y there. let r = read_from f new y there in by_origin y r.0 r.2 (added.only r.0 r.1);
  kept = λ y there. let r = read_from f old y there in read_in f new r.0 y (added.kept r.0 r.1) r.2;
}
  where
    by_origin : (y : Y) (r : Row) → f r ≡ Some y → (r ≡ row) ⊎ Has old r → Has (filter_map f old) y
    by_origin y r is (inl same) = not_none y is (ap f same ∙ none)
    by_origin y r is (inr was) = read_in f old r y was is

-- where rows change that aren't read
pub same_changed : {Y : Type 0} (f : Row → Option Y) (P : Row → Type 0) (change : Row → Row) (old new : List Row) → IsChanged P change old new
    → ((r : Row) → Has old r → P r → (f r ≡ None) × (f (change r) ≡ None)) → AreSame (filter_map f old) (filter_map f new)
same_changed {Y} f P change old new changed none = record {
  only = λ y there. let r = read_from f new y there in by_origin y r.0 r.2 (changed.only r.0 r.1);
  kept = λ y there. let r = read_from f old y there in read_in f new r.0 y (changed.kept r.0 r.1 (λ passes. not_none y r.2 (none r.0 r.1 passes).0)) r.2;
}
  where
    by_origin : (y : Y) (r : Row) → f r ≡ Some y → (Has old r × ¬ P r) ⊎ ((s : Row) × Has old s × P s × (r ≡ change s)) → Has (filter_map f old) y
    by_origin y r is (inl was) = read_in f old r y was.0 is
    by_origin y r is (inr s) = not_none y is (ap f s.3 ∙ (none s.0 s.1 s.2).1)

-- ---- a row's custodian

-- each row is of one
pub of_custodian : (r : Row) → IsVersion r → IsCode (number_in (table.cust_of r))
of_custodian r (inl v) = v.custodian
of_custodian r (inr v) = v.custodian

-- ---- a row of kind 92

-- what a row says became of a number
pub record Tells (r : Row) : Type 0 where
  pub number : ℕ
  pub custody : Custody
  pub said : custody_in (custody_cells_in r) ≡ Some (number, custody)
  pub follows : CustodyFollows (custody_cells_in r) number custody

pub tells_of : (r : Row) → IsPassageRow r → Tells r
tells_of r v = by_answer (custody_in (custody_cells_in r)) refl v.passage
  where
    by_answer : (o : Option (ℕ × Custody)) → custody_in (custody_cells_in r) ≡ o → is_some o ≡ true → Tells r
    by_answer None is some = absurd (true≢false (sym some))
    by_answer (Some x) is some = record { number = x.0; custody = x.1; said = is; follows = custody_follows (custody_cells_in r) x.0 x.1 is }

pub passage_kind : (r : Row) → IsPassageRow r → number_in (table.kind_of r) ≡ 92
passage_kind r v = sym (ap (λ (d : CustodyValue). d.cells.kind) (tells_of r v).follows.cells)

-- a row that says an item is an item's
pub item_row : (c : ℕ) (r : Row) → IsVersion r → (y : HistoryRow) → history_in c r ≡ Some y → IsItemRow r
item_row c r (inl v) y is = v
item_row c r (inr p) y is = not_none y is (history_none c r (no_item r (passage_kind r p)))

-- so is one of a key's kind
pub kind_row : (k : Key) (r : Row) → IsVersion r → number_in (table.kind_of r) ≡ number_of (kind_in k) → IsItemRow r
kind_row k r (inl v) is = v
kind_row k r (inr p) is = absurd (no_key k (sym is ∙ passage_kind r p))
  where
    no_key : (k : Key) → number_of (kind_in k) ≡ 92 → ⊥
    no_key (key.Street n) e = omega (arith, e)
    no_key (key.Descriptor n l) e = omega (arith, e)
    no_key (key.Blpu n) e = omega (arith, e)
    no_key (key.Xref t) e = omega (arith, e)
    no_key (key.Lpi t) e = omega (arith, e)

-- ---- a row and its item

items_read_back : ItemsReadBack
items_read_back x h = (fields-back x h, text-back x h)

pub fits : (x : Item) → is_item x ≡ true → is_entry x ≡ true → CellsFit x
fits x h entry = cells_fit items_read_back x h entry

-- the item of a row
pub record Says (r : Row) : Type 0 where
  pub item : Item
  pub known : is_item item ≡ true
  pub entry : is_entry item ≡ true
  pub said : item_in r ≡ Some item
  pub cells : cells_of item ≡ cells_in r

ok_is : (a : Result Item CellFault) (x : Item) → result_ok a ≡ Some x → a ≡ Ok x
ok_is (Ok y) x e = let same : y ≡ x = cc in ap Ok same
ok_is (Err f) x e = let none : None ≡ Some x = e in absurd (cc)

pub item_of : (r : Row) → IsItemRow r → Says r
item_of r v = by_item (item_in r) refl v.item
  where
    by_item : (o : Option Item) → item_in r ≡ o → IsSomeAnd o (λ x. is_item x ≡ true) → Says r
    by_item None is known = absurd known
    by_item (Some x) is known =
        let read = ok_is (read_cells (cells_in r)) x is in
        record { item = x; known = known; entry = cells_say_entries (cells_in r) x read; said = is; cells = cells_follow (cells_in r) x read }

-- the history of a row
pub history_of : (c : ℕ) (r : Row) (s : Says r) → number_in (table.cust_of r) ≡ c → history_in c r ≡ Some (living (number_in (table.born_of r)) (number_in (table.gone_of r)) s.item)
history_of c r s cust =
    let born = number_in (table.born_of r) in
    let gone = number_in (table.gone_of r) in
    ap (λ b. cond b (option_map (living born gone) (item_in r)) None) (eq-eqb (number_in (table.cust_of r)) c cust) ∙ ap (option_map (living born gone)) s.said

pub its_custodian : (c : ℕ) (r : Row) (y : HistoryRow) → history_in c r ≡ Some y → number_in (table.cust_of r) ≡ c
its_custodian c r y is = by_test (number_in (table.cust_of r) == c) refl is
  where
    by_test : (b : Bool) → (number_in (table.cust_of r) == c) ≡ b → cond b (option_map (living (number_in (table.born_of r)) (number_in (table.gone_of r))) (item_in r)) None ≡ Some y → number_in (table.cust_of r) ≡ c
    by_test true t e = eqb-true (number_in (table.cust_of r)) c t
    by_test false t e = not_none y e refl

pub not_of : (c : ℕ) (r : Row) → number_in (table.cust_of r) ≢ c → history_in c r ≡ None
not_of c r other = ap (λ b. cond b (option_map (living (number_in (table.born_of r)) (number_in (table.gone_of r))) (item_in r)) None) (ne_eqb (number_in (table.cust_of r)) c other)

-- ---- a row's columns and its key

abbrev of_number : ℕ → Option Kind
of_number n = find (λ k. n == number_of k) kinds

numbered : (k : Kind) → of_number (number_of k) ≡ Some k
numbered kind.Street = refl
numbered kind.Descriptor = refl
numbered kind.Blpu = refl
numbered kind.Xref = refl
numbered kind.Lpi = refl
numbered kind.Release = refl
numbered kind.Adopt = refl

pub same_kind : (k l : Kind) → number_of k ≡ number_of l → k ≡ l
same_kind k l e = some_same k l (numbered k) (ap of_number e ∙ numbered l)

abbrev pub IsBirthOf : ℕ → Key → ℕ → Row → Type 0
IsBirthOf c k born r = IsOfBirth c (number_of (kind_in k)) (id_of k) born r

pub whole : (v : Value) (n : ℕ) → v ≡ Int (pos (number_in v)) → number_in v ≡ n → v ≡ Int (pos n)
whole v n is e = is ∙ ap (λ m. Int (pos m)) e

pub birth_of : (c : ℕ) (r : Row) → IsVersion r → (y : HistoryRow) → history_in c r ≡ Some y → IsBirthOf c y.key y.born r
birth_of c r version y is =
    let v = item_row c r version y is in
    let s = item_of r v in
    let fit = fits s.item s.known s.entry in
    let h = some_same (living (number_in (table.born_of r)) (number_in (table.gone_of r)) s.item) y (history_of c r s (its_custodian c r y is)) is in
    let kind : number_in (table.kind_of r) ≡ number_of (kind_in (key_of s.item)) = ap (λ (d : CellsValue). d.kind) (sym s.cells) ∙ ap number_of (sym fit.kind) in
    let id : text_in (table.id_of r) ≡ id_of (key_of s.item) = ap (λ (d : CellsValue). d.id) (sym s.cells) in
    subst (λ (z : HistoryRow). IsBirthOf c z.key z.born r) h (record {
      of_key = record {
        of_cust = whole (table.cust_of r) c v.cust (its_custodian c r y is);
        of_kind = whole (table.kind_of r) _ v.kind kind;
        of_id = v.id ∙ ap Text id;
      };
      of_born = v.born;
    })

-- the row of a birth has the history of that key and birth
pub record Born (c : ℕ) (k : Key) (born : ℕ) (r : Row) : Type 0 where
  pub row : HistoryRow
  pub is : history_in c r ≡ Some row
  pub key : row.key ≡ k
  pub birth : row.born ≡ born

pub born_as : (c : ℕ) (k : Key) (born : ℕ) (r : Row) → IsVersion r → is_key k ≡ true → IsBirthOf c k born r → Born c k born r
born_as c k born r version is b =
    let v = kind_row k r version (ap number_in b.of_key.of_kind) in
    let s = item_of r v in
    let fit = fits s.item s.known s.entry in
    let kind : number_of (kind_in (key_of s.item)) ≡ number_of (kind_in k) = ap number_of fit.kind ∙ ap (λ (d : CellsValue). d.kind) s.cells ∙ ap number_in b.of_key.of_kind in
    let id : id_of (key_of s.item) ≡ id_of k = ap (λ (d : CellsValue). d.id) s.cells ∙ ap text_in b.of_key.of_id in
    record {
      row = living (number_in (table.born_of r)) (number_in (table.gone_of r)) s.item;
      is = history_of c r s (ap number_in b.of_key.of_cust);
      key = ids_apart (key_of s.item) k fit.key is (same_kind _ _ kind) id;
      birth = ap number_in b.of_born;
    }

-- ---- a row that is gone with a volume

pub gone_history : (c volume : ℕ) (r : Row) (y : HistoryRow) → IsVersion r → history_in c r ≡ Some y → history_in c (gone_at volume r) ≡ Some (gone_with volume y)
gone_history c volume r y version is =
    let s = item_of r (item_row c r version y is) in
    let cust = its_custodian c r y is in
    let born = number_in (table.born_of r) in
    let h = some_same (living born (number_in (table.gone_of r)) s.item) y (history_of c r s cust) is in
    ap (λ b. cond b (option_map (living born volume) (item_in r)) None) (eq-eqb (number_in (table.cust_of r)) c cust)
    ∙ ap (option_map (living born volume)) s.said
    ∙ ap (λ (z : HistoryRow). Some (gone_with volume z)) h

pub gone_version : (volume : ℕ) (r : Row) → IsVersion r → number_in (table.born_of r) ≤ volume → IsVersion (gone_at volume r)
gone_version volume r (inr v) le = inr (record {
  cust = v.cust;
  custodian = v.custodian;
  kind = v.kind;
  id = v.id;
  blpu = v.blpu;
  street = v.street;
  lang = v.lang;
  live = v.live;
  body = v.body;
  born = v.born;
  gone = refl;
  hop = v.hop;
  passage = v.passage;
  first = v.first;
  in_turn = le;
})
gone_version volume r (inl v) le = inl (record {
  cust = v.cust;
  custodian = v.custodian;
  kind = v.kind;
  id = v.id;
  blpu = v.blpu;
  street = v.street;
  lang = v.lang;
  live = v.live;
  body = v.body;
  born = v.born;
  gone = refl;
  hop = v.hop;
  item = v.item;
  first = v.first;
  in_turn = le;
})

-- no row was born before the first volume
pub born_later : (c : ℕ) (rows : List Row) → AreVersions rows → AreBornLater (histories_in rows c)
born_later c rows all y there =
    let r = read_from (history_in c) rows y there in
    let birth : number_in (table.born_of r.0) ≡ y.born = ap number_in (birth_of c r.0 (all r.0 r.1) y r.2).of_born in
    subst (λ n. 1 ≤ n) birth (item_row c r.0 (all r.0 r.1) y r.2).first
