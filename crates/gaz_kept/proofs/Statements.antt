-- What an INSERT and an UPDATE make of the histories.
use Rattle.std.proofs.Common.{◌≡◌, ◌≢◌, ◌∙◌, ◌≤◌, ◌==◌, ◌⊎◌, inl, inr, ℕ, pos, Bool, true, false, cond, List, ◌∷◌, refl, sym, ap, subst}
use Rattle.std.specs.Prelude.{Some, None, IsSomeAnd}
use Rattle.std.specs.Result.{result_ok}
use Rattle.sqlite.specs.declared.types.Value.{Value}
use Rattle.sqlite.specs.declared.types.Value.TheVariants.{Int}
use Rattle.sqlite.specs.Order.{Row}
use Rattle.sqlite_rules.specs.Lists.{Has}
use Rattle.gaz_records.proofs.ItemsBack.{text-back}
use Rattle.gaz_records.specs.Items.{is_entry, is_item}
use Rattle.gaz_records.specs.Kinds.{number_of}
use Rattle.gaz_records.specs.declared.item.Item.{Item}
use Rattle.gaz_cells.proofs.CellsBack.{cells_back}
use Rattle.gaz_cells.specs.Columns.{live_of}
use Rattle.gaz_cells.specs.Ids.{id_of, is_key, kind_in}
use Rattle.gaz_cells.specs.Reading.{read_cells}
use Rattle.gaz_overlay.specs.Rows.{HistoryRow}
use Rattle.gaz_tables.specs.Versions as table
use Rattle.gaz_tables.specs.Versions.{Closes, gone_at}
use Rattle.gaz_row_items.specs.Versions.{histories_in, history_in, item_in, living, number_in, passage_in, values_of}
use Rattle.gaz_row_items.proofs.CustodyFollows.{no_passage}
use Rattle.gaz_row_items.proofs.Said.{cells_same, not_another, says}
use Rattle.gaz_row_items.proofs.Unsaid.{passage_none}
use Rattle.gaz_kept.specs.Histories.{ClosesVersion, InsertAdds, StatementsChange, gone_with}
use Rattle.gaz_kept.specs.Kept.{AreVersions, IsCode, IsVersion}
use Rattle.gaz_kept.proofs.RowsRead.{IsBirthOf, birth_of, born_as, fits, gone_history, gone_version, history_of, item_of, item_row, its_custodian, kind_row, not_none, read_from, read_in, same_added, same_changed, some_same}

-- ---- INSERT

pub written_version : (id : Value) (c born gone : ℕ) (x : Item) → IsCode c → is_item x ≡ true → is_entry x ≡ true → 1 ≤ born → born ≤ gone → IsVersion (id ∷ values_of c born gone x)
written_version id c born gone x code known entry first in_turn = inl (record {
  cust = refl;
  custodian = code;
  kind = refl;
  id = refl;
  blpu = refl;
  street = refl;
  lang = refl;
  live = by_test (live_of x == 1);
  body = refl;
  born = refl;
  gone = refl;
  hop = refl;
  item = subst (λ o. IsSomeAnd o (λ y. is_item y ≡ true)) (sym said) known;
  first = first;
  in_turn = in_turn;
})
  where
    by_test : (b : Bool) → Int (cond b (pos 1) (pos 0)) ≡ Int (pos (number_in (Int (cond b (pos 1) (pos 0)))))
    by_test true = refl
    by_test false = refl

    said : item_in (id ∷ values_of c born gone x) ≡ Some x
    said = ap (λ d. result_ok (read_cells d)) (cells_same id c born gone x) ∙ ap result_ok (cells_back x entry (text-back x known))

pub insert_adds : InsertAdds
insert_adds id c born gone x old new code known entry first in_turn all added = record {
  gain = record {
    only = λ y there. let r = read_from (history_in c) new y there in only_here y r.0 r.2 (added.only r.0 r.1);
    there = read_in (history_in c) new row h added.there said;
    kept = λ y there. let r = read_from (history_in c) old y there in read_in (history_in c) new r.0 y (added.kept r.0 r.1) r.2;
  };
  others = λ d other. record {
    only = λ y there. let r = read_from (history_in d) new y there in only_there d other y r.0 r.2 (added.only r.0 r.1);
    kept = λ y there. let r = read_from (history_in d) old y there in read_in (history_in d) new r.0 y (added.kept r.0 r.1) r.2;
  };
  passages = λ d. same_added (passage_in d) row old new added (passage_none d row (no_passage row refl));
  rows = λ r there. is_row r (added.only r there);
}
  where
    row : Row
    row = id ∷ values_of c born gone x

    h : HistoryRow
    h = living born gone x

    said : history_in c row ≡ Some h
    said = says id c born gone x (cells_back x entry (text-back x known))

    only_here : (y : HistoryRow) (r : Row) → history_in c r ≡ Some y → (r ≡ row) ⊎ Has old r → (y ≡ h) ⊎ Has (histories_in old c) y
    only_here y r is (inl same) = inl (some_same y h is (ap (history_in c) same ∙ said))
    only_here y r is (inr was) = inr (read_in (history_in c) old r y was is)

    only_there : (d : ℕ) → d ≢ c → (y : HistoryRow) (r : Row) → history_in d r ≡ Some y → (r ≡ row) ⊎ Has old r → Has (histories_in old d) y
    only_there d other y r is (inl same) = not_none y is (ap (history_in d) same ∙ not_another id c d born gone x (λ e. other (sym e)))
    only_there d other y r is (inr was) = read_in (history_in d) old r y was is

    is_row : (r : Row) → (r ≡ row) ⊎ Has old r → IsVersion r
    is_row r (inl same) = subst IsVersion (sym same) (written_version id c born gone x code known entry first in_turn)
    is_row r (inr was) = all r was

-- ---- UPDATE

-- no two rows of a key are born in one volume
abbrev pub AreOnce : List HistoryRow → Type 0
AreOnce rows = (a b : HistoryRow) → Has rows a → Has rows b → a.key ≡ b.key → a.born ≡ b.born → a ≡ b

module _ (c volume : ℕ) (h : HistoryRow) (old new : List Row) (le : h.born ≤ volume) (all : AreVersions old) (once : AreOnce (histories_in old c))
    (there : Has (histories_in old c) h) (closes : Closes c (number_of (kind_in h.key)) (id_of h.key) h.born volume old new) where
  -- the row of the history
  its : (r : Row) × Has old r × (history_in c r ≡ Some h)
  its = read_from (history_in c) old h there

  is_its_key : is_key h.key ≡ true
  is_its_key =
      let s = item_of its.0 (item_row c its.0 (all its.0 its.1) h its.2) in
      let born = number_in (table.born_of its.0) in
      let same = some_same (living born (number_in (table.gone_of its.0)) s.item) h (history_of c its.0 s (its_custodian c its.0 h its.2)) its.2 in
      subst (λ (z : HistoryRow). is_key z.key ≡ true) same (fits s.item s.known s.entry).key

  its_birth : IsBirthOf c h.key h.born its.0
  its_birth = birth_of c its.0 (all its.0 its.1) h its.2

  -- a row that passes is the history's
  only_its : (r : Row) → Has old r → IsBirthOf c h.key h.born r → history_in c r ≡ Some h
  only_its r was b =
      let z = born_as c h.key h.born r (all r was) is_its_key b in
      z.is ∙ ap Some (once z.row h (read_in (history_in c) old r z.row was z.is) there z.key z.birth)

  closed_now : (r : Row) → Has old r → IsBirthOf c h.key h.born r → history_in c (gone_at volume r) ≡ Some (gone_with volume h)
  closed_now r was b = gone_history c volume r h (all r was) (only_its r was b)

  closed_only : (y : HistoryRow) (r : Row) → history_in c r ≡ Some y
      → (Has old r × ¬ IsBirthOf c h.key h.born r) ⊎ ((s : Row) × Has old s × IsBirthOf c h.key h.born s × (r ≡ gone_at volume s))
      → (Has (histories_in old c) y × (y ≢ h)) ⊎ (y ≡ gone_with volume h)
  closed_only y r is (inl was) = inl (
    read_in (history_in c) old r y was.0 is,
    λ same. was.1 (subst (λ (z : HistoryRow). IsBirthOf c z.key z.born r) same (birth_of c r (all r was.0) y is)),
  )
  closed_only y r is (inr s) = inr (some_same y (gone_with volume h) is (ap (history_in c) s.3 ∙ closed_now s.0 s.1 s.2))

  closed_kept : (y : HistoryRow) → Has (histories_in old c) y → y ≢ h → Has (histories_in new c) y
  closed_kept y was other =
      let r = read_from (history_in c) old y was in
      read_in (history_in c) new r.0 y (closes.kept r.0 r.1 (λ b. other (some_same y h r.2 (only_its r.0 r.1 b)))) r.2

  -- a row of another custodian doesn't pass
  not_passing : (d : ℕ) → d ≢ c → (r : Row) (y : HistoryRow) → history_in d r ≡ Some y → ¬ IsBirthOf c h.key h.born r
  not_passing d other r y is b = other (sym (its_custodian d r y is) ∙ ap number_in b.of_key.of_cust)

  only_there : (d : ℕ) → d ≢ c → (y : HistoryRow) (r : Row) → history_in d r ≡ Some y
      → (Has old r × ¬ IsBirthOf c h.key h.born r) ⊎ ((s : Row) × Has old s × IsBirthOf c h.key h.born s × (r ≡ gone_at volume s))
      → Has (histories_in old d) y
  only_there d other y r is (inl was) = read_in (history_in d) old r y was.0 is
  only_there d other y r is (inr s) = absurd (other (sym (its_custodian d r y is) ∙ ap (λ (t : Row). number_in (table.cust_of t)) s.3 ∙ ap number_in s.2.of_key.of_cust))

  still_rows : (r : Row) → (Has old r × ¬ IsBirthOf c h.key h.born r) ⊎ ((s : Row) × Has old s × IsBirthOf c h.key h.born s × (r ≡ gone_at volume s)) → IsVersion r
  still_rows r (inl was) = all r was.0
  still_rows r (inr s) = subst IsVersion (sym s.3) (gone_version volume s.0 (all s.0 s.1) (subst (λ n. n ≤ volume) (sym (ap number_in s.2.of_born)) le))

  -- a row of the key says of no number what became of it
  no_passages : (d : ℕ) (r : Row) → IsVersion r → IsBirthOf c h.key h.born r → (passage_in d r ≡ None) × (passage_in d (gone_at volume r) ≡ None)
  no_passages d r v b =
      let item = kind_row h.key r v (ap number_in b.of_key.of_kind) in
      (passage_none d r (no_passage r item.hop), passage_none d (gone_at volume r) (no_passage (gone_at volume r) item.hop))

  pub closes_version : ClosesVersion c volume h old new
  closes_version = record {
    close = record {
      only = λ y here. let r = read_from (history_in c) new y here in closed_only y r.0 r.2 (closes.only r.0 r.1);
      there = read_in (history_in c) new (gone_at volume its.0) (gone_with volume h) (closes.done its.0 its.1 its_birth) (closed_now its.0 its.1 its_birth);
      kept = closed_kept;
    };
    others = λ d other. record {
      only = λ y here. let r = read_from (history_in d) new y here in only_there d other y r.0 r.2 (closes.only r.0 r.1);
      kept = λ y was. let r = read_from (history_in d) old y was in read_in (history_in d) new r.0 y (closes.kept r.0 r.1 (not_passing d other r.0 y r.2)) r.2;
    };
    passages = λ d. same_changed (passage_in d) (IsBirthOf c h.key h.born) (gone_at volume) old new closes (λ r was b. no_passages d r (all r was) b);
    rows = λ r here. still_rows r (closes.only r here);
  }

pub statements_change : StatementsChange
statements_change = record { insert = insert_adds; update = λ c volume h old new le all apart. closes_version c volume h old new le all apart.once }
