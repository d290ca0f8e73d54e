-- What an INSERT and an UPDATE make of what became of numbers.
use Rattle.std.proofs.Common.{◌≡◌, ◌≢◌, ◌∙◌, ◌≤◌, ◌==◌, ◌⊎◌, inl, inr, ℕ, pos, Bool, true, false, cond, List, ◌∷◌, refl, sym, ap, subst, eq-eqb, eqb-true}
use Rattle.std.specs.Prelude.{Option, Some, None, IsSomeAnd, is_some, option_map}
use Rattle.sqlite.specs.declared.types.Value.{Value}
use Rattle.sqlite.specs.declared.types.Value.TheVariants.{Int, Text}
use Rattle.sqlite.specs.Order.{Row}
use Rattle.sqlite_rules.specs.Lists.{Has}
use Rattle.gaz_records.specs.Blpus.{is_uprn}
use Rattle.gaz_records.specs.Items.{is_item}
use Rattle.gaz_records.specs.declared.item.Item.{Item}
use Rattle.gaz_records.specs.declared.key.Key.TheVariants as key
use Rattle.gaz_views.specs.declared.custody.Custody.{Custody}
use Rattle.gaz_views.specs.declared.custody.Custody.TheVariants.{Adopted, Released}
use Rattle.gaz_cells.proofs.CustodyBack.{custody_back}
use Rattle.gaz_cells.proofs.Ids.{ids_apart}
use Rattle.gaz_cells.specs.Custody.{CustodyValue, custody_in, custody_kind, is_custody, taken_in}
use Rattle.gaz_cells.specs.Ids.{id_of}
use Rattle.gaz_overlay.specs.Passages.{PassageRow}
use Rattle.gaz_tables.specs.Versions as table
use Rattle.gaz_tables.specs.Versions.{Closes, IsOfBirth, gone_at}
use Rattle.gaz_row_items.specs.Versions.{custody_cells_in, history_in, number_in, passage_in, passage_values, passages_in, passing, text_in}
use Rattle.gaz_row_items.proofs.CustodyFollows.{no_item, no_passage}
use Rattle.gaz_row_items.proofs.Unsaid.{history_none, not_owned, passage_none}
use Rattle.gaz_row_items.proofs.PassageSaid.{written_cells, says_passage}
use Rattle.gaz_kept.specs.Judging.{ArePassedLater}
use Rattle.gaz_kept.specs.Kept.{AreVersions, IsCode, IsPassageRow, IsVersion}
use Rattle.gaz_kept.specs.Passages.{ArePassedOnce, EndsPassing, InsertPasses, ended_with}
use Rattle.gaz_kept.proofs.RowsRead.{Tells, gone_version, not_none, passage_kind, read_from, read_in, same_added, same_changed, some_same, tells_of, whole}

-- ---- a row and what became of its number

-- a row that says it is a passage's
pub passage_row : (c : ℕ) (r : Row) → IsVersion r → (p : PassageRow) → passage_in c r ≡ Some p → IsPassageRow r
passage_row c r (inl v) p is = not_none p is (passage_none c r (no_passage r v.hop))
passage_row c r (inr v) p is = v

-- so is one of kind 92
pub kind_passage : (r : Row) → IsVersion r → number_in (table.kind_of r) ≡ 92 → IsPassageRow r
kind_passage r (inl v) kind = absurd (subst (λ (o : Option Item). IsSomeAnd o (λ x. is_item x ≡ true)) (no_item r kind) v.item)
kind_passage r (inr v) kind = v

pub passage_of : (c : ℕ) (r : Row) (s : Tells r) → number_in (table.cust_of r) ≡ c → passage_in c r ≡ Some (passing (number_in (table.born_of r)) (number_in (table.gone_of r)) (s.number, s.custody))
passage_of c r s cust =
    let born = number_in (table.born_of r) in
    let gone = number_in (table.gone_of r) in
    ap (λ b. cond b (option_map (passing born gone) (custody_in (custody_cells_in r))) None) (eq-eqb (number_in (table.cust_of r)) c cust) ∙ ap (option_map (passing born gone)) s.said

pub its_owner : (c : ℕ) (r : Row) (p : PassageRow) → passage_in c r ≡ Some p → number_in (table.cust_of r) ≡ c
its_owner c r p is = by_test (number_in (table.cust_of r) == c) refl is
  where
    by_test : (b : Bool) → (number_in (table.cust_of r) == c) ≡ b → cond b (option_map (passing (number_in (table.born_of r)) (number_in (table.gone_of r))) (custody_in (custody_cells_in r))) None ≡ Some p → number_in (table.cust_of r) ≡ c
    by_test true t e = eqb-true (number_in (table.cust_of r)) c t
    by_test false t e = not_none p e refl

-- ---- a row's columns and its number

abbrev pub IsPassingOf : ℕ → ℕ → ℕ → Row → Type 0
IsPassingOf c uprn born r = IsOfBirth c custody_kind (id_of (key.Blpu uprn)) born r

-- what is known of a row that says what became of a number
pub record Known (c : ℕ) (r : Row) (p : PassageRow) : Type 0 where
  pub birth : IsPassingOf c p.uprn p.born r
  pub number : is_uprn p.uprn ≡ true
  pub such : is_custody p.custody ≡ true
  pub first : 1 ≤ p.born

pub known_of : (c : ℕ) (r : Row) → IsVersion r → (p : PassageRow) → passage_in c r ≡ Some p → Known c r p
known_of c r version p is =
    let v = passage_row c r version p is in
    let s = tells_of r v in
    let cust = its_owner c r p is in
    let same = some_same (passing (number_in (table.born_of r)) (number_in (table.gone_of r)) (s.number, s.custody)) p (passage_of c r s cust) is in
    subst (Known c r) same (record {
      birth = record {
        of_key = record {
          of_cust = whole (table.cust_of r) c v.cust cust;
          of_kind = whole (table.kind_of r) _ v.kind (passage_kind r v);
          of_id = v.id ∙ ap Text (ap (λ (d : CustodyValue). d.cells.id) (sym s.follows.cells));
        };
        of_born = v.born;
      };
      number = s.follows.number;
      such = s.follows.such;
      first = v.first;
    })

-- the row of a birth says what became of that number in that volume
pub record PassedBorn (c uprn born : ℕ) (r : Row) : Type 0 where
  pub row : PassageRow
  pub is : passage_in c r ≡ Some row
  pub of_number : row.uprn ≡ uprn
  pub birth : row.born ≡ born

pub passed_as : (c uprn born : ℕ) (r : Row) → IsVersion r → is_uprn uprn ≡ true → IsPassingOf c uprn born r → PassedBorn c uprn born r
passed_as c uprn born r version is b =
    let v = kind_passage r version (ap number_in b.of_key.of_kind) in
    let s = tells_of r v in
    let id : id_of (key.Blpu s.number) ≡ id_of (key.Blpu uprn) = ap (λ (d : CustodyValue). d.cells.id) s.follows.cells ∙ ap text_in b.of_key.of_id in
    let keys : key.Blpu s.number ≡ key.Blpu uprn = ids_apart (key.Blpu s.number) (key.Blpu uprn) s.follows.number is refl id in
    let same : s.number ≡ uprn = cc in
    record {
      row = passing (number_in (table.born_of r)) (number_in (table.gone_of r)) (s.number, s.custody);
      is = passage_of c r s (ap number_in b.of_key.of_cust);
      of_number = same;
      birth = ap number_in b.of_born;
    }

-- no passage was born before the first volume
pub passed_later : (c : ℕ) (rows : List Row) → AreVersions rows → ArePassedLater (passages_in rows c)
passed_later c rows all p there = let r = read_from (passage_in c) rows p there in (known_of c r.0 (all r.0 r.1) p r.2).first

-- ---- INSERT

pub written_passage : (id : Value) (c born gone uprn : ℕ) (x : Custody) → IsCode c → is_uprn uprn ≡ true → is_custody x ≡ true → 1 ≤ born → born ≤ gone → IsPassageRow (id ∷ passage_values c born gone uprn x)
written_passage id c born gone uprn x code number such first in_turn = record {
  cust = refl;
  custodian = code;
  kind = refl;
  id = refl;
  blpu = refl;
  street = refl;
  lang = refl;
  live = by_live x;
  body = refl;
  born = refl;
  gone = refl;
  hop = refl;
  passage = ap is_some (ap custody_in (written_cells id c born gone uprn x) ∙ custody_back uprn x number such);
  first = first;
  in_turn = in_turn;
}
  where
    by_live : (y : Custody) → Int (cond (taken_in y == 1) (pos 1) (pos 0)) ≡ Int (pos (number_in (Int (cond (taken_in y == 1) (pos 1) (pos 0)))))
    by_live (Released to hop) = refl
    by_live (Adopted from hop) = refl

pub insert_passes : InsertPasses
insert_passes id c born gone uprn x old new code number such first in_turn all added = record {
  gain = record {
    only = λ q there. let r = read_from (passage_in c) new q there in only_here q r.0 r.2 (added.only r.0 r.1);
    there = read_in (passage_in c) new row p added.there said;
    kept = λ q there. let r = read_from (passage_in c) old q there in read_in (passage_in c) new r.0 q (added.kept r.0 r.1) r.2;
  };
  others = λ d other. same_added (passage_in d) row old new added (not_owned d row (λ e. other (sym e)));
  histories = λ d. same_added (history_in d) row old new added (history_none d row (no_item row refl));
  rows = λ r there. is_row r (added.only r there);
}
  where
    row : Row
    row = id ∷ passage_values c born gone uprn x

    p : PassageRow
    p = passing born gone (uprn, x)

    said : passage_in c (id ∷ passage_values c born gone uprn x) ≡ Some (passing born gone (uprn, x))
    said = says_passage id c born gone uprn x number such

    only_here : (q : PassageRow) (r : Row) → passage_in c r ≡ Some q → (r ≡ row) ⊎ Has old r → (q ≡ p) ⊎ Has (passages_in old c) q
    only_here q r is (inl same) = inl (some_same q p is (ap (passage_in c) same ∙ said))
    only_here q r is (inr was) = inr (read_in (passage_in c) old r q was is)

    is_row : (r : Row) → (r ≡ row) ⊎ Has old r → IsVersion r
    is_row r (inl same) = subst IsVersion (sym same) (inr (written_passage id c born gone uprn x code number such first in_turn))
    is_row r (inr was) = all r was

-- ---- UPDATE

module _ (c volume : ℕ) (p : PassageRow) (old new : List Row) (le : p.born ≤ volume) (all : AreVersions old) (once : ArePassedOnce (passages_in old c))
    (there : Has (passages_in old c) p) (closes : Closes c custody_kind (id_of (key.Blpu p.uprn)) p.born volume old new) where
  -- the row of the passage
  its : (r : Row) × Has old r × (passage_in c r ≡ Some p)
  its = read_from (passage_in c) old p there

  its_known : Known c its.0 p
  its_known = known_of c its.0 (all its.0 its.1) p its.2

  -- a row that passes is the passage's
  only_its : (r : Row) → Has old r → IsPassingOf c p.uprn p.born r → passage_in c r ≡ Some p
  only_its r was b =
      let z = passed_as c p.uprn p.born r (all r was) its_known.number b in
      z.is ∙ ap Some (once z.row p (read_in (passage_in c) old r z.row was z.is) there z.of_number z.birth)

  ended_now : (r : Row) → Has old r → IsPassingOf c p.uprn p.born r → passage_in c (gone_at volume r) ≡ Some (ended_with volume p)
  ended_now r was b =
      let v = passage_row c r (all r was) p (only_its r was b) in
      let s = tells_of r v in
      let cust = ap number_in b.of_key.of_cust in
      let born = number_in (table.born_of r) in
      let same = some_same (passing born (number_in (table.gone_of r)) (s.number, s.custody)) p (passage_of c r s cust) (only_its r was b) in
      ap (λ b. cond b (option_map (passing born volume) (custody_in (custody_cells_in r))) None) (eq-eqb (number_in (table.cust_of r)) c cust)
      ∙ ap (option_map (passing born volume)) s.said
      ∙ ap (λ (z : PassageRow). Some (ended_with volume z)) same

  ended_only : (q : PassageRow) (r : Row) → passage_in c r ≡ Some q
      → (Has old r × ¬ IsPassingOf c p.uprn p.born r) ⊎ ((s : Row) × Has old s × IsPassingOf c p.uprn p.born s × (r ≡ gone_at volume s))
      → (Has (passages_in old c) q × (q ≢ p)) ⊎ (q ≡ ended_with volume p)
  ended_only q r is (inl was) = inl (
    read_in (passage_in c) old r q was.0 is,
    λ same. was.1 (subst (λ (z : PassageRow). IsPassingOf c z.uprn z.born r) same (known_of c r (all r was.0) q is).birth),
  )
  ended_only q r is (inr s) = inr (some_same q (ended_with volume p) is (ap (passage_in c) s.3 ∙ ended_now s.0 s.1 s.2))

  ended_kept : (q : PassageRow) → Has (passages_in old c) q → q ≢ p → Has (passages_in new c) q
  ended_kept q was other =
      let r = read_from (passage_in c) old q was in
      read_in (passage_in c) new r.0 q (closes.kept r.0 r.1 (λ b. other (some_same q p r.2 (only_its r.0 r.1 b)))) r.2

  -- of another custodian's numbers, or of items, a row that passes says nothing
  not_other : (d : ℕ) → d ≢ c → (r : Row) → IsPassingOf c p.uprn p.born r → (passage_in d r ≡ None) × (passage_in d (gone_at volume r) ≡ None)
  not_other d other r b =
      let else : number_in (table.cust_of r) ≢ d = λ e. other (sym e ∙ ap number_in b.of_key.of_cust) in
      (not_owned d r else, not_owned d (gone_at volume r) else)

  no_history : (d : ℕ) (r : Row) → IsPassingOf c p.uprn p.born r → (history_in d r ≡ None) × (history_in d (gone_at volume r) ≡ None)
  no_history d r b =
      let kind = ap number_in b.of_key.of_kind in
      (history_none d r (no_item r kind), history_none d (gone_at volume r) (no_item (gone_at volume r) kind))

  still_rows : (r : Row) → (Has old r × ¬ IsPassingOf c p.uprn p.born r) ⊎ ((s : Row) × Has old s × IsPassingOf c p.uprn p.born s × (r ≡ gone_at volume s)) → IsVersion r
  still_rows r (inl was) = all r was.0
  still_rows r (inr s) = subst IsVersion (sym s.3) (gone_version volume s.0 (all s.0 s.1) (subst (λ n. n ≤ volume) (sym (ap number_in s.2.of_born)) le))

  pub ends_passing : EndsPassing c volume p old new
  ends_passing = record {
    ends = record {
      only = λ q here. let r = read_from (passage_in c) new q here in ended_only q r.0 r.2 (closes.only r.0 r.1);
      there = read_in (passage_in c) new (gone_at volume its.0) (ended_with volume p) (closes.done its.0 its.1 its_known.birth) (ended_now its.0 its.1 its_known.birth);
      kept = ended_kept;
    };
    others = λ d other. same_changed (passage_in d) (IsPassingOf c p.uprn p.born) (gone_at volume) old new closes (λ r was b. not_other d other r b);
    histories = λ d. same_changed (history_in d) (IsPassingOf c p.uprn p.born) (gone_at volume) old new closes (λ r was b. no_history d r b);
    rows = λ r here. still_rows r (closes.only r here);
  }
