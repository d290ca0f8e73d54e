-- What a good file says is such as the types of its parts hold.
use Rattle.std.proofs.Common.{◌≡◌, ℕ, true, false, Bool, List, [], ◌∷◌, refl, subst, arith, Some, None, Ok, Err, Option, Result}
use Rattle.std.specs.Prelude.{◌==◌, drop, if◌then◌else◌, length}
use Rattle.std.specs.List.{All, cons_option, enumerate_from, filter_map}
use Rattle.std.proofs.lemmas.Bool.Decides.{nat_tests}
use Rattle.std.proofs.lemmas.List.Elements.{All-cons, All-nil}
use Rattle.gaz_ids.specs.Numbers.{read_code, read_volume}
use Rattle.gaz_rows.specs.Rows.{Fields, rows_of}
use Rattle.gaz_fields.specs.Days.{date_of, is_day}
use Rattle.gaz_fields.specs.declared.fields.FieldFault.{FieldFault}
use Rattle.gaz_fields.proofs.Both.{and-right}
use Rattle.gaz_fields.proofs.ReadFields.{date-known, id-fits}
use Rattle.gaz_records.specs.Items.{is_item, read_item}
use Rattle.gaz_records.specs.declared.item.Item.{Item}
use Rattle.gaz_records.specs.declared.item.Kind.{Kind}
use Rattle.gaz_records.proofs.ReadItems.{reads_items}
use Rattle.gaz_changefile.specs.Contents.{basis_at, basis_from, basis_of, bases_in, change_at, change_from, change_of, changes_in, contents_of, date_in}
use Rattle.gaz_changefile.specs.Files.{IsBasis, IsTyped}
use Rattle.gaz_changefile.specs.Laws.{AreKept, ReadingsAreTyped}
use Rattle.gaz_changefile.specs.Lines.{action_of, field, line_of, profile_named}
use Rattle.gaz_changefile.specs.Rules.{header_rules, is_header, rules_at}
use Rattle.gaz_changefile.specs.declared.action.Action.{Action}
use Rattle.gaz_changefile.specs.declared.change.Basis.{Basis}
use Rattle.gaz_changefile.specs.declared.change.Change.{Change}
use Rattle.gaz_changefile.specs.declared.line.Line.{Line}
use Rattle.gaz_changefile.specs.declared.line.Line.TheVariants as line
use Rattle.gaz_changefile.proofs.Orderly.{good_built, not_false}

-- what holds of each that is given holds of all that are
one_more : {Y : Type 0} (P : Y → Type 0) (o : Option Y) (ys : List Y) → ((y : Y) → o ≡ Some y → P y) → All P ys → All P (cons_option o ys)
one_more P None ys one all = all
one_more P (Some y) ys one all = All-cons P y ys (one y refl) all

all_given : {X Y : Type 0} (P : Y → Type 0) (g : X → Option Y) (xs : List X) → ((x : X) (y : Y) → g x ≡ Some y → P y) → All P (filter_map g xs)
all_given P g [] each = All-nil P
all_given P g (x ∷ xs) each = one_more P (g x) (filter_map g xs) (each x) (all_given P g xs each)

-- ---- changes

change_made : (place : ℕ) (a : Option Action) (kind : Kind) (fields : List (List ℕ)) (r : Result Item FieldFault) → read_item kind fields ≡ r
    → (x : Change) → change_from place a r ≡ Some x → is_item x.item ≡ true
change_made place None kind fields r is x h = cc
change_made place (Some a) kind fields (Err e) is x h = cc
change_made place (Some a) kind fields (Ok i) is x h =
    let made : Change = record { place = place; action = a; item = i } in
    let same : made ≡ x = cc h in
    subst (λ (x : Change). is_item x.item ≡ true) same (reads_items kind fields i is).1

change_typed : (place : ℕ) (row : Fields) (l : Line) (x : Change) → change_of place row l ≡ Some x → is_item x.item ≡ true
change_typed place row (line.Change kind) x h = change_made place (action_of (field row 1)) kind (drop 3 row) (read_item kind (drop 3 row)) refl x h
change_typed place row line.Basis x h = cc
change_typed place row line.Trailer x h = cc
change_typed place row line.Other x h = cc

changes_typed : (profile : ℕ) (rows : List Fields) → All (λ x. is_item x.item ≡ true) (changes_in profile rows)
changes_typed profile rows =
    all_given (λ (x : Change). is_item x.item ≡ true) (change_at profile) (enumerate_from 1 rows) (λ p x h. change_typed p.0 p.1 (line_of profile p.1) x h)

-- ---- bases

basis_made : (code volume : List ℕ) (c v : Option ℕ) → read_code code ≡ c → read_volume volume ≡ v → (b : Basis) → basis_from c v ≡ Some b → IsBasis b
basis_made code volume None v is at b h = cc
basis_made code volume (Some c) None is at b h = cc
basis_made code volume (Some c) (Some v) is at b h =
    let made : Basis = record { custodian = c; volume = v } in
    let same : made ≡ b = cc h in
    let coded = id-fits 4 1 9999 code (Some c) is refl in
    let numbered = id-fits 6 1 999_999 volume (Some v) at refl in
    subst IsBasis same
    (record {
      code_from = grind (arith, nat_tests, coded);
      code_to = grind (arith, nat_tests, coded);
      volume_from = grind (arith, nat_tests, numbered);
      volume_to = grind (arith, nat_tests, numbered);
    })

basis_read : (row : Fields) (counted : Bool) (b : Basis) → (if counted then basis_from (read_code (field row 1)) (read_volume (field row 2)) else None) ≡ Some b → IsBasis b
basis_read row true b h = basis_made (field row 1) (field row 2) _ _ refl refl b h
basis_read row false b h = cc

basis_typed : (row : Fields) (l : Line) (b : Basis) → basis_of row l ≡ Some b → IsBasis b
basis_typed row (line.Change kind) b h = cc
basis_typed row line.Basis b h = basis_read row (length row == 3) b h
basis_typed row line.Trailer b h = cc
basis_typed row line.Other b h = cc

bases_typed : (profile : ℕ) (rows : List Fields) → All IsBasis (bases_in profile rows)
bases_typed profile rows = all_given IsBasis (basis_at profile) rows (λ row b h. basis_typed row (line_of profile row) b h)

-- ---- the date

date_typed : (c v : ℕ) (rows : List Fields) → AreKept (rules_at c v rows 0) → is_day (date_in rows) ≡ true
unfolding rules_at header_rules
date_typed c v [] kept = cc kept.0
date_typed c v (row ∷ rows) kept = date-known (field row 4) (date_of (field row 4)) refl (and-right _ _ (not_false (is_header row) kept.0))

contents_typed : (c v : ℕ) (rows : List Fields) → AreKept (rules_at c v rows 0) → IsTyped (contents_of rows)
unfolding contents_of
contents_typed c v rows kept = record {
  date = date_typed c v rows kept;
  bases = bases_typed (profile_named rows) rows;
  items = changes_typed (profile_named rows) rows;
}

pub readings_are_typed : ReadingsAreTyped
readings_are_typed bytes c v contents e =
    let good = good_built bytes c v contents e in
    rw good.contents_are (contents_typed c v (rows_of bytes) (good.kept 0 (omega arith)))
