-- What a page of a street, or of what names a BLPU, tells.
use Rattle.std.specs.Prelude.{◌≡◌, ◌<◌, ◌&&◌, ◌==◌, ℕ, Bool, true, false, not, List, length}
use Rattle.std.specs.Prelude.{Option, None, Some, IsUtf8}
use Rattle.std.specs.List.{list_any}
use Rattle.std.specs.String.{string_bytes}
use Rattle.sqlite.specs.Order.{Row, column}
use Rattle.sqlite.specs.declared.types.Value.TheVariants.{Text}
use Rattle.sqlite_rules.specs.Lists.{Has}
use Rattle.gaz_ids.specs.declared.lang.Lang.{Lang}
use Rattle.gaz_records.specs.declared.item.Item.{Item}
use Rattle.gaz_records.specs.declared.item.Item.TheVariants as item
use Rattle.gaz_records.specs.declared.item.Kind.{Kind}
use Rattle.gaz_records.specs.declared.item.Kind.TheVariants as kind
use Rattle.gaz_records.specs.declared.key.Key.{Key}
use Rattle.gaz_views.specs.View.{View}
use Rattle.gaz_views.specs.Words.{entries, is_approved_on, is_child_of, names}
use Rattle.gaz_cells.specs.Ids.{key_named}
use Rattle.gaz_overlay.specs.Changes.{Changes, is_touched}
use Rattle.gaz_row_items.specs.Decoding.{Each, NamesKey}
use Rattle.gaz_row_items.specs.Versions.{IsText, IsWhole, text_in}
use Rattle.gaz_answers.specs.Paging.{is_behind, says_lang}
use Rattle.gaz_answers.specs.declared.steps.Step.{Step}
use Rattle.gaz_answers.specs.declared.steps.Step.TheVariants.{Told, Behind}

-- ---- what is looked for

-- keys that changes have touched are passed over; without changes none is
abbrev pub leaves : Option Changes → Option Key → Bool
leaves None k = true
leaves (Some c) None = true
leaves (Some c) (Some k) = not (is_touched c k)

-- an approved LPI on the street, in this language where one is given, that isn't passed over
abbrev pub is_left_on : ℕ → Option Lang → Option Changes → Key × Item → Bool
is_left_on usrn lang passed e = is_approved_on usrn lang e.1 && leaves passed (Some e.0)

-- an item of a kind that names the BLPU: a part of it, an LPI or a cross reference
abbrev pub is_of_blpu : Kind → ℕ → Item → Bool
is_of_blpu kind.Blpu uprn x = is_child_of uprn x
is_of_blpu kind.Xref uprn (item.Xref x) = x.uprn == uprn
is_of_blpu kind.Lpi uprn (item.Lpi l) = l.uprn == uprn
is_of_blpu _ _ _ = false

-- one that isn't passed over
abbrev pub is_left_part : Kind → ℕ → Option Changes → Key × Item → Bool
is_left_part kd uprn passed e = is_of_blpu kd uprn e.1 && leaves passed (Some e.0)

-- an LPI or a cross reference of the BLPU that isn't passed over
abbrev pub is_left_tied : ℕ → Option Changes → Key × Item → Bool
is_left_tied uprn passed e = names uprn e.1 && leaves passed (Some e.0)

-- what a row of a street, of id and language, says of it
abbrev pub says_left : Option Lang → Option Changes → Row → Bool
says_left lang passed r =
    says_lang lang r && leaves passed (key_named kind.Lpi (text_in (column r 0)))

-- what a row of a kind, of id, says of it
abbrev pub names_left : Kind → Option Changes → Row → Bool
names_left kd passed r = leaves passed (key_named kd (text_in (column r 0)))

-- a row of a street, of id and language, says both, as a store writes it
pub record ShowsOnStreet (r : Row) : Type 0 where
  pub key : NamesKey kind.Lpi r 0
  pub lang : IsWhole (column r 1)

-- a row of a kind, of id, says it, as a store writes it
abbrev pub ShowsPart : Kind → Row → Type 0
ShowsPart kd r = NamesKey kd r 0

-- ---- how it is looked for

-- a text of UTF-8 stands in the first column of a row
pub record HasId (r : Row) : Type 0 where
  pub text : IsText (column r 0)
  pub utf8 : IsUtf8 (text_in (column r 0))

-- there are rows, and in each stands such a text
pub record HasLastId (rows : List Row) : Type 0 where
  pub some : 0 < length rows
  pub each : Each HasId rows

-- each entry that passes comes behind an id
abbrev pub AreBehind : (Key × Item → Bool) → View → List ℕ → Type 0
AreBehind passes v start =
    (e : Key × Item) → Has (entries v) e → passes e ≡ true → is_behind start e.0 ≡ true

-- a row of id and more has this id
abbrev pub IsIdOf : List Row → List ℕ → Type 0
IsIdOf rows id = (r : Row) × Has rows r × (column r 0 ≡ Text id)

-- what is told of the rows of a page: a row says it, none on a page that isn't full, or none up to
-- the id of one
abbrev pub IsStepOf : ℕ → List Row → (Row → Bool) → Step → Type 0
IsStepOf most rows says (Told true) = list_any says rows ≡ true
IsStepOf most rows says (Told false) = (list_any says rows ≡ false) × (length rows < most)
IsStepOf most rows says (Behind id) = (list_any says rows ≡ false) × IsIdOf rows (string_bytes id)

-- whatever rows say, this step is told of them where one says it or none does
abbrev pub Decides : ℕ → List Row → Bool → Step → Type 0
Decides most rows found step =
    (says : Row → Bool) → found ≡ list_any says rows → IsStepOf most rows says step

-- what is told of the view, of which all that passes comes behind an id
abbrev pub Steps : (Key × Item → Bool) → View → Step → Type 0
Steps passes v (Told found) = found ≡ list_any passes (entries v)
Steps passes v (Behind id) = AreBehind passes v (string_bytes id)

abbrev pub IsStep : (Key × Item → Bool) → View → List ℕ → Step → Type 0
IsStep passes v start step = AreBehind passes v start → Steps passes v step
