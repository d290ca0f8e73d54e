-- What rows of kind 92 say, number by number.
use Rattle.std.specs.Prelude.{◌≡◌, ⊤, ℕ, min, true, List, [], ◌∷◌, Option, Some, None}
use Rattle.sqlite.specs.Order.{Row, column}
use Rattle.gaz_ids.specs.Limits.{last_volume}
use Rattle.gaz_records.specs.declared.key.Key.TheVariants as key
use Rattle.gaz_records.specs.declared.item.Kind.TheVariants as kind
use Rattle.gaz_cells.specs.Ids.{id_of, is_key, key_named}
use Rattle.gaz_row_items.specs.Decoding.{NamesKey}
use Rattle.gaz_row_items.specs.NewestPassages.{SaysPassed, ShowsPassage}
use Rattle.gaz_row_items.specs.Versions.{text_in}
use Rattle.gaz_loaded.specs.declared.listed.Passage.{Passage}

-- a row of id, born, gone, live, street, hop, lang and body says what became of a number
pub record SaysPassage (r : Row) (x : Passage) : Type 0 where
  pub number : key_named kind.Blpu (text_in (column r 0)) ≡ Some (key.Blpu x.uprn)
  pub passed : SaysPassed 1 r (record { born = x.born; custody = x.custody })

-- such a row says what became of some number, as a store writes it
pub record ShowsPassed (r : Row) : Type 0 where
  pub number : NamesKey kind.Blpu r 0
  pub passage : ShowsPassage 1 r

-- each row says one, and these are they in turn
abbrev pub SayPassages : List Row → List Passage → Type 0
SayPassages [] [] = ⊤
SayPassages [] (x ∷ passages) = ⊥
SayPassages (r ∷ rows) [] = ⊥
SayPassages (r ∷ rows) (x ∷ passages) = SaysPassage r x × SayPassages rows passages

-- the id and the volume behind which the rows stand that come behind a passage; no custodian has a
-- volume behind the last
pub record IsBehindPassage (x : Passage) (id : List ℕ) (born : ℕ) : Type 0 where
  pub known : is_key (key.Blpu x.uprn) ≡ true
  pub named : id ≡ id_of (key.Blpu x.uprn)
  pub capped : born ≡ min x.born last_volume

abbrev pub IsStartOf : Option Passage → List ℕ × ℕ → Type 0
IsStartOf None start = (start.0 ≡ []) × (start.1 ≡ 0)
IsStartOf (Some x) start = IsBehindPassage x start.0 start.1
