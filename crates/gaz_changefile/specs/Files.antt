-- What a good file of a custodian holds beside its items.
use Rattle.std.specs.Prelude.{◌≡◌, ◌≢◌, ◌≤◌, ℕ, ◌+◌, List, length, map, true}
use Rattle.std.specs.List.{All, range_with_len}
use Rattle.std.specs.List.Sorted.{IsStrictlyIncreasing}
use Rattle.gaz_ids.specs.Limits.{last_code, last_volume, most_bases, most_changes}
use Rattle.gaz_fields.specs.Days.{is_day}
use Rattle.gaz_records.specs.Items.{is_item}
use Rattle.gaz_changefile.specs.Contents.{Contents}
use Rattle.gaz_changefile.specs.declared.change.Basis.{Basis}
use Rattle.gaz_changefile.specs.declared.change.Change.{Change}

-- at most 16 bases, by rising custodian, none the own
pub record AreBases (own : ℕ) (bases : List Basis) : Type 0 where
  pub few : length bases ≤ most_bases
  pub rise : IsStrictlyIncreasing (map (λ b. b.custodian) bases)
  pub others : All (λ b. b.custodian ≢ own) bases

-- at most 5,000 changes, each placed by the number of its record: the header is record 1, then come
-- the bases
pub record ArePlaced (bases : List Basis) (changes : List Change) : Type 0 where
  pub few : length changes ≤ most_changes
  pub places : map (λ x. x.place) changes ≡ range_with_len (length bases + 2) (length changes)

-- a code and a volume
pub record IsBasis (b : Basis) : Type 0 where
  pub code_from : 1 ≤ b.custodian
  pub code_to : b.custodian ≤ last_code
  pub volume_from : 1 ≤ b.volume
  pub volume_to : b.volume ≤ last_volume

-- what the types of a file's parts hold: a date that the calendar has, codes and volumes, items
-- that the field table allows
pub record IsTyped (f : Contents) : Type 0 where
  pub date : is_day f.date ≡ true
  pub bases : All IsBasis f.bases
  pub items : All (λ x. is_item x.item ≡ true) f.changes
