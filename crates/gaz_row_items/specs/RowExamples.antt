-- Worked examples of rows as a store writes them and of others, and of what is told of them.
use Rattle.std.specs.Prelude.{ℕ, pos, codes, List, [], ◌∷◌, Some, None, Result, Ok, Err}
use Rattle.sqlite.specs.Order.{Row, column}
use Rattle.sqlite.specs.declared.types.Value.TheVariants.{Int, Text}
use Rattle.gaz_ids.specs.declared.lang.Lang.TheVariants.{Eng}
use Rattle.gaz_ids.specs.declared.status.Status.TheVariants.{Approved}
use Rattle.gaz_fields.specs.declared.fields.FieldFault.TheVariants as field
use Rattle.gaz_records.specs.Items.{item_text}
use Rattle.gaz_records.specs.declared.item.Item.{Item}
use Rattle.gaz_records.specs.declared.item.Item.TheVariants as item
use Rattle.gaz_records.specs.declared.item.Kind.TheVariants as kind
use Rattle.gaz_records.specs.declared.key.Key.TheVariants as key
use Rattle.gaz_views.specs.Examples.{name, spring}
use Rattle.gaz_tables.specs.Custody.{custody_shown}
use Rattle.gaz_tables.specs.Versions.{body_of, body_shown, life_shown}
use Rattle.gaz_row_items.specs.Addresses.{NamesAddress, ShowsAddress, ShowsFirst}
use Rattle.gaz_row_items.specs.Decoding.{HasBody, HasItemAt, IsTold, IsToldOrMemory, NamesKey}
use Rattle.gaz_row_items.specs.Decoding.{ReadsAt, ShowsItem}
use Rattle.gaz_row_items.specs.Examples.{bare_past, changed, changed_101}
use Rattle.gaz_row_items.specs.Newest.{HasLife, HasNewest, HasStood}
use Rattle.gaz_row_items.specs.NewestPassages.{ShowsPassage}
use Rattle.gaz_row_items.specs.PassageExamples.{taken_row, without_hop}
use Rattle.gaz_row_items.specs.Versions.{IsWhole, values_of}
use Rattle.gaz_row_items.specs.declared.fault.RowFault.{RowFault}
use Rattle.gaz_row_items.specs.declared.fault.RowFault.TheVariants.{Memory, Wrong}
use Rattle.gaz_row_items.specs.declared.fault.WrongRow.{WrongRow}

-- ---- what is told

-- what readers of the first column of a row, of born and gone, answer: that volume 2 stands there,
-- that no store writes such a row, or that memory is lacking
abbrev pub says_2 : Result ℕ WrongRow
says_2 = Ok 2

abbrev pub says_wrong : Result ℕ WrongRow
says_wrong = Err (record {})

abbrev pub lacks_memory : Result ℕ RowFault
lacks_memory = Err Memory

abbrev pub finds_it_wrong : Result ℕ RowFault
finds_it_wrong = Err Wrong

abbrev pub HasBorn : Row → Type 0
HasBorn r = IsWhole (column r 0)

-- a text stands where a volume is to stand
abbrev pub not_born : Row
not_born = Text (codes "2") ∷ Int (pos 4) ∷ []

pub record WorkedFaults : Type 0 where
  pub told : IsTold (HasBorn bare_past) says_2
  pub told_wrong : ¬ IsTold (HasBorn bare_past) says_wrong
  pub is_wrong : IsTold (HasBorn not_born) says_wrong
  pub without_memory : IsToldOrMemory (HasBorn bare_past) lacks_memory
  pub told_as_wrong : ¬ IsToldOrMemory (HasBorn bare_past) finds_it_wrong
  pub is_as_wrong : IsToldOrMemory (HasBorn not_born) finds_it_wrong

-- ---- a row of id and body

-- what street 101 is called in English, and an approved address on it, of house 12
abbrev pub name_row : Row
name_row = Int (pos 7) ∷ values_of 1001 2 1000000 (name 101 Eng)

abbrev pub address : Item
address = item.Lpi (record {
  key = codes "L3";
  uprn = 1001;
  lang = Eng;
  status = Approved;
  usrn = 101;
  secondary = None;
  primary = record {
    range = Some (record { from = record { n = 12; suffix = None }; to = None });
    text = None;
  };
  start = spring;
  end = None;
})

abbrev pub address_row : Row
address_row = Int (pos 8) ∷ values_of 1001 3 1000000 address

-- street 101, as it is shown, and its body under the id of street 102, or under that of no street
abbrev pub street_101 : Row
street_101 = body_shown changed_101

abbrev pub under_102 : Row
under_102 = Text (codes "00000102") ∷ body_of changed_101 ∷ []

abbrev pub under_none : Row
under_none = Text (codes "101") ∷ body_of changed_101 ∷ []

pub record WorkedShown : Type 0 where
  pub names_street : NamesKey kind.Street street_101 0
  pub names_in_english : NamesKey kind.Descriptor (body_shown name_row) 0
  pub too_few_digits : ¬ NamesKey kind.Street under_none 0
  pub no_language : ¬ NamesKey kind.Descriptor street_101 0
  pub body : HasBody (key.Street 101) (item_text changed)
  pub body_of_another : ¬ HasBody (key.Street 102) (item_text changed)
  pub reads : ReadsAt (key.Street 101) (Ok changed)
  pub reads_another : ¬ ReadsAt (key.Street 102) (Ok changed)
  pub reads_none : ¬ ReadsAt (key.Street 101) (Err field.Memory)
  pub has_item : HasItemAt street_101 1 (key.Street 101)
  pub has_another : ¬ HasItemAt street_101 1 (key.Street 102)
  pub no_item : ¬ HasItemAt street_101 2 (key.Street 101)
  pub shows : ShowsItem kind.Street street_101
  pub shows_another : ¬ ShowsItem kind.Street under_102

-- the address alone, of which L4 isn't the key
abbrev pub one_address : List Row
one_address = body_shown address_row ∷ []

pub record WorkedAddresses : Type 0 where
  pub names : NamesAddress (body_shown address_row)
  pub no_text : ¬ NamesAddress bare_past
  pub shows : ShowsAddress one_address (key.Lpi (codes "L3"))
  pub of_another : ¬ ShowsAddress one_address (key.Lpi (codes "L4"))
  pub first : ShowsFirst one_address (key.Lpi (codes "L3") ∷ [])
  pub not_first : ¬ ShowsFirst one_address (key.Lpi (codes "L4") ∷ [])

-- ---- a row of born, gone and more

pub record WorkedLast : Type 0 where
  pub life : HasLife (key.Street 101) (life_shown changed_101)
  pub of_another : ¬ HasLife (key.Street 102) (life_shown changed_101)
  pub newest : HasNewest (key.Street 101) (life_shown changed_101 ∷ [])
  pub no_row : HasNewest (key.Street 101) []
  pub no_body : ¬ HasNewest (key.Street 101) (bare_past ∷ [])
  pub stood : HasStood (bare_past ∷ [])
  pub none_stood : HasStood []
  pub no_number : ¬ HasStood (not_born ∷ [])
  pub passage : ShowsPassage 0 (custody_shown taken_row)
  pub damaged : ¬ ShowsPassage 0 (custody_shown without_hop)

pub record WorkedRows : Type 0 where
  pub on_faults : WorkedFaults
  pub on_shown : WorkedShown
  pub on_addresses : WorkedAddresses
  pub on_last : WorkedLast
