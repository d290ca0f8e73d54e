-- The texts by which tables name the keys of a kind.
use Rattle.std.specs.Prelude.{ℕ, ◌==◌, Bool, List, ◌++◌, length, take, drop}
use Rattle.std.specs.Prelude.{Option, Some, None, option_map, if◌then◌else◌}
use Rattle.std.specs.Result.{result_ok}
use Rattle.gaz_ids.specs.Codes.{lang_of, lang_text}
use Rattle.gaz_ids.specs.Limits.{last_uprn, last_usrn}
use Rattle.gaz_ids.specs.Numbers.{read_id}
use Rattle.gaz_ids.specs.declared.lang.Lang.{Lang}
use Rattle.gaz_fields.specs.Labels.{is_label, label_of}
use Rattle.gaz_records.specs.Blpus.{is_uprn}
use Rattle.gaz_records.specs.Streets.{is_usrn}
use Rattle.gaz_records.specs.declared.item.Kind.{Kind}
use Rattle.gaz_records.specs.declared.item.Kind.TheVariants as kind
use Rattle.gaz_records.specs.declared.key.Key.{Key}
use Rattle.gaz_records.specs.declared.key.Key.TheVariants as key
use Rattle.gaz_cells.specs.Digits.{digits_in}

-- a USRN in 8 digits, that and its language, a UPRN in 12 digits, or the key itself
abbrev pub id_of : Key → List ℕ
id_of (key.Street n) = digits_in 8 n
id_of (key.Descriptor n l) = digits_in 8 n ++ lang_text l
id_of (key.Blpu n) = digits_in 12 n
id_of (key.Xref t) = t
id_of (key.Lpi t) = t

-- the kind of a key
abbrev pub kind_in : Key → Kind
kind_in (key.Street n) = kind.Street
kind_in (key.Descriptor n l) = kind.Descriptor
kind_in (key.Blpu n) = kind.Blpu
kind_in (key.Xref t) = kind.Xref
kind_in (key.Lpi t) = kind.Lpi

-- its number or its text is one that a key may have
abbrev pub is_key : Key → Bool
is_key (key.Street n) = is_usrn n
is_key (key.Descriptor n l) = is_usrn n
is_key (key.Blpu n) = is_uprn n
is_key (key.Xref t) = is_label 14 t
is_key (key.Lpi t) = is_label 14 t

-- ---- the key that a text names

-- the number, where the text is just so many digits and it is in range
abbrev pub number_in_full : ℕ → ℕ → List ℕ → Option ℕ
number_in_full width high text =
    if length text == width then result_ok (read_id width 1 high text) else None

abbrev pub usrn_in : List ℕ → Option ℕ
usrn_in text = number_in_full 8 last_usrn text

abbrev pub uprn_in : List ℕ → Option ℕ
uprn_in text = number_in_full 12 last_uprn text

-- a street's name in a language, where there are both
abbrev pub name_of : Option ℕ → Option Lang → Option Key
name_of None lang = None
name_of (Some n) None = None
name_of (Some n) (Some l) = Some (key.Descriptor n l)

-- the key of a kind that a text names, or none, as for a release and an adoption, which have no key
-- of their own
abbrev pub key_named : Kind → List ℕ → Option Key
key_named kind.Street id = option_map key.Street (usrn_in id)
key_named kind.Descriptor id =
    if length id == 11 then name_of (usrn_in (take 8 id)) (lang_of (drop 8 id)) else None
key_named kind.Blpu id = option_map key.Blpu (uprn_in id)
key_named kind.Xref id = option_map key.Xref (label_of 14 id)
key_named kind.Lpi id = option_map key.Lpi (label_of 14 id)
key_named kind.Release id = None
key_named kind.Adopt id = None
