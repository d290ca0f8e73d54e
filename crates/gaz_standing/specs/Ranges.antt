-- Where a page ends in the order of keys.
use Rattle.std.specs.Prelude.{nat_lt, Bool}
use Rattle.gaz_records.specs.Keys.{kind_number}
use Rattle.gaz_records.specs.Kinds.{number_of}
use Rattle.gaz_records.specs.declared.item.Kind.{Kind}
use Rattle.gaz_records.specs.declared.key.Key.{Key}

-- a key, and so each one after it, is of a later kind
abbrev pub is_past : Kind → Key → Bool
is_past kind k = nat_lt (number_of kind) (kind_number k)
