-- Two small tables, on which the worked examples stand: notes, and an archive of them.
use Rattle.std.specs.Prelude.{ℕ, pos, false, List, [], ◌∷◌, codes}
use Rattle.sqlite_catalog.specs.Listing.{automatic}
use Rattle.sqlite_schema.specs.declared.schema.Action.TheVariants.{NoAction}
use Rattle.sqlite_schema.specs.declared.schema.Column.{Column}
use Rattle.sqlite_schema.specs.declared.schema.Index.{Index}
use Rattle.sqlite_schema.specs.declared.schema.Reference.{Reference}
use Rattle.sqlite.specs.declared.types.Value.TheVariants.{Int, Text as Words, Blob as Bytes}
use Rattle.sqlite.specs.Kind.TheVariants.{Integer, Text, Blob}
use Rattle.sqlite.specs.Order.{Row, column}
use Rattle.sqlite.specs.Schema.{Schema}
use Rattle.sqlite.specs.Table.{Table}
use Rattle.gaz_sql_facts.specs.Tables.{required, strict}

-- where the two tables stand
abbrev pub notes : ℕ
notes = 0

abbrev pub archived : ℕ
archived = 2

abbrev pub note_columns : List Column
note_columns = required (codes "shelf") Integer ∷ required (codes "name") Text
    ∷ required (codes "since") Integer ∷ required (codes "body") Blob ∷ []

abbrev pub note : Table
note = strict (codes "note") notes note_columns (1 ∷ 2 ∷ 3 ∷ []) []

abbrev pub archive_columns : List Column
archive_columns = required (codes "shelf") Integer ∷ required (codes "name") Text
    ∷ required (codes "since") Integer ∷ required (codes "body") Blob
    ∷ required (codes "lent") Integer ∷ []

-- a note's columns, and how often it was lent
abbrev pub archive : Table
archive = strict (codes "archive") archived archive_columns (1 ∷ 2 ∷ 3 ∷ []) []

abbrev pub by_day : Index
by_day = record {
  name = codes "by_day";
  tree = 4;
  table = archived;
  columns = 1 ∷ 3 ∷ [];
  order = record { digits = 0 };
  is_unique = false;
}

-- the schema as it grows
abbrev pub note_schema : Schema
note_schema =
    record { tables = note ∷ []; indexes = automatic note 0 (1 ∷ 2 ∷ 3 ∷ []) 1 ∷ []; views = [] }

abbrev pub with_archive : Schema
with_archive = record {
  tables = note ∷ archive ∷ [];
  indexes =
      automatic note 0 (1 ∷ 2 ∷ 3 ∷ []) 1 ∷ automatic archive 0 (1 ∷ 2 ∷ 3 ∷ []) 3 ∷ [];
  views = [];
}

abbrev pub with_by_day : Schema
with_by_day = record {
  tables = note ∷ archive ∷ [];
  indexes =
      automatic note 0 (1 ∷ 2 ∷ 3 ∷ []) 1 ∷ automatic archive 0 (1 ∷ 2 ∷ 3 ∷ []) 3 ∷ by_day ∷ [];
  views = [];
}

-- a table of notes at another tree
abbrev pub moved_note : Table
moved_note = record note { tree = 40 }

-- behind somebody's table, with no index and another's
abbrev pub behind_archive : Schema
behind_archive =
    record { tables = archive ∷ moved_note ∷ []; indexes = by_day ∷ []; views = [] }

-- behind a table that has its name
abbrev pub behind_namesake : Schema
behind_namesake = record behind_archive {
  tables = record archive { name = codes "NOTE" } ∷ moved_note ∷ [];
}

-- a foreign key to the notes, by their own key
abbrev pub to_note : Reference
to_note = record {
  columns = 1 ∷ 2 ∷ 3 ∷ [];
  parent = codes "Note";
  parent_columns = [];
  on_delete = NoAction;
  on_update = NoAction;
  is_deferred = false;
}

abbrev pub under_archive : Schema
under_archive = record behind_archive {
  tables = record archive { references = to_note ∷ [] } ∷ moved_note ∷ [];
}

-- two notes of shelf 7, under the rowids 3 and 9
abbrev pub tea : Row
tea = Int (pos 3) ∷ Int (pos 7) ∷ Words (codes "tea") ∷ Int (pos 1) ∷ Bytes (codes "hot") ∷ []

abbrev pub ice : Row
ice = Int (pos 9) ∷ Int (pos 7) ∷ Words (codes "ice") ∷ Int (pos 2) ∷ Bytes (codes "cold") ∷ []

-- the same two in the archive, which numbers its rows itself, and one that was there and was lent
abbrev pub old_tea : Row
old_tea = Int (pos 2) ∷ Int (pos 7) ∷ Words (codes "tea") ∷ Int (pos 1) ∷ Bytes (codes "hot")
    ∷ Int (pos 0) ∷ []

abbrev pub old_ice : Row
old_ice = Int (pos 3) ∷ Int (pos 7) ∷ Words (codes "ice") ∷ Int (pos 2) ∷ Bytes (codes "cold")
    ∷ Int (pos 0) ∷ []

abbrev pub lent_jam : Row
lent_jam = Int (pos 1) ∷ Int (pos 8) ∷ Words (codes "jam") ∷ Int (pos 1) ∷ Bytes (codes "red")
    ∷ Int (pos 4) ∷ []

-- a note's values, never lent
abbrev pub never_lent : Row → Row
never_lent r = column r 1 ∷ column r 2 ∷ column r 3 ∷ column r 4 ∷ Int (pos 0) ∷ []

-- the tea once more, under another rowid
abbrev pub tea_again : Row
tea_again = Int (pos 4) ∷ never_lent tea

abbrev pub two_notes : List Row
two_notes = tea ∷ ice ∷ []
