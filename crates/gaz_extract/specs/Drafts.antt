-- An extract that is being written.
use Rattle.std.specs.Prelude.{ℕ, ◌+◌, ◌-◌, List, ◌++◌, length, None}
use Rattle.csv.specs.Writing.{default_writer, row_text}
use Rattle.gaz_records.specs.declared.item.Item.{Item}
use Rattle.gaz_records.specs.declared.item.Kind.TheVariants as kind
use Rattle.gaz_rows.specs.Rows.{lines_of}
use Rattle.gaz_views.specs.View.{View}
use Rattle.gaz_views.specs.Words.{rest_of}
use Rattle.gaz_extract.specs.Extracts.{header, records_from, trailer}

-- a draft: the text so far, and the order of the next record
pub record DraftValue : Type 0 where
  pub text : List ℕ
  pub next : ℕ

-- the draft with the records of these items
abbrev pub with_items : DraftValue → List Item → DraftValue
with_items draft items = record {
  text = draft.text ++ lines_of (records_from draft.next items);
  next = draft.next + length items;
}

-- a draft with the header alone
abbrev pub begun_draft : ℕ → ℕ → DraftValue
begun_draft c volume = record { text = row_text default_writer (header c volume); next = 1 }

-- a draft's text with the trailer, which counts the records
abbrev pub ended_text : DraftValue → List ℕ
ended_text draft = draft.text ++ row_text default_writer (trailer (draft.next - 1))

-- the items of a view kind by kind
abbrev pub by_kind : View → List Item
by_kind v =
    rest_of v kind.Street None
    ++ (rest_of v kind.Descriptor None
    ++ (rest_of v kind.Blpu None
    ++ (rest_of v kind.Xref None
    ++ rest_of v kind.Lpi None)))
