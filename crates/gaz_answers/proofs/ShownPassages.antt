-- What queries find of rows of kind 92 is as a store writes it.
use Rattle.std.proofs.Common.{◌≡◌, ◌∙◌, ℕ, pos, true, List, ◌∷◌, refl, sym, ap}
use Rattle.std.specs.Prelude.{is_some}
use Rattle.sqlite.specs.Effect.{Database}
use Rattle.sqlite.specs.Order.{Row}
use Rattle.sqlite.specs.declared.types.Value.{Value}
use Rattle.sqlite.specs.declared.types.Value.TheVariants.{Int, Text}
use Rattle.sqlite_rules.specs.Lists.{Has}
use Rattle.gaz_records.specs.declared.item.Kind.TheVariants as kind
use Rattle.gaz_records.specs.declared.key.Key.TheVariants as key
use Rattle.gaz_cells.proofs.Ids.{ids_back}
use Rattle.gaz_cells.specs.Custody.{CustodyValue, told_in}
use Rattle.gaz_cells.specs.Ids.{key_named}
use Rattle.gaz_tables.specs.Custody.{FindsCustody, FindsCustodyBehind, FindsCustodyUntil, IsCustodyBehind, custody_kind, custody_shown, listed_shown}
use Rattle.gaz_tables.specs.Schema.{version2}
use Rattle.gaz_tables.specs.Tables.{rows_of}
use Rattle.gaz_tables.specs.Versions as table
use Rattle.gaz_tables.specs.Versions.{IsOfKey, IsOfKeyUntil, born_place}
use Rattle.gaz_row_items.specs.Decoding.{Each, NamesKey}
use Rattle.gaz_row_items.specs.NewestPassages.{ShowsPassage}
use Rattle.gaz_row_items.specs.Versions.{number_in}
use Rattle.gaz_kept.specs.Kept.{IsKept, IsPassageRow}
use Rattle.gaz_kept.proofs.NewestPassages.{told_back}
use Rattle.gaz_kept.proofs.PassageStatements.{kind_passage}
use Rattle.gaz_kept.proofs.RowsRead.{Tells, tells_of}
use Rattle.gaz_answers.specs.Passages.{ShowsPassed}
use Rattle.gaz_answers.proofs.ShownRows.{first_shown, greatest_shown}

-- ---- a row

module _ (r : Row) (v : IsPassageRow r) where
  its : Tells r
  its = tells_of r v

  shows : ShowsPassage 0 (custody_shown r)
  shows = record {
    born = v.born;
    live = v.live;
    other = v.street;
    hop = v.hop;
    custody = ap (λ (d : CustodyValue). is_some (told_in d)) (sym its.follows.cells) ∙ ap is_some (told_back its.number its.custody its.follows.such);
    bare = record {
      language = v.lang ∙ ap (λ (d : CustodyValue). Int (pos d.cells.links.lang)) (sym its.follows.cells);
      body = v.body ∙ ap (λ (d : CustodyValue). Text d.cells.body) (sym its.follows.cells);
    };
  }

  names : NamesKey kind.Blpu (listed_shown r) 0
  names = record {
    text = v.id;
    named = ap (λ (d : CustodyValue). is_some (key_named kind.Blpu d.cells.id)) (sym its.follows.cells) ∙ ap is_some (ids_back (key.Blpu its.number) its.follows.number);
  }

-- so it shows it behind a column more
shows_behind : (id : Value) (r : Row) → ShowsPassage 0 r → ShowsPassage 1 (id ∷ r)
shows_behind id r it = record {
  born = it.born;
  live = it.live;
  other = it.other;
  hop = it.hop;
  custody = it.custody;
  bare = record { language = it.bare.language; body = it.bare.body };
}

-- ---- what is found

module _ (db : Database) (kept : IsKept db) (c : ℕ) (id : List ℕ) where
  abbrev rows : List Row
  rows = rows_of db version2

  of_kind : (r : Row) → Has rows r → table.kind_of r ≡ Int (pos custody_kind) → IsPassageRow r
  of_kind r there is = kind_passage r (kept.rows r there) (ap number_in is)

  pub passage_shown : (answer : List Row) → FindsCustody c id rows answer → Each (ShowsPassage 0) answer
  passage_shown = greatest_shown (ShowsPassage 0) (IsOfKey c custody_kind id) born_place custody_shown rows (λ r there fit. shows r (of_kind r there fit.of_kind))

  pub passage_until_shown : (answer : List Row) (volume : ℕ) → FindsCustodyUntil c id volume rows answer → Each (ShowsPassage 0) answer
  passage_until_shown answer volume = greatest_shown (ShowsPassage 0) (IsOfKeyUntil c custody_kind id volume) born_place custody_shown rows (λ r there fit. shows r (of_kind r there fit.of_key.of_kind)) answer

  pub passages_shown : (born most : ℕ) (answer : List Row) → FindsCustodyBehind c id born most rows answer → Each ShowsPassed answer
  passages_shown born most answer found = first_shown ShowsPassed (IsCustodyBehind c id born) listed_shown rows both answer most found.chosen found.picks found.shown
    where
      both : (r : Row) → Has rows r → IsCustodyBehind c id born r → ShowsPassed (listed_shown r)
      both r there fit = let v = of_kind r there fit.of_kind in record { number = names r v; passage = shows_behind (table.id_of r) (custody_shown r) (shows r v) }
