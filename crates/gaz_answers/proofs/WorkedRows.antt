-- What rows come to on worked examples.
use Rattle.std.proofs.Common.{◌≡◌, ◌≤◌, ◌<◌, pos, true≢false, [], ◌∷◌, inl, inr, refl, sym, subst, arith}
use Rattle.std.specs.Prelude.{codes}
use Rattle.sqlite.specs.declared.types.Value.TheVariants.{Int}
use Rattle.sqlite.specs.Order.{Row}
use Rattle.sqlite_rules.specs.Lists.{Has}
use Rattle.gaz_ids.specs.Numbers.{read_id}
use Rattle.gaz_records.specs.declared.item.Kind.TheVariants as kind
use Rattle.gaz_views.specs.declared.custody.Custody.TheVariants.{Adopted}
use Rattle.gaz_cells.specs.Digits.{digits_in}
use Rattle.gaz_tables.specs.Custody.{listed_shown}
use Rattle.gaz_tables.specs.Versions.{id_shown}
use Rattle.gaz_row_items.specs.Decoding.{NamesKey}
use Rattle.gaz_row_items.specs.Examples.{changed_101}
use Rattle.gaz_row_items.specs.PassageExamples.{taken_row}
use Rattle.gaz_kept.proofs.Examples.{worked_examples_hold}
use Rattle.gaz_kept.proofs.PassageStatements.{written_passage}
use Rattle.gaz_kept.proofs.RowsRead.{of_custodian}
use Rattle.gaz_answers.specs.Lives.{ShowsVersion}
use Rattle.gaz_answers.specs.Streets.{HasId}
use Rattle.gaz_answers.specs.WorkedRows.{WorkedFiles, WorkedNamed, WorkedRows, WorkedVersions, of_nobody, part_row}
use Rattle.gaz_answers.proofs.NamedIds.{has_id}

files_hold : WorkedFiles
files_hold = record {
  rejected = record { state = refl; place = refl; rule = refl; states = omega arith; rules = omega arith };
  waits = record { state = refl; place = refl; rule = refl; states = omega arith; rules = omega arith };
  no_state = λ shows. let few : 7 ≤ 2 = shows.states in absurd (omega arith);
  no_rule = λ shows. let few : 256 ≤ 255 = shows.rules in absurd (omega arith);
  bytes = (codes "sixth", refl);
  text = λ shows. let is = shows.1 in absurd (cc);
  volume = record { volume = 6; said = refl; first = omega arith; last = omega arith };
  no_volume = λ shows. let said = shows.said in let first = shows.first in let none : shows.volume ≡ 0 = cc in absurd (omega (arith, none, first));
  beyond = λ shows. let said = shows.said in let last = shows.last in let many : shows.volume ≡ 1000000 = cc in absurd (omega (arith, many, last));
}

-- ---- addresses and parts

part : NamesKey kind.Blpu (id_shown part_row) 0
unfolding digits_in read_id
part = record { text = refl; named = refl }

part_id : HasId (id_shown part_row)
part_id = has_id kind.Blpu (id_shown part_row) part

each_id : (r : Row) → Has (id_shown part_row ∷ []) r → HasId r
each_id r (inl is) = subst HasId (sym is) part_id
each_id r (inr never) = absurd never

named_hold : WorkedNamed
named_hold = record {
  on_street = record { key = record { text = refl; named = refl }; lang = refl };
  not_in_words = λ shows. let number = shows.lang in absurd (cc);
  part = part;
  no_part = λ names. true≢false (sym names.named);
  last = record { some = omega arith; each = each_id };
  no_last = λ last. let some = last.some in absurd (omega arith);
  no_text = λ has. let text = has.text in absurd (cc);
}

-- ---- rows of `version2`

item : ShowsVersion changed_101
item = record { version = worked_examples_hold.on_tables.version; place = pos 2; rowid = refl }

passage : ShowsVersion taken_row
passage = record {
  version = inr (written_passage (Int (pos 6)) 1001 3 1000000 500 (Adopted 1002 2) (omega arith, omega arith) refl refl (omega arith) (omega arith));
  place = pos 6;
  rowid = refl;
}

number_500 : NamesKey kind.Blpu (listed_shown taken_row) 0
unfolding digits_in read_id
number_500 = record { text = refl; named = refl }

versions_hold : WorkedVersions
versions_hold = record {
  item = item;
  passage = passage;
  with_a_hop = λ shows. worked_examples_hold.on_tables.with_a_hop shows.version;
  no_custodian = λ shows. let last : 10000 ≤ 9999 = (of_custodian of_nobody shows.version).1 in absurd (omega arith);
  nowhere = λ shows. let is = shows.rowid in absurd (cc);
  life = (item, refl);
  no_life = λ life. true≢false (sym life.1);
  passed = record {
    number = number_500;
    passage = record { born = refl; live = refl; other = refl; hop = refl; custody = refl; bare = record { language = refl; body = refl } };
  };
  damaged = λ shows. true≢false (sym shows.passage.custody);
  number = (pos 2, refl);
  no_number = λ has. let is = has.1 in absurd (cc);
  code = (refl, (omega arith, omega arith));
  no_code = λ has. let last : 10000 ≤ 9999 = has.1.1 in absurd (omega arith);
  code_0 = λ has. let first : 1 ≤ 0 = has.1.0 in absurd (omega arith);
  small = (refl, omega arith);
  great = λ small. let low : 256 < 256 = small.1 in absurd (omega arith);
  links = record { blpu = refl; street = refl; lang = (refl, omega arith); live = (refl, omega arith) };
  great_lang = λ links. let low : 256 < 256 = links.lang.1 in absurd (omega arith);
}

pub rows_hold : WorkedRows
rows_hold = record { on_files = files_hold; on_named = named_hold; on_versions = versions_hold }
