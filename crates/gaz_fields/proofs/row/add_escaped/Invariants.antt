use Rattle.std.proofs.Common.{◌≡◌, ◌++◌, drop}
use Rattle.csv.specs.Writing.{default_writer, escaped}
use Rattle.gaz_fields.specs.Appending.{Grows}
use Rattle.gaz_fields.proofs.row.add_escaped.Given as goal

abbrev pub invariant-loop-byte : goal.invariant-loop-byte
invariant-loop-byte l = record {
  row : l.out.items ++ escaped default_writer (drop l.byte-index l.field) ≡ l.initial.out.items ++ escaped default_writer l.field;
  kept : Grows l.initial.out.items l.out.items;
}
