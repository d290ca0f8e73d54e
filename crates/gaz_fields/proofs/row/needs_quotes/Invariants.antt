use Rattle.std.proofs.Common.{◌≡◌, drop}
use Rattle.std.specs.List.{list_any}
use Rattle.csv.specs.Writing.{default_writer, needs_byte}
use Rattle.gaz_fields.proofs.row.needs_quotes.Given as goal

abbrev pub invariant-loop-byte : goal.invariant-loop-byte
invariant-loop-byte l = list_any (needs_byte default_writer) (drop l.byte-index l.field) ≡ list_any (needs_byte default_writer) l.field
