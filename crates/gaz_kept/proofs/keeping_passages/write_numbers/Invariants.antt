use Rattle.std.proofs.Common.{◌≡◌, ℕ, take}
use Rattle.std.specs.Prelude.{Result, Ok}
use Rattle.sqlite.specs.declared.error.Error.{Error}
use Rattle.gaz_tables.specs.Stores.{StaysInside}
use Rattle.gaz_kept.specs.Keeping.{WritesNumbers, WritesVersions}
use Rattle.gaz_kept.proofs.keeping_passages.write_numbers.Given as goal

abbrev pub invariant-loop-uprn : goal.invariant-loop-uprn
invariant-loop-uprn g l =
    let done : Result ℕ Error = Ok 0 in
    record {
      same : l.tx.conn.ghost_name ≡ l.initial.tx.conn.ghost_name;
      inside : StaysInside g.S.Store l.initial.tx.conn.now l.tx.conn.now done;
      written : WritesVersions g.S.Store l.initial.tx.conn.now l.tx.conn.now done (WritesNumbers l.code l.volume l.changes (take l.uprn-index l.numbers));
    }
