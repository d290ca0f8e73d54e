use Rattle.std.proofs.Common.{refl}
use Rattle.gaz_records.specs.Kinds.{number_of}
use Rattle.gaz_tables.specs.Schema.{version2}
use Rattle.gaz_tables.specs.Versions.{FindsNewest}
use Rattle.gaz_tables.specs.Tables.{rows_of}
use Rattle.gaz_calls.proofs.Composing.{query_asks}
use Rattle.gaz_calls.proofs.tables.Tables.newest_rows.Goals as goal

pub returns : goal.returns
returns g c =
    query_asks _ _ _ _ _ _ _ (λ db rows. FindsNewest c.args.code (number_of c.args.kind) c.args.id.now (rows_of db version2) rows.items)
    c.ready.ensures.asks c.in_ok-ready.ensures.ready
    (rw (c.number-cust.ensures.value, c.number-kind.ensures) at c.newest-found.ensures.asked.found) c.newest-found.ensures.asked.stays c.newest-found.ensures.asked.spared c.newest-found.ensures.asked.reason c.newest-found.ensures.asked.leaves
    refl refl c.told.ensures.tells
