use Rattle.std.proofs.Common.{refl}
use Rattle.gaz_records.specs.Kinds.{number_of}
use Rattle.gaz_tables.specs.Schema.{version2}
use Rattle.gaz_tables.specs.Versions.{FindsHolding}
use Rattle.gaz_tables.specs.Tables.{rows_of}
use Rattle.gaz_calls.proofs.Composing.{query_asks}
use Rattle.gaz_calls.proofs.tables.Tables.holding.Goals as goal

pub returns : goal.returns
returns g c =
    query_asks _ _ _ _ _ _ _ (λ db rows. FindsHolding c.args.code (number_of c.args.kind) c.args.start.now c.args.volume c.args.most (rows_of db version2) rows.items)
    c.ready.ensures.asks c.in_ok-ready.ensures.ready
    (rw (c.number-cust.ensures.value, c.number-kind.ensures) at c.holding-found.ensures.asked.found) c.holding-found.ensures.asked.stays c.holding-found.ensures.asked.spared c.holding-found.ensures.asked.reason c.holding-found.ensures.asked.leaves
    refl refl c.told.ensures.tells
