use Rattle.std.proofs.Common.{refl}
use Rattle.gaz_tables.specs.Receiveds.{FindsAbove}
use Rattle.gaz_tables.specs.Schema.{received}
use Rattle.gaz_tables.specs.Tables.{rows_of}
use Rattle.gaz_calls.proofs.Composing.{query_asks}
use Rattle.gaz_calls.proofs.tables.Tables.rows_above.Goals as goal

pub returns : goal.returns
returns g c =
    query_asks _ _ _ _ _ _ _ (λ db rows. FindsAbove c.args.code c.args.volume c.args.most (rows_of db received) rows.items)
    c.ready.ensures.asks c.in_ok-ready.ensures.ready
    (rw c.number.ensures.value at c.above-found.ensures.asked.found) c.above-found.ensures.asked.stays c.above-found.ensures.asked.spared c.above-found.ensures.asked.reason c.above-found.ensures.asked.leaves
    refl refl c.told.ensures.tells
