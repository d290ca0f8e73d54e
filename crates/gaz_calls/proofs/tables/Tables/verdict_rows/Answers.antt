use Rattle.std.proofs.Common.{refl}
use Rattle.gaz_tables.specs.Receiveds.{FindsVerdict}
use Rattle.gaz_tables.specs.Schema.{received}
use Rattle.gaz_tables.specs.Tables.{rows_of}
use Rattle.gaz_calls.proofs.Composing.{query_asks}
use Rattle.gaz_calls.proofs.tables.Tables.verdict_rows.Goals as goal

pub returns : goal.returns
returns g c =
    query_asks _ _ _ _ _ _ _ (λ db rows. FindsVerdict c.args.code c.args.volume (rows_of db received) rows.items)
    c.ready.ensures.asks c.in_ok-ready.ensures.ready
    (rw (c.number.ensures.value, c.number-2.ensures.value) at c.verdict-found.ensures.asked.found) c.verdict-found.ensures.asked.stays c.verdict-found.ensures.asked.spared c.verdict-found.ensures.asked.reason c.verdict-found.ensures.asked.leaves
    refl refl c.told.ensures.tells
