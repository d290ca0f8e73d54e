use Rattle.std.proofs.Common.{refl}
use Rattle.gaz_tables.specs.Custody.{FindsCustodyBehind}
use Rattle.gaz_tables.specs.Schema.{version2}
use Rattle.gaz_tables.specs.Tables.{rows_of}
use Rattle.gaz_calls.proofs.Composing.{query_asks}
use Rattle.gaz_calls.proofs.tables.Tables.passage_rows.Goals as goal

pub returns : goal.returns
returns g c =
    query_asks _ _ _ _ _ _ _ (λ db rows. FindsCustodyBehind c.args.code c.args.id.now c.args.born c.args.most (rows_of db version2) rows.items)
    c.ready.ensures.asks c.in_ok-ready.ensures.ready
    (rw c.number-cust.ensures.value at c.behind-found.ensures.asked.found) c.behind-found.ensures.asked.stays c.behind-found.ensures.asked.spared c.behind-found.ensures.asked.reason c.behind-found.ensures.asked.leaves
    refl refl c.told.ensures.tells
