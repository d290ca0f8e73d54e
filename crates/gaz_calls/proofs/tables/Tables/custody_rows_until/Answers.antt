use Rattle.std.proofs.Common.{refl}
use Rattle.gaz_tables.specs.Custody.{FindsCustodyUntil}
use Rattle.gaz_tables.specs.Schema.{version2}
use Rattle.gaz_tables.specs.Tables.{rows_of}
use Rattle.gaz_calls.proofs.Composing.{query_asks}
use Rattle.gaz_calls.proofs.tables.Tables.custody_rows_until.Goals as goal

pub returns : goal.returns
returns g c =
    query_asks _ _ _ _ _ _ _ (λ db rows. FindsCustodyUntil c.args.code c.args.id.now c.args.volume (rows_of db version2) rows.items)
    c.ready.ensures.asks c.in_ok-ready.ensures.ready
    (rw c.number-cust.ensures.value at c.newest_until-found.ensures.asked.found) c.newest_until-found.ensures.asked.stays c.newest_until-found.ensures.asked.spared c.newest_until-found.ensures.asked.reason c.newest_until-found.ensures.asked.leaves
    refl refl c.told.ensures.tells
