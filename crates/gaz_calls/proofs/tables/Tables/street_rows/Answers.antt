use Rattle.std.proofs.Common.{refl}
use Rattle.gaz_tables.specs.Schema.{version2}
use Rattle.gaz_tables.specs.Versions.{FindsApprovedOn}
use Rattle.gaz_tables.specs.Tables.{rows_of}
use Rattle.gaz_calls.proofs.Composing.{query_asks}
use Rattle.gaz_calls.proofs.tables.Tables.street_rows.Goals as goal

pub returns : goal.returns
returns g c =
    query_asks _ _ _ _ _ _ _ (λ db rows. FindsApprovedOn c.args.code c.args.usrn c.args.start.now c.args.most (rows_of db version2) rows.items)
    c.ready.ensures.asks c.in_ok-ready.ensures.ready
    (rw (c.number-cust.ensures.value, c.number-street.ensures.value) at c.approved_on-found.ensures.asked.found) c.approved_on-found.ensures.asked.stays c.approved_on-found.ensures.asked.spared c.approved_on-found.ensures.asked.reason c.approved_on-found.ensures.asked.leaves
    refl refl c.told.ensures.tells
