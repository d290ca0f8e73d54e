use Rattle.std.proofs.Common.{refl}
use Rattle.gaz_tables.specs.Rowids.{FindsFirst}
use Rattle.gaz_tables.specs.Schema.{version2}
use Rattle.gaz_tables.specs.Tables.{rows_of}
use Rattle.gaz_calls.proofs.Composing.{query_asks}
use Rattle.gaz_calls.proofs.tables.Tables.first_rows.Goals as goal

pub returns : goal.returns
returns g c =
    query_asks _ _ _ _ _ _ _ (λ db rows. FindsFirst 512 (rows_of db version2) rows.items)
    c.ready.ensures.asks c.in_ok-ready.ensures.ready
    c.first-found.ensures.asked.found c.first-found.ensures.asked.stays c.first-found.ensures.asked.spared c.first-found.ensures.asked.reason c.first-found.ensures.asked.leaves
    refl refl c.told.ensures.tells
