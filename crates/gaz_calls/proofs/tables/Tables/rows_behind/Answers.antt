use Rattle.std.proofs.Common.{refl, w64}
use Rattle.std.proofs.lemmas.Int.{to_z-of_z}
use Rattle.gaz_tables.specs.Rowids.{FindsBehind}
use Rattle.gaz_tables.specs.Schema.{version2}
use Rattle.gaz_tables.specs.Tables.{rows_of}
use Rattle.gaz_calls.proofs.Composing.{query_asks}
use Rattle.gaz_calls.proofs.tables.Tables.rows_behind.Goals as goal

pub returns : goal.returns
returns g c =
    query_asks _ _ _ _ _ _ _ (λ db rows. FindsBehind c.args.after 512 (rows_of db version2) rows.items)
    c.ready.ensures.asks c.in_ok-ready.ensures.ready
    (rw (to_z-of_z w64 c.args.after c.ranges.after) at c.behind-found.ensures.asked.found) c.behind-found.ensures.asked.stays c.behind-found.ensures.asked.spared c.behind-found.ensures.asked.reason c.behind-found.ensures.asked.leaves
    refl refl c.told.ensures.tells
