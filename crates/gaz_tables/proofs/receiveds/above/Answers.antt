use Rattle.sqlite.specs.Held.{state}
use Rattle.gaz_tables.proofs.Queries.{queries}
use Rattle.gaz_tables.proofs.ReceivedMeanings.{above_found}
use Rattle.gaz_tables.proofs.ReceivedQueries.{above_anywhere, above_suits}
use Rattle.gaz_tables.specs.Schema.{received}
use Rattle.gaz_tables.proofs.receiveds.above.Goals as goal

pub returns-clause-asked : goal.returns-clause-asked
returns-clause-asked g c =
    queries g.S.Store c.args.conn.now c.query_all.new.self received (λ s there. there.receiveds) _ _ _ _ _ _ above_anywhere _ c.query_all.result c.query_all.ensures.ok c.query_all.ensures.err c.query_all.ensures.survives (rw (c.params-to_sql.ensures, c.params-to_sql-2.ensures, c.params-to_sql-3.ensures) (above_suits c.args.cust c.args.volume c.args.most)) _
    (λ has answer. above_found (state g.S.Store c.args.conn.now).now has c.args.cust c.args.volume c.args.most c.query_all.result (rw (c.params-to_sql.ensures, c.params-to_sql-2.ensures, c.params-to_sql-3.ensures) at answer))
