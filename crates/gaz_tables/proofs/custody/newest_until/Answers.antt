use Rattle.sqlite.specs.Held.{state}
use Rattle.gaz_tables.proofs.CustodyMeanings.{newest_until_found}
use Rattle.gaz_tables.proofs.CustodyQueries.{newest_until_anywhere, newest_until_suits}
use Rattle.gaz_tables.proofs.Queries.{queries}
use Rattle.gaz_tables.specs.Schema.{version2}
use Rattle.gaz_tables.proofs.custody.newest_until.Goals as goal

pub returns-clause-asked : goal.returns-clause-asked
returns-clause-asked g c =
    queries g.S.Store c.args.conn.now c.query_all.new.self version2 (λ s there. there.versions) _ _ _ _ _ _ newest_until_anywhere _ c.query_all.result c.query_all.ensures.ok c.query_all.ensures.err c.query_all.ensures.survives (rw (c.params-to_sql.ensures, c.params-to_sql-2.ensures, c.params-to_sql-3.ensures) (newest_until_suits c.args.cust c.args.id.now c.args.volume)) _
    (λ has answer. newest_until_found (state g.S.Store c.args.conn.now).now has c.args.cust c.args.id.now c.args.volume c.query_all.result (rw (c.params-to_sql.ensures, c.params-to_sql-2.ensures, c.params-to_sql-3.ensures) at answer))
