use Rattle.sqlite.specs.Held.{state}
use Rattle.gaz_tables.proofs.Queries.{queries}
use Rattle.gaz_tables.proofs.VersionMeanings.{newest_found}
use Rattle.gaz_tables.proofs.VersionQueries.{newest_anywhere, newest_suits}
use Rattle.gaz_tables.specs.Schema.{version2}
use Rattle.gaz_tables.proofs.versions.newest.Goals as goal

pub returns-clause-asked : goal.returns-clause-asked
returns-clause-asked g c =
    queries g.S.Store c.args.conn.now c.query_all.new.self version2 (λ s there. there.versions) _ _ _ _ _ _ newest_anywhere _ c.query_all.result c.query_all.ensures.ok c.query_all.ensures.err c.query_all.ensures.survives (rw (c.params-to_sql.ensures, c.params-to_sql-2.ensures, c.params-to_sql-3.ensures) (newest_suits c.args.cust c.args.kind c.args.id.now)) _
    (λ has answer. newest_found (state g.S.Store c.args.conn.now).now has c.args.cust c.args.kind c.args.id.now c.query_all.result (rw (c.params-to_sql.ensures, c.params-to_sql-2.ensures, c.params-to_sql-3.ensures) at answer))
