use Rattle.sqlite.specs.Held.{state}
use Rattle.gaz_tables.proofs.Queries.{queries}
use Rattle.gaz_tables.proofs.RowidMeanings.{behind_found}
use Rattle.gaz_tables.proofs.RowidQueries.{behind_anywhere, behind_suits}
use Rattle.gaz_tables.specs.Schema.{version2}
use Rattle.gaz_tables.proofs.rowids.behind.Goals as goal

pub returns-clause-asked : goal.returns-clause-asked
returns-clause-asked g c =
    queries g.S.Store c.args.conn.now c.query_all.new.self version2 (λ s there. there.versions) _ _ _ _ _ _ behind_anywhere _ c.query_all.result c.query_all.ensures.ok c.query_all.ensures.err c.query_all.ensures.survives (rw (c.params-to_sql.ensures, c.params-to_sql-2.ensures) (behind_suits c.args.after.now c.args.most)) _
    (λ has answer. behind_found (state g.S.Store c.args.conn.now).now has c.args.after.now c.args.most c.query_all.result (rw (c.params-to_sql.ensures, c.params-to_sql-2.ensures) at answer))
