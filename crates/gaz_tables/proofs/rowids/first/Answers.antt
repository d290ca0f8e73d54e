use Rattle.sqlite.specs.Held.{state}
use Rattle.gaz_tables.proofs.Queries.{queries}
use Rattle.gaz_tables.proofs.RowidMeanings.{first_found}
use Rattle.gaz_tables.proofs.RowidQueries.{first_anywhere, first_suits}
use Rattle.gaz_tables.specs.Schema.{version2}
use Rattle.gaz_tables.proofs.rowids.first.Goals as goal

pub returns-clause-asked : goal.returns-clause-asked
returns-clause-asked g c =
    queries g.S.Store c.args.conn.now c.query_all.new.self version2 (λ s there. there.versions) _ _ _ _ _ _ first_anywhere _ c.query_all.result c.query_all.ensures.ok c.query_all.ensures.err c.query_all.ensures.survives (rw (c.params-to_sql.ensures) (first_suits c.args.most)) _
    (λ has answer. first_found (state g.S.Store c.args.conn.now).now has c.args.most c.query_all.result (rw (c.params-to_sql.ensures) at answer))
