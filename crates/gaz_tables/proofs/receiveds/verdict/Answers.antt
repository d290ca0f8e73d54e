use Rattle.sqlite.specs.Held.{state}
use Rattle.gaz_tables.proofs.Queries.{queries}
use Rattle.gaz_tables.proofs.ReceivedMeanings.{volume_found}
use Rattle.gaz_tables.specs.Receiveds.{verdict_shown}
use Rattle.gaz_tables.proofs.ReceivedOnce.{volume_alone}
use Rattle.gaz_tables.proofs.ReceivedQueries.{verdict_anywhere, verdict_suits, verdict_terms}
use Rattle.gaz_tables.specs.Schema.{received}
use Rattle.gaz_tables.proofs.receiveds.verdict.Goals as goal

pub returns-clause-asked : goal.returns-clause-asked
returns-clause-asked g c =
    queries g.S.Store c.args.conn.now c.query_all.new.self received (λ s there. there.receiveds) _ _ _ _ _ _ verdict_anywhere _ c.query_all.result c.query_all.ensures.ok c.query_all.ensures.err c.query_all.ensures.survives (rw (c.params-to_sql.ensures, c.params-to_sql-2.ensures) (verdict_suits c.args.cust c.args.volume)) _
    (λ has answer. volume_found (state g.S.Store c.args.conn.now).now has c.args.cust c.args.volume verdict_terms c.query_all.result (rw (c.params-to_sql.ensures, c.params-to_sql-2.ensures) at answer))

pub returns-clause-one : goal.returns-clause-one
returns-clause-one g c clean has = volume_alone (state g.S.Store c.args.conn.now).now has c.args.cust c.args.volume verdict_shown c.query_all.result ((returns-clause-asked g c).found clean has)
