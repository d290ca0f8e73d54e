use Rattle.std.proofs.Common.{refl}
use Rattle.sqlite.specs.Held.{state}
use Rattle.gaz_sql_facts.proofs.Texts.{answers, stays, open_query}
use Rattle.gaz_tables.proofs.MetaTexts.{rows_here, rows_found, rows_reason}
use Rattle.gaz_tables.proofs.Steps.{query_keeps}
use Rattle.gaz_tables.proofs.metas.rows.Goals as goal

pub returns-clause-found : goal.returns-clause-found
returns-clause-found g c clean has =
    rows_found (state g.S.Store c.args.tx.now.conn.now).now c.query_all.result
    (answers _ _ _ _ _ _ _ _ (rows_here (state g.S.Store c.args.tx.now.conn.now).now has.there.metas) _ (state g.S.Store c.args.tx.now.conn.now) (state g.S.Store c.query_all.new.self.conn.now) refl c.query_all.result (c.query_all.ensures.ok clean))

pub returns-clause-stays : goal.returns-clause-stays
returns-clause-stays g c clean has =
    stays _ _ _ _ _ _ _ _ (rows_here (state g.S.Store c.args.tx.now.conn.now).now has.there.metas) _ (state g.S.Store c.args.tx.now.conn.now) (state g.S.Store c.query_all.new.self.conn.now) refl c.query_all.result (c.query_all.ensures.ok clean)

pub returns-clause-open : goal.returns-clause-open
returns-clause-open g c clean = open_query _ _ (state g.S.Store c.args.tx.now.conn.now) (state g.S.Store c.query_all.new.self.conn.now) c.query_all.result (c.query_all.ensures.ok clean)

pub returns-clause-reason : goal.returns-clause-reason
returns-clause-reason g c clean has = rows_reason (state g.S.Store c.args.tx.now.conn.now) (state g.S.Store c.query_all.new.self.conn.now) c.query_all.result has.there.metas (c.query_all.ensures.err clean)

pub returns-clause-kept : goal.returns-clause-kept
returns-clause-kept g c clean inside =
    query_keeps _ _ (state g.S.Store c.args.tx.now.conn.now) (state g.S.Store c.query_all.new.self.conn.now) inside c.query_all.result (c.query_all.ensures.ok clean) (c.query_all.ensures.err clean)
