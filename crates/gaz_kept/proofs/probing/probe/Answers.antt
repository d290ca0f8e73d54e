use Rattle.sqlite.specs.Held.{state}
use Rattle.gaz_sql_facts.proofs.Texts.{spared_query}
use Rattle.gaz_kept.proofs.Asked.{fails_by_others, leaves_nothing, stays_open}
use Rattle.gaz_kept.proofs.probing.probe.Goals as goal

pub returns-clause-stays : goal.returns-clause-stays
returns-clause-stays g c clean = stays_open _ (state g.S.Store c.args.conn.now) (state g.S.Store c.query_all.new.self) c.query_all.result (c.query_all.ensures.ok clean)

pub returns-clause-spared : goal.returns-clause-spared
returns-clause-spared g c clean = spared_query _ _ (state g.S.Store c.args.conn.now) (state g.S.Store c.query_all.new.self) c.query_all.result (c.query_all.ensures.err clean)

pub returns-clause-leaves : goal.returns-clause-leaves
returns-clause-leaves g c = leaves_nothing _ (state g.S.Store c.args.conn.now) (state g.S.Store c.query_all.new.self) c.query_all.ensures.survives

pub returns-clause-reason : goal.returns-clause-reason
returns-clause-reason g c clean = fails_by_others (state g.S.Store c.args.conn.now) (state g.S.Store c.query_all.new.self) c.query_all.result (c.query_all.ensures.err clean)
