use Rattle.sqlite.specs.Held.{state}
use Rattle.gaz_sql_facts.proofs.Texts.{spared_inside}
use Rattle.gaz_tables.proofs.VersionWrites.{insert_done}
use Rattle.gaz_tables.proofs.Steps.{done_inside, stays_inside, was_open}
use Rattle.gaz_tables.proofs.versions.insert.Goals as goal

pub returns-clause-added : goal.returns-clause-added
returns-clause-added g c clean has = done_inside g.S.Store c.args.tx.now.conn.now c.execute.new.self.conn.now _ _ c.execute.result _ c.execute.ensures.ended c.execute.ensures.runs _ (λ inside.
    insert_done (state g.S.Store c.args.tx.now.conn.now) (state g.S.Store c.execute.new.self.conn.now) has c.args.cust c.args.kind c.args.id.now c.args.blpu.now c.args.street c.args.lang c.args.live c.args.born c.args.gone c.args.body.now c.args.hop c.execute.result
    (rw (c.params-to_sql.ensures, c.params-to_sql-2.ensures, c.params-to_sql-3.ensures, c.params-to_sql-4.ensures, c.params-to_sql-5.ensures, c.params-to_sql-6.ensures, c.params-to_sql-7.ensures, c.params-to_sql-8.ensures, c.params-to_sql-9.ensures, c.params-to_sql-10.ensures, c.params-to_sql-11.ensures) at (c.execute.ensures.runs clean inside)))

pub returns-clause-spared : goal.returns-clause-spared
returns-clause-spared g c clean inside = spared_inside 0 _ _ (state g.S.Store c.args.tx.now.conn.now) (state g.S.Store c.execute.new.self.conn.now) c.execute.result (c.execute.ensures.runs clean inside)

pub returns-clause-open : goal.returns-clause-open
returns-clause-open g c = was_open g.S.Store c.args.tx.now.conn.now c.execute.new.self.conn.now _ _ c.execute.result _ c.execute.ensures.ended c.execute.ensures.runs

pub returns-clause-inside : goal.returns-clause-inside
returns-clause-inside g c = stays_inside g.S.Store c.args.tx.now.conn.now c.execute.new.self.conn.now _ _ c.execute.result _ c.execute.ensures.ended c.execute.ensures.runs c.execute.ensures.survives
