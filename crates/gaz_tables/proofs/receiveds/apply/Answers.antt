use Rattle.sqlite.specs.Held.{state}
use Rattle.gaz_sql_facts.proofs.Texts.{spared_inside}
use Rattle.gaz_tables.proofs.ReceivedWrites.{apply_done}
use Rattle.gaz_tables.proofs.Steps.{done_inside, stays_inside, was_open}
use Rattle.gaz_tables.proofs.receiveds.apply.Goals as goal

pub returns-clause-applied : goal.returns-clause-applied
returns-clause-applied g c clean has = done_inside g.S.Store c.args.tx.now.conn.now c.execute.new.self.conn.now _ _ c.execute.result _ c.execute.ensures.ended c.execute.ensures.runs _ (λ inside.
    apply_done (state g.S.Store c.args.tx.now.conn.now) (state g.S.Store c.execute.new.self.conn.now) has c.args.cust c.args.volume c.execute.result
    (rw (c.params-to_sql.ensures, c.params-to_sql-2.ensures) at (c.execute.ensures.runs clean inside)))

pub returns-clause-spared : goal.returns-clause-spared
returns-clause-spared g c clean inside = spared_inside 0 _ _ (state g.S.Store c.args.tx.now.conn.now) (state g.S.Store c.execute.new.self.conn.now) c.execute.result (c.execute.ensures.runs clean inside)

pub returns-clause-open : goal.returns-clause-open
returns-clause-open g c = was_open g.S.Store c.args.tx.now.conn.now c.execute.new.self.conn.now _ _ c.execute.result _ c.execute.ensures.ended c.execute.ensures.runs

pub returns-clause-inside : goal.returns-clause-inside
returns-clause-inside g c = stays_inside g.S.Store c.args.tx.now.conn.now c.execute.new.self.conn.now _ _ c.execute.result _ c.execute.ensures.ended c.execute.ensures.runs c.execute.ensures.survives
