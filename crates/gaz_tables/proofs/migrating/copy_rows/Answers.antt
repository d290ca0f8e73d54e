use Rattle.sqlite.specs.Held.{state}
use Rattle.gaz_tables.proofs.Moving.{copy_done}
use Rattle.gaz_tables.proofs.Steps.{done_inside, stays_inside}
use Rattle.gaz_tables.proofs.migrating.copy_rows.Goals as goal

pub returns-clause-copied : goal.returns-clause-copied
returns-clause-copied g c clean has = done_inside g.S.Store c.args.tx.now.conn.now c.execute.new.self.conn.now _ _ c.execute.result _ c.execute.ensures.ended c.execute.ensures.runs _ (λ inside.
    copy_done (state g.S.Store c.args.tx.now.conn.now) (state g.S.Store c.execute.new.self.conn.now) has c.execute.result (c.execute.ensures.runs clean inside))

pub returns-clause-inside : goal.returns-clause-inside
returns-clause-inside g c = stays_inside g.S.Store c.args.tx.now.conn.now c.execute.new.self.conn.now _ _ c.execute.result _ c.execute.ensures.ended c.execute.ensures.runs c.execute.ensures.survives
