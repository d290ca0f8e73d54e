use Rattle.sqlite.specs.Held.{state}
use Rattle.gaz_tables.proofs.Making.{version_made}
use Rattle.gaz_tables.proofs.Steps.{done_inside, stays_inside}
use Rattle.gaz_tables.proofs.creating.make_version.Goals as goal

pub returns-clause-made : goal.returns-clause-made
returns-clause-made g c clean takes = done_inside g.S.Store c.args.tx.now.conn.now c.execute.new.self.conn.now _ _ c.execute.result _ c.execute.ensures.ended c.execute.ensures.runs _ (λ inside.
    version_made (state g.S.Store c.args.tx.now.conn.now) (state g.S.Store c.execute.new.self.conn.now) c.execute.result takes (c.execute.ensures.runs clean inside))

pub returns-clause-inside : goal.returns-clause-inside
returns-clause-inside g c = stays_inside g.S.Store c.args.tx.now.conn.now c.execute.new.self.conn.now _ _ c.execute.result _ c.execute.ensures.ended c.execute.ensures.runs c.execute.ensures.survives
