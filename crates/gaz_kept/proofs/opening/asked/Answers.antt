use Rattle.std.proofs.Common.{rules}
use Rattle.sqlite.specs.Held.{state}
use Rattle.sqlite.specs.State.{HasCleanDisk}
use Rattle.gaz_kept.proofs.MetaRows.{answered, failed, found}
use Rattle.gaz_kept.proofs.opening.asked.Goals as goal

pub returns-clause-answered : goal.returns-clause-answered
returns-clause-answered g c clean =
    let before : HasCleanDisk (state g.S.Store c.rows-found.new.tx.conn.now) = search rules in
    answered g.S.Store c.args.conn.now c.transaction-tx.result.conn.now c.rows-found.new.tx.conn.now c.transaction-tx.ensures.begun c.rows-found.result (c.rows-found.ensures.answered before)

pub returns-clause-found : goal.returns-clause-found
returns-clause-found g c clean has =
    let before : HasCleanDisk (state g.S.Store c.rows-found.new.tx.conn.now) = search rules in
    found g.S.Store c.args.conn.now c.transaction-tx.result.conn.now c.rows-found.new.tx.conn.now c.transaction-tx.ensures.begun c.rows-found.result (c.rows-found.ensures.answered before) has

pub returns-clause-reason : goal.returns-clause-reason
returns-clause-reason g c clean has =
    let before : HasCleanDisk (state g.S.Store c.rows-found.new.tx.conn.now) = search rules in
    failed g.S.Store c.args.conn.now c.transaction-tx.result.conn.now c.rows-found.new.tx.conn.now _ c.transaction-tx.ensures.begun c.rows-found.result (c.rows-found.ensures.reason before) (search rules) has
