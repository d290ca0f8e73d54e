use Rattle.std.proofs.Common.{rules}
use Rattle.gaz_tables.proofs.Steps.{leaves_the_commit}
use Rattle.gaz_kept.proofs.Writes.{keeps, may_keep}
use Rattle.gaz_kept.proofs.keeping.keep.Goals as goal

pub returns-clause-kept : goal.returns-clause-kept
returns-clause-kept g c clean it =
    let fact =
    keeps g.S.Store c.args.conn.now c.transaction-tx.result.conn.now c.write_volume.new.tx.conn.now _ c.args.code c.args.volume c.args.changes.now c.transaction-tx.ensures.begun
    c.in_ok-write_volume.ensures.written c.in_ok-write_volume.ensures.inside _ c.commit.result c.commit.ensures.survives c.commit.ensures.ok
    in
    search (rules, fact)

pub returns-clause-leaves : goal.returns-clause-leaves
returns-clause-leaves g c it =
    let fact =
    may_keep g.S.Store c.args.conn.now c.transaction-tx.result.conn.now c.write_volume.new.tx.conn.now _ c.args.code c.args.volume c.args.changes.now c.transaction-tx.ensures.begun
    c.in_ok-write_volume.ensures.written c.in_ok-write_volume.ensures.inside _ c.commit.result c.commit.ensures.survives it
    in
    search (rules, fact)

pub returns-clause-certain : goal.returns-clause-certain
returns-clause-certain g c = leaves_the_commit g.S.Store _ g.met.S.Store.settled c.commit.result
