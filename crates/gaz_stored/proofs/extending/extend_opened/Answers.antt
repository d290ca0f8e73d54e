use Rattle.std.proofs.Common.{sym}
use Rattle.gaz_stored.specs.Using.{IsOpenedFrom}
use Rattle.gaz_stored.proofs.ExtendsOpened.{extends_opened}
use Rattle.gaz_stored.proofs.Using.{opened_from}
use Rattle.gaz_stored.proofs.extending.extend_opened.Goals as goal

pub returns-in-Ok-clause-extends : goal.returns-in-Ok-clause-extends
returns-in-Ok-clause-extends g c =
    let told = c.extend-told.ensures in
    let from : IsOpenedFrom g.S.Store c.args.register c.args.conn c.in-Ok.store =
    opened_from c.args.register c.args.conn c.in-Ok.store c.in-Ok.ensures.lacking c.in-Ok.ensures.opened c.in-Ok.ensures.told c.in-Ok.ensures.judged in
    extends_opened c.args.register c.args.grown c.in-Ok.store c.extend-told.new.self c.args.conn c.extend-told.result from told.keeps told.writes told.told told.spares
    c.into_connection.result (sym c.into_connection.ensures.conn) told.growth
