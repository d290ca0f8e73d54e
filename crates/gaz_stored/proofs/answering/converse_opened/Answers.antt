use Rattle.gaz_stored.proofs.Using.{opened_from, used_opened}
use Rattle.gaz_stored.proofs.answering.converse_opened.Goals as goal

pub returns-in-Ok-clause-converses : goal.returns-in-Ok-clause-converses
returns-in-Ok-clause-converses g c =
    used_opened c.args.register c.args.conn _ _ c.in-Ok.store c.converse_over-conn.ensures.converses (opened_from c.args.register c.args.conn c.in-Ok.store c.in-Ok.ensures.lacking c.in-Ok.ensures.opened c.in-Ok.ensures.told c.in-Ok.ensures.judged)
