use Rattle.gaz_stored.proofs.Using.{opened_from, used_opened}
use Rattle.gaz_stored.proofs.asking.ask_opened.Goals as goal

pub returns-in-Ok-clause-asks : goal.returns-in-Ok-clause-asks
returns-in-Ok-clause-asks g c =
    used_opened c.args.register c.args.conn _ _ c.in-Ok.store c.ask_over-conn.ensures.asks (opened_from c.args.register c.args.conn c.in-Ok.store c.in-Ok.ensures.lacking c.in-Ok.ensures.opened c.in-Ok.ensures.told c.in-Ok.ensures.judged)
