use Rattle.gaz_stored.proofs.Meetings.{with_same}
use Rattle.gaz_stored.proofs.Using.{opened_from, used_opened}
use Rattle.gaz_stored.proofs.attending.serve_opened.Goals as goal

pub returns-in-Ok-clause-attends : goal.returns-in-Ok-clause-attends
returns-in-Ok-clause-attends g c =
    with_same _ _ _ _ _ _ _ (λ met is. used_opened c.args.register c.args.conn _ _ c.in-Ok.store is (opened_from c.args.register c.args.conn c.in-Ok.store c.in-Ok.ensures.lacking c.in-Ok.ensures.opened c.in-Ok.ensures.told c.in-Ok.ensures.judged)) c.attend_over-conn.ensures.attends
