use Rattle.std.proofs.Common.{rules, ◌≡◌, ◌∙◌, length}
use Rattle.gaz_ledger.proofs.Ledgers.{reached_of}
use Rattle.gaz_ledger.proofs.ledger.Ledger.reached.Goals as goal

pub returns-clause-reached : goal.returns-clause-reached
returns-clause-reached c =
    let long : c.len.result ≡ length c.self.inside.verdicts.items = search rules in
    long ∙ reached_of c.self.inside.verdicts.items c.self.inside.histories c.self.inside.custodies c.args.self.now c.self.view_is
