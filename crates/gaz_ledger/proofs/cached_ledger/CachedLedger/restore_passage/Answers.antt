use Rattle.gaz_ledger.proofs.Passages.{known_back}
use Rattle.gaz_ledger.proofs.cached_ledger.CachedLedger.restore_passage.Goals as goal

pub invariant_of-self : goal.invariant_of-self
invariant_of-self c =
    known_back c.restore_passage.result c.self.inside.known c.self.inside.ledger c.restore_passage.new.self c.args.born c.args.uprn c.args.custody c.restore_passage.ensures.ok c.restore_passage.ensures.err c.self.invariant
