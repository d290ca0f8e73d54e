use Rattle.gaz_ledger.proofs.Lives.{free_over}
use Rattle.gaz_ledger.proofs.ledger.Ledger.is_free.Goals as goal

pub returns : goal.returns
returns c =
    let two = free_over c.self.inside.verdicts.items c.self.inside.histories c.self.inside.custodies c.args.self.now c.args.key.now c.args.born (c.self.invariant.0.within, c.self.invariant.1.within) c.self.view_is in
    ((λ yes. two.0 (c.is_over_by.ensures.0 yes)), (λ free. c.is_over_by.ensures.1 (two.1 free)))
