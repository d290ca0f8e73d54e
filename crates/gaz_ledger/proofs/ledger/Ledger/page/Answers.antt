use Rattle.std.proofs.Common.{◌∙◌, ap}
use Rattle.gaz_views.specs.View.{View}
use Rattle.gaz_views.specs.Words.{page}
use Rattle.gaz_ledger.proofs.Ledgers.{seen}
use Rattle.gaz_ledger.proofs.ledger.Ledger.page.Goals as goal

pub returns-clause-page : goal.returns-clause-page
returns-clause-page c =
    c.in_ok-page.ensures.page ∙ ap (λ (w : View). page w c.args.kind c.args.after c.args.most) (seen c.self.inside.verdicts.items c.self.inside.histories c.self.inside.custodies c.args.self.now (c.self.invariant.0.within, c.self.invariant.1.within) c.self.view_is c.args.volume)
