use Rattle.std.proofs.Common.{◌∙◌, ap, sym}
use Rattle.std.specs.FinMap as finite
use Rattle.gaz_views.specs.View.{View}
use Rattle.gaz_standing.proofs.KeyHistories.{get_at}
use Rattle.gaz_ledger.proofs.Ledgers.{seen}
use Rattle.gaz_ledger.proofs.ledger.Ledger.item.Goals as goal

pub returns : goal.returns
returns c =
    c.item.ensures ∙ sym (get_at c.self.inside.histories c.args.volume c.args.key.now)
    ∙ ap (λ (w : View). finite.get w.items c.args.key.now) (seen c.self.inside.verdicts.items c.self.inside.histories c.self.inside.custodies c.args.self.now (c.self.invariant.0.within, c.self.invariant.1.within) c.self.view_is c.args.volume)
