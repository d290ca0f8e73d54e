use Rattle.std.proofs.Common.{◌∙◌, ap, sym}
use Rattle.gaz_views.specs.View.{View, custody_at}
use Rattle.gaz_ledger.proofs.Becoming.{passed_after}
use Rattle.gaz_ledger.proofs.Ledgers.{seen}
use Rattle.gaz_ledger.proofs.ledger.Ledger.custody.Goals as goal

pub returns : goal.returns
returns c =
    c.custody.ensures ∙ sym (passed_after c.self.inside.custodies c.args.volume c.args.uprn)
    ∙ ap (λ (w : View). custody_at w c.args.uprn) (seen c.self.inside.verdicts.items c.self.inside.histories c.self.inside.custodies c.args.self.now (c.self.invariant.0.within, c.self.invariant.1.within) c.self.view_is c.args.volume)
