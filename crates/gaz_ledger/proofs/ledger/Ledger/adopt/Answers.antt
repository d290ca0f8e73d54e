use Rattle.std.proofs.Common.{◌∙◌, ap, sym}
use Rattle.gaz_records.specs.Keys.{key_of}
use Rattle.gaz_views.proofs.Outcomes.{on_ok}
use Rattle.gaz_views.specs.View.{View}
use Rattle.gaz_ledger.proofs.Passes.{adopted}
use Rattle.gaz_ledger.specs.Changing.{with_working}
use Rattle.gaz_ledger.proofs.ledger.Ledger.adopt.Goals as goal

pub returns-clause-ok : goal.returns-clause-ok
returns-clause-ok c =
    on_ok c.pass.result (λ done. done ∙ ap (λ (v : View). with_working c.args.self.now v) (adopted c.args.self.now.working c.args.blpu c.in-Blpu.uprn c.args.from c.args.hop c.requires (sym (c.key_of.ensures ∙ ap key_of c.deref.ensures) ∙ c.in-Blpu.is))) c.pass.ensures.ok
