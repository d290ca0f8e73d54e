use Rattle.std.proofs.Common.{◌≡◌, ◌∙◌, ap, sym, arith, cond, false, slice_get}
use Rattle.std.proofs.lemmas.Bool.Decides.{nat_tests}
use Rattle.std.specs.Prelude.{◌==◌, ◌-◌, None, option_map}
use Rattle.gaz_views.proofs.Judgements.{verdict_at}
use Rattle.gaz_views.specs.Judgements.{Judgement}
use Rattle.gaz_views.specs.Accounts.{Account}
use Rattle.gaz_ledger.specs.Custodies.{view_with}
use Rattle.gaz_ledger.proofs.ledger.Ledger.verdict.Goals as goal

pub returns : goal.returns
returns c =
    let some : (c.args.volume == 0) ≡ false = grind (arith, nat_tests) in
    c.verdict_at.ensures ∙ ap (λ ds. slice_get ds (c.args.volume - 1)) c.deref.ensures.value ∙ sym (verdict_at c.self.inside.verdicts.items (view_with c.self.inside.histories c.self.inside.custodies) (c.args.volume - 1))
    ∙ ap (λ (a : Account). option_map (λ (j : Judgement). j.verdict) (slice_get a.judged (c.args.volume - 1))) c.self.view_is
    ∙ ap (λ b. cond b None (option_map (λ (j : Judgement). j.verdict) (slice_get c.args.self.now.judged (c.args.volume - 1)))) (sym some)
