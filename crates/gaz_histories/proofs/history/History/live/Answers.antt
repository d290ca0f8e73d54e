use Rattle.std.proofs.Common.{◌∙◌, ◌<◌, arith, sym, subst, ap}
use Rattle.std.specs.Prelude.{Some}
use Rattle.std.proofs.lemmas.Result.{on_ok_weaker}
use Rattle.gaz_histories.specs.Histories.{Ascends, lived}
use Rattle.gaz_histories.specs.Kept.{versions_in}
use Rattle.gaz_histories.proofs.Lives.{goes_at_once, goes_later, lived_ascends}
use Rattle.gaz_histories.proofs.history.History.live.Goals as goal

pub returns-then-gone-born-clause-ok : goal.returns-then-gone-born-clause-ok
returns-then-gone-born-clause-ok g c =
    on_ok_weaker c.set-then-gone-born.result (λ is. is ∙ sym (goes_at_once c.args.self.now c.args.born c.in-Some.gone c.args.standing c.if-gone-born.true) ∙ ap (λ o. lived c.args.self.now c.args.born o c.args.standing) (sym c.in-Some.is)) c.set-then-gone-born.ensures.ok

pub invariant_of-self-2 : goal.invariant_of-self-2
invariant_of-self-2 g c =
    let vs = versions_in c.self.inside.kept in
    let less : c.args.born < c.in-Some.gone = omega arith in
    subst Ascends (sym (c.in_ok-put_both.ensures.ok ∙ sym (goes_later vs c.args.born c.in-Some.gone c.args.standing less))) (lived_ascends vs c.args.born (Some c.in-Some.gone) c.args.standing c.self.invariant)

pub returns-clause-ok : goal.returns-clause-ok
returns-clause-ok g c =
    let vs = versions_in c.self.inside.kept in
    let less : c.args.born < c.in-Some.gone = omega arith in
    c.in_ok-put_both.ensures.ok ∙ sym (goes_later vs c.args.born c.in-Some.gone c.args.standing less)
    ∙ ap (λ o. lived vs c.args.born o c.args.standing) (sym c.in-Some.is) ∙ ap (λ ws. lived ws c.args.born c.args.gone c.args.standing) c.self.view_is
