use Rattle.std.proofs.Common.{refl}
use Rattle.std.proofs.lemmas.Result.{IfErr-weaker, IfOk-weaker}
use Rattle.gaz_filing.specs.Filing.{HandedBack, NoConnection}
use Rattle.gaz_filing.proofs.Filing.{over}
use Rattle.gaz_filing.proofs.growing.extend_store.Goals as goal

pub returns-clause-extends : goal.returns-clause-extends
returns-clause-extends g c =
    let grew = c.extend_opened-conn in
    IfOk-weaker grew.result.told _ _ (λ told extends. over _ c.args.files c.close-left.result c.in-Ok.conn grew.result.conn c.in-Ok.ensures.had c.close-left.ensures _ extends) grew.ensures.extends

pub returns-clause-none : goal.returns-clause-none
returns-clause-none g c =
    let grew = c.extend_opened-conn in
    IfErr-weaker grew.result.told _ _ (λ why lacks. HandedBack (over _ c.args.files c.close-left.result c.in-Ok.conn grew.result.conn c.in-Ok.ensures.had c.close-left.ensures _ lacks)) grew.ensures.lacks

pub returns-in-Err-clause-none : goal.returns-in-Err-clause-none
returns-in-Err-clause-none g c = rw (c.unconnected.ensures.left, c.unconnected.ensures.told) (NoConnection refl c.in-Err.ensures.none)
