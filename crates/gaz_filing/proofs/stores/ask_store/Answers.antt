use Rattle.std.proofs.Common.{refl}
use Rattle.std.proofs.lemmas.Result.{IfErr-weaker, IfOk-weaker}
use Rattle.gaz_filing.specs.Filing.{HandedBack, NoConnection}
use Rattle.gaz_filing.proofs.Filing.{over}
use Rattle.gaz_filing.proofs.stores.ask_store.Goals as goal

pub returns-clause-asked : goal.returns-clause-asked
returns-clause-asked g c =
    let asked = c.ask_opened-conn in
    IfOk-weaker asked.result.told _ _ (λ said uses. over _ c.args.files c.close-left.result c.in-Ok.conn asked.result.conn c.in-Ok.ensures.had c.close-left.ensures _ uses) asked.ensures.asks

pub returns-clause-none : goal.returns-clause-none
returns-clause-none g c =
    let asked = c.ask_opened-conn in
    IfErr-weaker asked.result.told _ _ (λ why lacks. HandedBack (over _ c.args.files c.close-left.result c.in-Ok.conn asked.result.conn c.in-Ok.ensures.had c.close-left.ensures _ lacks)) asked.ensures.lacks

pub returns-in-Err-clause-none : goal.returns-in-Err-clause-none
returns-in-Err-clause-none g c = rw (c.unconnected.ensures.left, c.unconnected.ensures.told) (NoConnection refl c.in-Err.ensures.none)
