use Rattle.std.proofs.Common.{refl}
use Rattle.std.proofs.lemmas.Result.{IfErr-weaker, IfOk-weaker}
use Rattle.gaz_stored.proofs.Meetings.{with_same}
use Rattle.gaz_filing.specs.Filing.{HandedBack, NoConnection}
use Rattle.gaz_filing.proofs.Filing.{over}
use Rattle.gaz_filing.proofs.stores.serve_store.Goals as goal

pub returns-clause-served : goal.returns-clause-served
returns-clause-served g c =
    IfOk-weaker c.serve_opened-conn.result.told _ _ (λ how. with_same _ _ _ _ _ _ _ (λ met uses. over _ c.args.files c.close-left.result c.in-Ok.conn c.serve_opened-conn.result.conn c.in-Ok.ensures.had c.close-left.ensures _ uses)) c.serve_opened-conn.ensures.attends

pub returns-clause-none : goal.returns-clause-none
returns-clause-none g c =
    let served = c.serve_opened-conn in
    IfErr-weaker served.result.told _ _ (λ why lacks. HandedBack (over _ c.args.files c.close-left.result c.in-Ok.conn served.result.conn c.in-Ok.ensures.had c.close-left.ensures _ lacks)) served.ensures.lacks

pub returns-clause-many : goal.returns-clause-many
returns-clause-many g c =
    let served = c.serve_opened-conn in
    IfOk-weaker served.result.told _ _ (λ held. IfOk-weaker held _ _ (λ n ends. ends.some)) served.ensures.many

pub returns-in-Err-clause-none : goal.returns-in-Err-clause-none
returns-in-Err-clause-none g c = rw (c.unconnected.ensures.left, c.unconnected.ensures.told) (NoConnection refl c.in-Err.ensures.none)
