use Rattle.std.proofs.Common.{refl}
use Rattle.std.proofs.lemmas.Result.{IfErr-weaker, IfOk-weaker}
use Rattle.gaz_filing.specs.Filing.{HandedBack, NoConnection}
use Rattle.gaz_filing.proofs.Filing.{over}
use Rattle.gaz_filing.proofs.migrating.migrate_store.Goals as goal

pub returns-clause-migrates : goal.returns-clause-migrates
returns-clause-migrates g c =
    let moved = c.migrate_opened-conn in
    IfOk-weaker moved.result.told _ _ (λ told migrates. over _ c.args.files c.close-left.result c.in-Ok.conn moved.result.conn c.in-Ok.ensures.had c.close-left.ensures _ (migrates, moved.ensures.stops)) moved.ensures.migrates

pub returns-clause-none : goal.returns-clause-none
returns-clause-none g c =
    let moved = c.migrate_opened-conn in
    IfErr-weaker moved.result.told _ _ (λ why lacks. HandedBack (over _ c.args.files c.close-left.result c.in-Ok.conn moved.result.conn c.in-Ok.ensures.had c.close-left.ensures _ (lacks, moved.ensures.stops))) moved.ensures.lacks

pub returns-in-Err-clause-none : goal.returns-in-Err-clause-none
returns-in-Err-clause-none g c = rw (c.unconnected.ensures.left, c.unconnected.ensures.told) (NoConnection refl c.in-Err.ensures.none)
