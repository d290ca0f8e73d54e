-- The least rule that the next key breaks is the next fault.
use Rattle.std.proofs.Common.{refl}
use Rattle.gaz_rules.proofs.Phases.{asked_last, asked_none, asked_on}
use Rattle.gaz_rules.proofs.judging.end_phase.Goals as goal

pub loop-change-init : goal.loop-change-init
loop-change-init g c = asked_none _ c.args.code c.args.bases.now c.args.changes.now c.new-known.result c.requires c.new-known.ensures

pub returns-in-Some : goal.returns-in-Some
returns-in-Some g c =
    asked_last _ (g.K.Shelf.seen c.loop-change.keeper) _ c.args.code c.args.bases.now c.args.changes.now c.loop-change.change-index c.change-item.result c.loop-change.known c.breach.new.known c.in-Some.rule _
    c.loop-change-test.true c.change-item.is c.loop-change.invariant
    (rw (c.in-Some.is, c.deref.ensures) at c.in_ok-rule.ensures.broken)
    refl

pub loop-change-preserved : goal.loop-change-preserved
loop-change-preserved g c =
    asked_on _ (g.K.Shelf.seen c.loop-change.keeper) _ c.args.code c.args.bases.now c.args.changes.now c.loop-change.change-index c.change-item.result c.loop-change.known c.breach.new.known
    c.loop-change-test.true c.change-item.is c.loop-change.invariant
    (rw (c.in_default.is, c.deref.ensures) at c.in_ok-rule.ensures.broken)
