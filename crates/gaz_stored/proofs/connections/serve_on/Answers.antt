use Rattle.std.proofs.Common.{◌∙◌, refl}
use Rattle.gaz_mirror.specs.Mirrored.{seen_mirrored}
use Rattle.gaz_stored.proofs.Meetings.{nobody, with_more}
use Rattle.gaz_stored.proofs.Serving.{none, one_more, same_register}
use Rattle.gaz_stored.proofs.connections.serve_on.Goals as goal

pub loop-behind-init : goal.loop-behind-init
loop-behind-init g c = (nobody _ _ _ _ _ (none _ _ _), refl)

pub loop-behind-preserved : goal.loop-behind-preserved
loop-behind-preserved g c =
    let behind = c.loop-behind.invariant in
    let turn = c.serve_next.ensures in (
      with_more _ _ _ _ _ _ _ _ _ (one_more seen_mirrored 1000 c.loop-behind.behind c.args.hub.now c.loop-behind.hub c.serve_next.new.hub behind.1) behind.0 turn,
      same_register seen_mirrored 1000 c.loop-behind.hub c.serve_next.new.hub turn.met turn.then ∙ behind.1,
    )

pub returns-then-not-has_upper-clause-serves : goal.returns-then-not-has_upper-clause-serves
returns-then-not-has_upper-clause-serves g c =
    let behind = c.loop-behind.invariant in
    with_more _ _ _ _ _ _ _ _ _ (one_more seen_mirrored 1000 c.loop-behind.behind c.args.hub.now c.loop-behind.hub c.serve_next.new.hub behind.1) behind.0 c.serve_next.ensures

pub returns-then-not-has_upper-clause-register : goal.returns-then-not-has_upper-clause-register
returns-then-not-has_upper-clause-register g c =
    let turn = c.serve_next.ensures in
    same_register seen_mirrored 1000 c.loop-behind.hub c.serve_next.new.hub turn.met turn.then ∙ c.loop-behind.invariant.1
