-- One custodian after another.
use Rattle.std.proofs.Common.{◌==◌, ◌∙◌, sym, ap, arith}
use Rattle.gaz_chains.specs.Finding.{asked}
use Rattle.gaz_keeper.proofs.Keeping.{keeps_then}
use Rattle.gaz_keeper.specs.Board.{last_view}
use Rattle.gaz_keeper.specs.Keeper.{Content}
use Rattle.gaz_views.specs.View.{custody_at}
use Rattle.gaz_steps.specs.Following.{as_asked}
use Rattle.gaz_steps.proofs.Following.{found_here, found_never, found_next, found_nobody}
use Rattle.gaz_steps.proofs.holding.holder_from.Goals as goal

pub returns-in-Here-clause-tells : goal.returns-in-Here-clause-tells
returns-in-Here-clause-tells g c =
    let inv = c.loop-turn.invariant in
    let told = c.in_ok-ask.ensures.tells in
    let was = g.K.Shelf.seen c.args.keeper.now in
    let code = c.loop-turn.code in
    record {
      keeps = keeps_then _ _ _ inv.keeps told.keeps;
      right = λ stood fine.
          let mid = told.keeps.harm fine in
          found_here (λ d. custody_at (last_view was.content.board d) c.args.uprn) (λ d. d == c.args.owner) 10000 c.loop-turn._turn code (omega (arith, c.loop-turn-test.true))
          (sym (ap as_asked c.in-Here.is) ∙ told.right (inv.keeps.stands stood mid) fine
          ∙ ap (λ (k : Content). asked (λ d. custody_at (last_view k.board d) c.args.uprn) (code == c.args.owner) (custody_at (last_view k.board code) c.args.uprn)) (inv.keeps.content stood mid))
          ∙ inv.left stood mid;
      counts = record { kept = let a = inv.counted in let b = told.counts.kept in omega arith; store = tt; trust = λ t. inv.trust (told.counts.trust t) };
    }

pub returns-in-Nobody-clause-tells : goal.returns-in-Nobody-clause-tells
returns-in-Nobody-clause-tells g c =
    let inv = c.loop-turn.invariant in
    let told = c.in_ok-ask.ensures.tells in
    let was = g.K.Shelf.seen c.args.keeper.now in
    let code = c.loop-turn.code in
    record {
      keeps = keeps_then _ _ _ inv.keeps told.keeps;
      right = λ stood fine.
          let mid = told.keeps.harm fine in
          found_nobody (λ d. custody_at (last_view was.content.board d) c.args.uprn) (λ d. d == c.args.owner) 10000 c.loop-turn._turn code (omega (arith, c.loop-turn-test.true))
          (sym (ap as_asked c.in-Nobody.is) ∙ told.right (inv.keeps.stands stood mid) fine
          ∙ ap (λ (k : Content). asked (λ d. custody_at (last_view k.board d) c.args.uprn) (code == c.args.owner) (custody_at (last_view k.board code) c.args.uprn)) (inv.keeps.content stood mid))
          ∙ inv.left stood mid;
      counts = record { kept = let a = inv.counted in let b = told.counts.kept in omega arith; store = tt; trust = λ t. inv.trust (told.counts.trust t) };
    }

pub loop-turn-preserved : goal.loop-turn-preserved
loop-turn-preserved g c =
    let inv = c.loop-turn.invariant in
    let told = c.in_ok-ask.ensures.tells in
    let was = g.K.Shelf.seen c.args.keeper.now in
    let code = c.loop-turn.code in
    record {
      keeps = keeps_then _ _ _ inv.keeps told.keeps;
      counted = let a = inv.counted in let b = told.counts.kept in omega arith;
      trust = λ t. inv.trust (told.counts.trust t);
      idle = c.in_ok-ask.ensures.not_open;
      left = λ stood fine.
          let mid = told.keeps.harm fine in
          found_next (λ d. custody_at (last_view was.content.board d) c.args.uprn) (λ d. d == c.args.owner) 10000 c.loop-turn._turn code c.in-Next.to (omega (arith, c.loop-turn-test.true))
          (sym (ap as_asked c.in-Next.is) ∙ told.right (inv.keeps.stands stood mid) fine
          ∙ ap (λ (k : Content). asked (λ d. custody_at (last_view k.board d) c.args.uprn) (code == c.args.owner) (custody_at (last_view k.board code) c.args.uprn)) (inv.keeps.content stood mid))
          ∙ inv.left stood mid;
    }

pub returns-clause-tells : goal.returns-clause-tells
returns-clause-tells g c =
    let inv = c.loop-turn.invariant in
    let was = g.K.Shelf.seen c.args.keeper.now in
    record {
      keeps = inv.keeps;
      right = λ stood fine.
          found_never (λ d. custody_at (last_view was.content.board d) c.args.uprn) (λ d. d == c.args.owner) 10000 c.loop-turn._turn c.loop-turn.code (omega (arith, c.loop-turn-test.false))
          ∙ inv.left stood fine;
      counts = record { kept = inv.counted; store = tt; trust = inv.trust };
    }
