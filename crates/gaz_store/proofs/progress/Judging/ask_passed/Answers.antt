use Rattle.std.proofs.Common.{subst}
use Rattle.gaz_calls.proofs.Answered.{asked_as}
use Rattle.gaz_store.specs.Store.{StandsBeside}
use Rattle.gaz_store.proofs.Turning.{stands_on}
use Rattle.gaz_store.proofs.progress.Judging.ask_passed.Goals as goal

pub returns-in-Open-clause-asks : goal.returns-in-Open-clause-asks
returns-in-Open-clause-asks g c =
    asked_as _ _ _ _ _ c.ask_passed.ensures.asks (λ db kept x turns stands.
    stands_on db c.in-Open.judgement _ c.ask_passed.ensures.code c.ask_passed.ensures.changes turns (subst (StandsBeside db) c.in-Open.is stands))
