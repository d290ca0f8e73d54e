-- What failed is told as it is.
use Rattle.std.proofs.Common.{refl}
use Rattle.std.specs.Prelude.{Ok, ⊤}
use Rattle.gaz_keeper.proofs.Faults.{passed_on}
use Rattle.gaz_steps.proofs.Looks.{looks_nowhere}
use Rattle.gaz_hub.proofs.remembering.once_sure.Goals as goal

pub returns-in_err-told-clause-sured : goal.returns-in_err-told-clause-sured
returns-in_err-told-clause-sured g c = rw (c.in_err-told.was, passed_on _ _ c.from_residual.ensures.1) (record { done = Ok tt; asked = looks_nowhere (g.K.Shelf.seen c.args.keeper.now) tt (λ _. ⊤) tt; result_is = refl })
