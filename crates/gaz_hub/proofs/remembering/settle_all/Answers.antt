-- What is remembered is used, and what is known at the end is remembered.
use Rattle.std.proofs.Common.{[], sym, subst}
use Rattle.std.specs.Prelude.{⊤, Some}
use Rattle.gaz_steps.specs.Hubs.{door_of}
use Rattle.gaz_hub.specs.Settling.{Tells}
use Rattle.gaz_hub.specs.Waiting.{remembering}
use Rattle.gaz_keeper.proofs.Faults.{passed_on}
use Rattle.gaz_hub.proofs.Memory.{forgotten, recalled_as, tells_kept}
use Rattle.gaz_hub.proofs.remembering.settle_all.Goals as goal

pub returns-in_err-settle-clause-tells : goal.returns-in_err-settle-clause-tells
returns-in_err-settle-clause-tells g c =
    let reg = c.args.register.now in
    let a = g.K.Shelf.seen c.args.keeper.now in
    let b = g.K.Shelf.seen c.settle.new.keeper in
    let e = c.in_err-settle.field-0.0 in
    subst (λ r. Tells {T = Unit {0}} (door_of reg) (remembering reg c.args.waiters.now a) (remembering reg c.recall.new.waiters b) r (λ _. ⊤)) (sym (passed_on c.from_residual-in_err-settle.result e c.from_residual-in_err-settle.ensures.1))
    (tells_kept (door_of reg) reg c.args.waiters.now (Some c.in_ok-known.known) c.recall.new.waiters a b _ _
    (recalled_as reg c.args.waiters.now c.in_ok-known.known a.content c.in_ok-known.ensures.recalled) c.in_err-settle.ensures.tells
    (λ stood fine. forgotten reg c.recall.new.waiters b.content c.in_ok-known.ensures.left))

pub returns-clause-tells : goal.returns-clause-tells
returns-clause-tells g c =
    let reg = c.args.register.now in
    let a = g.K.Shelf.seen c.args.keeper.now in
    let b = g.K.Shelf.seen c.settle.new.keeper in
    tells_kept (door_of reg) reg c.args.waiters.now (Some c.in_ok-known.known) (Some c.settle.new.waiters) a b _ _
    (recalled_as reg c.args.waiters.now c.in_ok-known.known a.content c.in_ok-known.ensures.recalled) c.in_ok-settle.ensures.tells
    (λ stood fine. c.in_ok-settle.ensures.rest (stood.0.0, stood.1) fine [] stood.0.1)
