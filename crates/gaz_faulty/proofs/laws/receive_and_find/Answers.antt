use Rattle.std.proofs.Common.{◌≡◌, ℕ, IfOk, List, Option, ap, option_map, subst}
use Rattle.gaz_keeper.proofs.Pairs.{there_now}
use Rattle.gaz_keeper.specs.Keeper.{Content}
use Rattle.gaz_faulty.proofs.laws.receive_and_find.Goals as goal

pub returns : goal.returns
returns g c stood fresh fine =
    let entered = c.in_ok-receive.ensures.enters in
    let unharmed = c.received.ensures.keeps.harm fine in
    subst (λ (bytes : Option (List ℕ)). IfOk c.received.result (λ found. option_map (λ b. b.items) found ≡ bytes)) (there_now _ _ c.args.code c.args.volume c.args.bytes.now (ap (λ (k : Content). k.files) (entered.done stood fresh unharmed)))
    (c.received.ensures.right (entered.stands stood fresh unharmed) fine)
