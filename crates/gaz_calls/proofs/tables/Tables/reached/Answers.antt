use Rattle.gaz_calls.proofs.Recalling.{reached_told, recalled}
use Rattle.gaz_calls.proofs.tables.Tables.reached.Goals as goal

pub returns : goal.returns
returns g c =
    recalled _ _ c.counts.result c.in_ok-at_hand.at_hand _ _ _ c.counts.ensures c.in_ok-at_hand.was (λ db kept so. reached_told db c.args.code c.in_ok-at_hand.at_hand so)
