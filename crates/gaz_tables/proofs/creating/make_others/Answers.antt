use Rattle.gaz_tables.proofs.Rooms.{takes_meta, takes_received}
use Rattle.gaz_tables.proofs.Steps.{inside_done, inside_failed, inside_then, widens_then}
use Rattle.gaz_tables.specs.Creating.{HasRoomForOthers, TakesTable, table_put}
use Rattle.gaz_tables.specs.Schema.{meta, received}
use Rattle.gaz_tables.proofs.creating.make_others.Goals as goal

pub returns-in_err-make_received-clause-inside : goal.returns-in_err-make_received-clause-inside
returns-in_err-make_received-clause-inside g c = inside_failed g.S.Store _ _ c.make_received.result c.from_residual.result c.from_residual.ensures.0 c.make_received.ensures.inside

pub returns-in_err-make_meta-clause-inside : goal.returns-in_err-make_meta-clause-inside
returns-in_err-make_meta-clause-inside g c =
    inside_failed g.S.Store _ _ c.make_meta.result c.from_residual-in_err-make_meta.result c.from_residual-in_err-make_meta.ensures.0 (inside_then g.S.Store _ _ _ _ _ c.in_ok-make_received.ensures.inside c.make_meta.ensures.inside)

pub returns-clause-inside : goal.returns-clause-inside
returns-clause-inside g c = inside_done g.S.Store _ _ _ _ (inside_then g.S.Store _ _ _ _ _ c.in_ok-make_received.ensures.inside c.in_ok-make_meta.ensures.inside)

pub returns-clause-made : goal.returns-clause-made
returns-clause-made g c =
    let one = c.in_ok-make_received.ensures in
    let two = c.in_ok-make_meta.ensures in
    widens_then g.S.Store _ _ _ _ _ one.inside two.inside (TakesTable received) (TakesTable meta) HasRoomForOthers (table_put received) (table_put meta) (takes_received _) (λ room gains. takes_meta _ room) one.made two.made
