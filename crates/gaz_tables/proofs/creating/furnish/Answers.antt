use Rattle.sqlite.specs.Held.{state}
use Rattle.gaz_tables.proofs.Growing.{empty_tables, new_store}
use Rattle.gaz_tables.proofs.Rooms.{room_for_first, room_for_second}
use Rattle.gaz_tables.proofs.Steps.{clean_before, inside_done, inside_failed, inside_then, widens_then}
use Rattle.gaz_tables.specs.Creating.{HasRoom, HasRoomForFirst, HasRoomForSecond, first_in, second_in}
use Rattle.gaz_tables.proofs.creating.furnish.Goals as goal

pub returns-in_err-make_first-clause-inside : goal.returns-in_err-make_first-clause-inside
returns-in_err-make_first-clause-inside g c = inside_failed g.S.Store _ _ c.make_first.result c.from_residual.result c.from_residual.ensures.0 c.make_first.ensures.inside

pub returns-in_err-make_second-clause-inside : goal.returns-in_err-make_second-clause-inside
returns-in_err-make_second-clause-inside g c =
    inside_failed g.S.Store _ _ c.make_second.result c.from_residual-in_err-make_second.result c.from_residual-in_err-make_second.ensures.0 (inside_then g.S.Store _ _ _ _ _ c.in_ok-make_first.ensures.inside c.make_second.ensures.inside)

pub returns-in_err-insert-clause-inside : goal.returns-in_err-insert-clause-inside
returns-in_err-insert-clause-inside g c =
    let two = inside_then g.S.Store _ _ _ _ _ c.in_ok-make_first.ensures.inside c.in_ok-make_second.ensures.inside in
    inside_failed g.S.Store _ _ c.insert.result c.from_residual-in_err-insert.result c.from_residual-in_err-insert.ensures.0 (inside_then g.S.Store _ _ _ _ _ two c.insert.ensures.inside)

pub returns-clause-inside : goal.returns-clause-inside
returns-clause-inside g c =
    let two = inside_then g.S.Store _ _ _ _ _ c.in_ok-make_first.ensures.inside c.in_ok-make_second.ensures.inside in
    inside_done g.S.Store _ _ _ _ (inside_then g.S.Store _ _ _ _ _ two c.in_ok-insert.ensures.inside)

pub returns-clause-made : goal.returns-clause-made
returns-clause-made g c clean room =
    let one = c.in_ok-make_first.ensures in
    let two = c.in_ok-make_second.ensures in
    let three = c.in_ok-insert.ensures in
    let made = widens_then g.S.Store _ _ _ _ _ one.inside two.inside HasRoomForFirst HasRoomForSecond HasRoom first_in second_in (room_for_first _) (λ room gains. room_for_second _ room) one.made two.made in
    let gains = made (clean_before g.S.Store _ _ _ _ _ (inside_then g.S.Store _ _ _ _ _ one.inside two.inside) three.inside clean) room in
    let old = (state g.S.Store c.args.tx.now.conn.now).now in
    let full = (state g.S.Store c.make_second.new.tx.conn.now).now in
    let put = three.added clean (empty_tables old full room gains) in
    new_store old full room gains c.args.number c.args.register.now (state g.S.Store c.insert.new.tx.conn.now).now put.0
