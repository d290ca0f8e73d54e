use Rattle.gaz_tables.proofs.Rooms.{low_of, takes_by_blpu2, takes_by_street2, takes_version2}
use Rattle.gaz_tables.proofs.Steps.{inside_done, inside_failed, inside_then, widens_then}
use Rattle.gaz_tables.specs.Creating.{HasRoomForSecond, TakesIndex, TakesTable, index_put, table_put}
use Rattle.gaz_tables.specs.Schema.{by_blpu2, by_street2, version2}
use Rattle.gaz_tables.proofs.creating.make_second.Goals as goal

pub returns-in_err-make_version2-clause-inside : goal.returns-in_err-make_version2-clause-inside
returns-in_err-make_version2-clause-inside g c = inside_failed g.S.Store _ _ c.make_version2.result c.from_residual.result c.from_residual.ensures.0 c.make_version2.ensures.inside

pub returns-in_err-make_by_blpu2-clause-inside : goal.returns-in_err-make_by_blpu2-clause-inside
returns-in_err-make_by_blpu2-clause-inside g c =
    inside_failed g.S.Store _ _ c.make_by_blpu2.result c.from_residual-in_err-make_by_blpu2.result c.from_residual-in_err-make_by_blpu2.ensures.0 (inside_then g.S.Store _ _ _ _ _ c.in_ok-make_version2.ensures.inside c.make_by_blpu2.ensures.inside)

pub returns-in_err-make_by_street2-clause-inside : goal.returns-in_err-make_by_street2-clause-inside
returns-in_err-make_by_street2-clause-inside g c =
    let two = inside_then g.S.Store _ _ _ _ _ c.in_ok-make_version2.ensures.inside c.in_ok-make_by_blpu2.ensures.inside in
    inside_failed g.S.Store _ _ c.make_by_street2.result c.from_residual-in_err-make_by_street2.result c.from_residual-in_err-make_by_street2.ensures.0 (inside_then g.S.Store _ _ _ _ _ two c.make_by_street2.ensures.inside)

pub returns-clause-inside : goal.returns-clause-inside
returns-clause-inside g c =
    let two = inside_then g.S.Store _ _ _ _ _ c.in_ok-make_version2.ensures.inside c.in_ok-make_by_blpu2.ensures.inside in
    inside_done g.S.Store _ _ _ _ (inside_then g.S.Store _ _ _ _ _ two c.in_ok-make_by_street2.ensures.inside)

pub returns-clause-made : goal.returns-clause-made
returns-clause-made g c =
    let one = c.in_ok-make_version2.ensures in
    let two = c.in_ok-make_by_blpu2.ensures in
    let three = c.in_ok-make_by_street2.ensures in
    let made = widens_then g.S.Store _ _ _ _ _ one.inside two.inside (TakesTable version2) (TakesIndex version2 by_blpu2) HasRoomForSecond (table_put version2) (index_put version2 by_blpu2)
    (takes_version2 _) (λ room gains. takes_by_blpu2 _ room (low_of _ _ gains.sound gains.schema_is)) one.made two.made in
    widens_then g.S.Store _ _ _ _ _ (inside_then g.S.Store _ _ _ _ _ one.inside two.inside) three.inside HasRoomForSecond (TakesIndex version2 by_street2) HasRoomForSecond (λ s. index_put version2 by_blpu2 (table_put version2 s)) (index_put version2 by_street2)
    (λ room. room) (λ room gains. takes_by_street2 _ room (low_of _ _ gains.sound gains.schema_is)) made three.made
