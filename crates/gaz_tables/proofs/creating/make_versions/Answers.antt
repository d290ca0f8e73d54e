use Rattle.gaz_tables.proofs.Rooms.{low_of, takes_by_blpu, takes_by_street, takes_version}
use Rattle.gaz_tables.proofs.Steps.{inside_done, inside_failed, inside_then, widens_then}
use Rattle.gaz_tables.specs.Creating.{HasRoomForVersions, TakesIndex, TakesTable, index_put, table_put}
use Rattle.gaz_tables.specs.Schema.{by_blpu, by_street, version}
use Rattle.gaz_tables.proofs.creating.make_versions.Goals as goal

pub returns-in_err-make_version-clause-inside : goal.returns-in_err-make_version-clause-inside
returns-in_err-make_version-clause-inside g c = inside_failed g.S.Store _ _ c.make_version.result c.from_residual.result c.from_residual.ensures.0 c.make_version.ensures.inside

pub returns-in_err-make_by_blpu-clause-inside : goal.returns-in_err-make_by_blpu-clause-inside
returns-in_err-make_by_blpu-clause-inside g c =
    inside_failed g.S.Store _ _ c.make_by_blpu.result c.from_residual-in_err-make_by_blpu.result c.from_residual-in_err-make_by_blpu.ensures.0 (inside_then g.S.Store _ _ _ _ _ c.in_ok-make_version.ensures.inside c.make_by_blpu.ensures.inside)

pub returns-in_err-make_by_street-clause-inside : goal.returns-in_err-make_by_street-clause-inside
returns-in_err-make_by_street-clause-inside g c =
    let two = inside_then g.S.Store _ _ _ _ _ c.in_ok-make_version.ensures.inside c.in_ok-make_by_blpu.ensures.inside in
    inside_failed g.S.Store _ _ c.make_by_street.result c.from_residual-in_err-make_by_street.result c.from_residual-in_err-make_by_street.ensures.0 (inside_then g.S.Store _ _ _ _ _ two c.make_by_street.ensures.inside)

pub returns-clause-inside : goal.returns-clause-inside
returns-clause-inside g c =
    let two = inside_then g.S.Store _ _ _ _ _ c.in_ok-make_version.ensures.inside c.in_ok-make_by_blpu.ensures.inside in
    inside_done g.S.Store _ _ _ _ (inside_then g.S.Store _ _ _ _ _ two c.in_ok-make_by_street.ensures.inside)

pub returns-clause-made : goal.returns-clause-made
returns-clause-made g c =
    let one = c.in_ok-make_version.ensures in
    let two = c.in_ok-make_by_blpu.ensures in
    let three = c.in_ok-make_by_street.ensures in
    let made = widens_then g.S.Store _ _ _ _ _ one.inside two.inside (TakesTable version) (TakesIndex version by_blpu) HasRoomForVersions (table_put version) (index_put version by_blpu)
    (takes_version _) (λ room gains. takes_by_blpu _ room (low_of _ _ gains.sound gains.schema_is)) one.made two.made in
    widens_then g.S.Store _ _ _ _ _ (inside_then g.S.Store _ _ _ _ _ one.inside two.inside) three.inside HasRoomForVersions (TakesIndex version by_street) HasRoomForVersions (λ s. index_put version by_blpu (table_put version s)) (index_put version by_street)
    (λ room. room) (λ room gains. takes_by_street _ room (low_of _ _ gains.sound gains.schema_is)) made three.made
