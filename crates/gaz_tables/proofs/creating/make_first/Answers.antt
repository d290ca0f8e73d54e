use Rattle.gaz_tables.proofs.Rooms.{others_then, versions_first}
use Rattle.gaz_tables.proofs.Steps.{inside_done, inside_failed, inside_then, widens_then}
use Rattle.gaz_tables.specs.Creating.{HasRoomForFirst, HasRoomForOthers, HasRoomForVersions, others_in, versions_in}
use Rattle.gaz_tables.proofs.creating.make_first.Goals as goal

pub returns-in_err-make_versions-clause-inside : goal.returns-in_err-make_versions-clause-inside
returns-in_err-make_versions-clause-inside g c = inside_failed g.S.Store _ _ c.make_versions.result c.from_residual.result c.from_residual.ensures.0 c.make_versions.ensures.inside

pub returns-in_err-make_others-clause-inside : goal.returns-in_err-make_others-clause-inside
returns-in_err-make_others-clause-inside g c =
    inside_failed g.S.Store _ _ c.make_others.result c.from_residual-in_err-make_others.result c.from_residual-in_err-make_others.ensures.0 (inside_then g.S.Store _ _ _ _ _ c.in_ok-make_versions.ensures.inside c.make_others.ensures.inside)

pub returns-clause-inside : goal.returns-clause-inside
returns-clause-inside g c = inside_done g.S.Store _ _ _ _ (inside_then g.S.Store _ _ _ _ _ c.in_ok-make_versions.ensures.inside c.in_ok-make_others.ensures.inside)

pub returns-clause-made : goal.returns-clause-made
returns-clause-made g c =
    let one = c.in_ok-make_versions.ensures in
    let two = c.in_ok-make_others.ensures in
    widens_then g.S.Store _ _ _ _ _ one.inside two.inside HasRoomForVersions HasRoomForOthers HasRoomForFirst versions_in others_in (versions_first _) (λ room gains. others_then _ room) one.made two.made
