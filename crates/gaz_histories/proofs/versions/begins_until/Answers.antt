use Rattle.std.proofs.Common.{sym}
use Rattle.gaz_histories.proofs.Vectors.{first_begins}
use Rattle.gaz_histories.proofs.versions.begins_until.Goals as goal

pub returns-in-Some : goal.returns-in-Some
returns-in-Some g c = first_begins c.args.versions.now c.args.volume c.in-Some.version.now c.requires (sym c.in-Some.ensures.value)
