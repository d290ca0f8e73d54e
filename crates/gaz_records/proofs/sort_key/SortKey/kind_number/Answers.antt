use Rattle.std.proofs.Common.{◌∙◌, ap}
use Rattle.gaz_records.specs.Keys.{kind_number}
use Rattle.gaz_records.proofs.SortOrder.{kind_of}
use Rattle.gaz_records.proofs.sort_key.SortKey.kind_number.Goals as goal

pub returns : goal.returns
returns c = kind_of c.self.inside.high c.self.inside.low c.self.invariant ∙ ap kind_number c.self.view_is
