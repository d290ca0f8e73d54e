use Rattle.std.proofs.Common.{◌∙◌, ap, []}
use Rattle.std.specs.Option.{option_map_or}
use Rattle.gaz_standing.proofs.Indexes.{copied, found_in}
use Rattle.gaz_standing.specs.Indexes.{listed}
use Rattle.gaz_standing.proofs.index.Index.get.Goals as goal

pub returns : goal.returns
returns c = copied c.get.result ∙ ap (λ o. option_map_or listed o []) c.get.ensures.value ∙ found_in c.args.self.now.by_mark.entries c.args.mark
