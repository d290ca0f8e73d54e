use Rattle.std.proofs.Common.{◌∙◌, ap, List}
use Rattle.std.specs.List.{list_any}
use Rattle.gaz_records.specs.declared.key.Key.{Key}
use Rattle.gaz_standing.proofs.TieFacts.{any_tied}
use Rattle.gaz_standing.specs.Ties.{names_at}
use Rattle.gaz_standing.proofs.ties.Ties.has.Goals as goal

pub returns-in-Some-get : goal.returns-in-Some-get
returns-in-Some-get c =
    c.any_names.ensures ∙ ap (λ (l : List Key). list_any (names_at c.args.histories.now c.args.volume c.args.uprn) l) c.in-Some-get.ensures
    ∙ any_tied c.args.self.now c.in-Some.counted c.args.histories.now c.args.volume c.args.uprn c.in-Some.is c.requires.finds

pub returns-in-None : goal.returns-in-None
returns-in-None c =
    ap (λ (l : List Key). list_any (names_at c.args.histories.now c.args.volume c.args.uprn) l) c.in-None.ensures
    ∙ any_tied c.args.self.now c.in-Some.counted c.args.histories.now c.args.volume c.args.uprn c.in-Some.is c.requires.finds
