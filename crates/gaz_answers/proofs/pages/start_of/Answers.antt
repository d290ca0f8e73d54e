use Rattle.std.proofs.Common.{◌∙◌, ap, sym}
use Rattle.gaz_views.specs.Words.{comes_after}
use Rattle.gaz_answers.specs.Paging.{is_behind}
use Rattle.gaz_answers.proofs.PageRows.{start_first}
use Rattle.gaz_answers.proofs.pages.start_of.Goals as goal

pub returns-in-None : goal.returns-in-None
returns-in-None c = λ k known is. ap (λ a. comes_after a k) c.in-None.is ∙ start_first c.args.kind k known is ∙ ap (λ t. is_behind t k) (sym c.new.ensures.bytes)
