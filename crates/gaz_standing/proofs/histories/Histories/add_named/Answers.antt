use Rattle.std.proofs.Common.{◌∙◌}
use Rattle.gaz_views.proofs.Outcomes.{on_ok}
use Rattle.gaz_standing.proofs.histories.Histories.add_named.Goals as goal

pub returns-clause-kept : goal.returns-clause-kept
returns-clause-kept c = on_ok c.add_some-2.result (λ more n k under. more n k (c.in_ok-add_some.ensures.kept n k under)) c.add_some-2.ensures.kept

pub returns-clause-first : goal.returns-clause-first
returns-clause-first c = on_ok c.add_some-2.result (λ more n is. more n c.args.key.now (c.in_ok-add_some.ensures.tied n (c.named-first.ensures ∙ is))) c.add_some-2.ensures.kept
