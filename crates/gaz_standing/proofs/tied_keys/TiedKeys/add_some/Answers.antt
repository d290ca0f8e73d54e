use Rattle.gaz_views.proofs.Outcomes.{on_ok}
use Rattle.gaz_standing.proofs.TieFacts.{more_tied, now_tied}
use Rattle.gaz_standing.proofs.tied_keys.TiedKeys.add_some.Goals as goal

pub returns-in-Some-clause-kept : goal.returns-in-Some-clause-kept
returns-in-Some-clause-kept c = on_ok c.add.result (λ h. more_tied c.args.self.now c.add.new.self c.in-Some.uprn c.args.key h) c.add.ensures

pub returns-in-Some-clause-tied : goal.returns-in-Some-clause-tied
returns-in-Some-clause-tied c = on_ok c.add.result (λ h n is. now_tied c.args.self.now c.add.new.self c.in-Some.uprn c.args.key h n (cc)) c.add.ensures
