use Rattle.std.proofs.Common.{rules, ◌≡◌, ◌≤◌, ◌+◌, ◌∙◌, ℕ, ap, length, subst, sym, arith}
use Rattle.gaz_views.specs.View.{View}
use Rattle.gaz_views.specs.Words.{tied}
use Rattle.gaz_standing.specs.Ties.{AreTies}
use Rattle.gaz_ledger.proofs.Ledgers.{reached_of, seen}
use Rattle.gaz_ledger.proofs.TiesKept.{ties_from}
use Rattle.gaz_ledger.proofs.ledger.Ledger.tied.Goals as goal

pub count-requires-clause-ties : goal.count-requires-clause-ties
count-requires-clause-ties c =
    let reach : c.len-reached.result ≡ length c.self.inside.verdicts.items = search rules in
    subst (λ (n : ℕ). AreTies c.self.inside.ties c.self.inside.histories n (n + 1)) (sym reach) c.self.invariant.2

pub has-requires-clause-finds : goal.has-requires-clause-finds
has-requires-clause-finds c =
    let ds = c.self.inside.verdicts.items in
    let g = c.self.inside.histories in
    let reach : c.len-reached.result ≡ length ds = search rules in
    let long = reached_of ds g c.self.inside.custodies c.args.self.now c.self.view_is in
    let before : length c.args.self.now.judged ≤ c.args.volume = c.requires in
    let ties = subst (λ (n : ℕ). AreTies c.count.new.self g n (n + 1)) reach c.count.ensures.ties in
    ties_from (length ds) g c.count.new.self c.self.invariant.0.within ties c.args.volume (omega (arith, long, before))

pub returns-clause-tied : goal.returns-clause-tied
returns-clause-tied c =
    c.has.ensures ∙ ap (λ (w : View). tied w c.args.uprn) (seen c.self.inside.verdicts.items c.self.inside.histories c.self.inside.custodies c.args.self.now (c.self.invariant.0.within, c.self.invariant.1.within) c.self.view_is c.args.volume)
