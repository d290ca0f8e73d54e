-- What is told of the key that was looked up.
use Rattle.std.proofs.Common.{◌≡◌, ◌∙◌, true, ap}
use Rattle.std.specs.FinMap as map
use Rattle.gaz_keeper.specs.Keeper.{view_of}
use Rattle.gaz_end_rules.specs.Bases.{are_reached, basis_views}
use Rattle.gaz_end_rules.specs.EndRules.{end_rules}
use Rattle.gaz_end_rules.specs.Knowing.{Remembers}
use Rattle.gaz_changefile.specs.Rules.{first_broken}
use Rattle.gaz_keeper.proofs.Keeping.{view_open}
use Rattle.gaz_end_rules.proofs.Progress.{reads_both}
use Rattle.gaz_end_rules.proofs.end_rules.breach_of.Goals as goal

pub returns-clause-broken : goal.returns-clause-broken
returns-clause-broken g c =
    let was = g.K.Shelf.seen c.args.keeper.now in
    let bases = c.args.bases.now in
    let at = c.args.key.now in
    let stored = c.in_ok-stored.stored in
    reads_both _ _ _ _ c.in_ok-breach_at.field-0 _ (λ i. i ≡ map.get (view_of was c.args.code).items at)
    (λ k r. are_reached k.board bases ≡ true → stored ≡ map.get k.working.items at
    → Remembers k.working (basis_views k.board bases) c.args.known.now
    → Remembers k.working (basis_views k.board bases) c.breach_at.new.known × (r ≡ first_broken (end_rules k.working (basis_views k.board bases) at))) _
    c.in_ok-stored.ensures c.in_ok-breach_at.ensures.broken
    (λ here told reached. told reached (here ∙ ap (λ v. map.get v.items at) (view_open was c.args.code c.requires)))
