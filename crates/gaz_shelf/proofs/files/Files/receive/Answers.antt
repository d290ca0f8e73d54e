use Rattle.std.proofs.Common.{◌∙◌, ap, refl, ℕ, List}
use Rattle.std.specs.FinMap as map
use Rattle.gaz_views.proofs.Trees.{inserted}
use Rattle.gaz_keeper.specs.Received.{Received, pair_cmp, with_file}
use Rattle.gaz_keeper.proofs.Pairs.{pairs_total, pairs_exact}
use Rattle.gaz_shelf.proofs.Highest.{received_below}
use Rattle.gaz_shelf.proofs.files.Files.receive.Goals as goal

pub returns-clause-ok : goal.returns-clause-ok
returns-clause-ok c =
    inserted {S = pair_cmp} (λ a b. refl) pairs_total pairs_exact c.self.inside.by_pair.entries c.insert.new.self.entries (c.args.code, c.args.volume) c.in_ok-bytes.bytes.items c.in_ok-insert.ensures.updates.0
    ∙ ap (λ (b : List ℕ). map.insert (map.from_entries c.self.inside.by_pair.entries) (c.args.code, c.args.volume) b) c.in_ok-bytes.ensures.items
    ∙ ap (λ (F : Received). with_file F c.args.code c.args.volume c.args.bytes.now) c.self.view_is

pub invariant_of-self-2 : goal.invariant_of-self-2
invariant_of-self-2 c =
    received_below c.self.inside.highest.entries c.raise.new.highest.entries c.self.inside.by_pair.entries c.insert.new.self.entries c.args.code c.args.volume c.in_ok-bytes.bytes.items
    c.self.invariant c.raise.ensures.kept c.in_ok-raise.ensures.ok c.in_ok-insert.ensures.updates.0
