-- Those who waited stood under the volume, and nobody does any more.
use Rattle.std.proofs.Common.{◌∙◌, sym, ap, refl, ℕ, []}
use Rattle.std.specs.FinMap as finmap
use Rattle.std.specs.Option.{unwrap_or}
use Rattle.gaz_views.proofs.Trees.{get_tree}
use Rattle.gaz_keeper.specs.Received.{pair_cmp}
use Rattle.gaz_keeper.proofs.Pairs.{pairs_total}
use Rattle.gaz_waiters.specs.Remembered.{Remembered, without_waiters}
use Rattle.gaz_waiters.proofs.Waiting.{removed}
use Rattle.gaz_waiters.proofs.waiters.Waiters.take_waiting.Goals.{in-Some, in-None}
use Rattle.gaz_waiters.proofs.waiters.Waiters.take_waiting.Goals as goal

pub returns-clause-codes : goal.returns-clause-codes
returns-clause-codes c =
    let p : ℕ × ℕ = (c.args.custodian, c.args.volume) in
    let there = sym (get_tree {S = pair_cmp} (λ a b. refl) pairs_total c.self.inside.by_volume.entries p) ∙ ap (λ (m : Remembered). finmap.get m.waiting p) c.self.view_is in
    elim c.match-remove.branch [
      | in-Some w ↦ w.result-is ∙ ap (λ o. unwrap_or o []) (w.in-Some.ensures.value ∙ there)
      | in-None w ↦ w.result-is ∙ w.new.ensures ∙ ap (λ o. unwrap_or o []) (w.in-None.ensures.value ∙ there)
    ]

pub returns-clause-left : goal.returns-clause-left
returns-clause-left c =
    let p : ℕ × ℕ = (c.args.custodian, c.args.volume) in
    ap (λ x. record { ahead = c.self.inside.ahead.items; waiting = x; wanted = finmap.from_entries c.self.inside.wanted.entries }) (removed c.self.inside.by_volume.entries c.remove.new.self.entries p c.remove.ensures.updates.0)
    ∙ ap (λ (m : Remembered). without_waiters m p) c.self.view_is
