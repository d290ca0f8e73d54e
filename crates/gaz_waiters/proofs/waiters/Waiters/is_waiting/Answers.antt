-- Those who wait stand under the volume.
use Rattle.std.proofs.Common.{◌∙◌, sym, ap, refl, ℕ, []}
use Rattle.std.specs.FinMap as finmap
use Rattle.std.specs.Option.{unwrap_or}
use Rattle.gaz_views.proofs.Trees.{get_tree}
use Rattle.gaz_keeper.specs.Received.{pair_cmp}
use Rattle.gaz_keeper.proofs.Pairs.{pairs_total}
use Rattle.gaz_waiters.specs.Remembered.{Remembered, is_among}
use Rattle.gaz_waiters.proofs.waiters.Waiters.is_waiting.Goals as goal

pub returns-in-Some : goal.returns-in-Some
returns-in-Some c =
    let p : ℕ × ℕ = (c.args.custodian, c.args.volume) in
    c.contains.ensures.value ∙ ap (λ xs. is_among xs c.args.waiter) c.as_slice.ensures
    ∙ ap (λ o. is_among (unwrap_or o []) c.args.waiter)
    (c.in-Some.ensures.value ∙ sym (get_tree {S = pair_cmp} (λ a b. refl) pairs_total c.self.inside.by_volume.entries p) ∙ ap (λ (m : Remembered). finmap.get m.waiting p) c.self.view_is)

pub returns-in-None : goal.returns-in-None
returns-in-None c =
    let p : ℕ × ℕ = (c.args.custodian, c.args.volume) in
    ap (λ o. is_among (unwrap_or o []) c.args.waiter)
    (c.in-None.ensures.value ∙ sym (get_tree {S = pair_cmp} (λ a b. refl) pairs_total c.self.inside.by_volume.entries p) ∙ ap (λ (m : Remembered). finmap.get m.waiting p) c.self.view_is)
