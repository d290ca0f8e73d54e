-- One more waits, and it is remembered for what.
use Rattle.std.proofs.Common.{◌∙◌, ◌++◌, ◌∷◌, ap, refl, ℕ, []}
use Rattle.std.proofs.lemmas.Map.Lookups.{exact_unsigned}
use Rattle.std.specs.Cmp.{nat_cmp_total}
use Rattle.std.specs.FinMap as finmap
use Rattle.std.specs.Ordering.{nat_cmp}
use Rattle.gaz_views.proofs.Trees.{inserted}
use Rattle.gaz_keeper.specs.Received.{pair_cmp}
use Rattle.gaz_keeper.proofs.Pairs.{pairs_exact, pairs_total}
use Rattle.gaz_waiters.specs.Remembered.{Remembered}
use Rattle.gaz_waiters.proofs.Waiting.{put_back}
use Rattle.gaz_waiters.proofs.waiters.Waiters.wait.Goals as goal

pub returns : goal.returns
returns c =
    let p : ℕ × ℕ = (c.args.custodian, c.args.volume) in
    let v = c.push.new.self in
    let before = c.args.self.now in
    let waits = inserted {S = pair_cmp} (λ a b. refl) pairs_total pairs_exact c.self.inside.by_volume.entries c.insert.new.self.entries p v c.in_ok-insert.ensures.updates.0 in
    let wants = inserted {S = nat_cmp} (λ a b. refl) nat_cmp_total exact_unsigned c.self.inside.wanted.entries c.insert-2.new.self.entries c.args.waiter p c.in_ok-insert-2.ensures.updates.0 in
    (λ i. record { ahead = c.self.inside.ahead.items; waiting = waits i; wanted = wants i })
    ∙ ap (λ (m : Remembered). record m { waiting = finmap.insert m.waiting p v; wanted = finmap.insert m.wanted c.args.waiter p }) (c.self.view_is ∙ c.take_waiting-codes.ensures.left)
    ∙ ap (λ x. record before { waiting = x; wanted = finmap.insert before.wanted c.args.waiter p })
    (put_back before.waiting p v ∙ ap (finmap.insert before.waiting p) (c.in_ok-push.ensures ∙ ap (λ xs. xs ++ c.args.waiter ∷ []) c.take_waiting-codes.ensures.codes))
