-- Nothing stands under its code any more.
use Rattle.std.proofs.Common.{◌∙◌, ap}
use Rattle.std.proofs.lemmas.Map.Lookups.{exact_unsigned}
use Rattle.std.specs.Cmp.{nat_cmp_total}
use Rattle.std.specs.FinMap as finmap
use Rattle.gaz_waiters.specs.Remembered.{Remembered, with_nothing_wanted}
use Rattle.gaz_waiters.proofs.Waiting.{taken_out}
use Rattle.gaz_waiters.proofs.waiters.Waiters.want_nothing.Goals as goal

pub returns : goal.returns
returns c =
    ap (λ x. record { ahead = c.self.inside.ahead.items; waiting = finmap.from_entries c.self.inside.by_volume.entries; wanted = x })
    (taken_out nat_cmp_total exact_unsigned c.self.inside.wanted.entries c.remove.new.self.entries c.args.custodian c.remove.ensures.updates.0)
    ∙ ap (λ (m : Remembered). with_nothing_wanted m c.args.custodian) c.self.view_is
