-- They are those of the list and of an empty one.
use Rattle.std.proofs.Common.{◌≡◌, IfOk, append-nil, subst}
use Rattle.gaz_overlay.specs.Questions.{in_order}
use Rattle.gaz_overlay.proofs.merging.in_order.Goals as goal

pub returns : goal.returns
returns c = subst (λ ks. IfOk c.merged.result (λ keys. keys.items ≡ in_order ks)) (append-nil c.args.keys.now) c.merged.ensures
