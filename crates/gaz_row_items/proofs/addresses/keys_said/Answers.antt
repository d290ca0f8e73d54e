use Rattle.std.proofs.Common.{◌≡◌, subst}
use Rattle.gaz_overlay.specs.Questions.{in_order}
use Rattle.gaz_row_items.proofs.KeysNamed.{keys_named}
use Rattle.gaz_row_items.proofs.addresses.keys_said.Goals as goal

pub returns-in-Ok-clause-said : goal.returns-in-Ok-clause-said
returns-in-Ok-clause-said c = keys_named c.args.rows.now c.in_ok-named.named.items c.in-Ok.keys.items c.in_ok-named.ensures.said (subst (λ l. c.in-Ok.keys.items ≡ in_order l) c.deref.ensures.value c.in-Ok.ensures)
