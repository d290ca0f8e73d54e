use Rattle.std.proofs.Common.{◌∙◌, ap, sym}
use Rattle.std.specs.Ordering.{is_eq}
use Rattle.gaz_records.proofs.KeyOrder.{keys_exact, keys_total}
use Rattle.gaz_views.proofs.SameKeys.{same_key}
use Rattle.gaz_row_items.proofs.Pairs.{ties}
use Rattle.gaz_row_items.proofs.decoding.are_one.Goals as goal

pub returns : goal.returns
returns c =
    let told = ap is_eq (sym c.compare.ensures) ∙ sym c.is_eq.ensures in
    (λ e. same_key c.args.a.now c.args.b.now (told ∙ e), λ same. sym told ∙ ties keys_total keys_exact c.args.a.now c.args.b.now same)
