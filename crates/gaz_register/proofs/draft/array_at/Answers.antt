use Rattle.std.proofs.Common.{◌∙◌, Option, ap, sym}
use Rattle.std.specs.Option.{ok_or}
use Rattle.toml.specs.Data.{Items, as_array}
use Rattle.toml.specs.View.{array_view, view}
use Rattle.toml.proofs.Views.{table_get}
use Rattle.gaz_register.specs.declared.fault.RegFault.TheVariants.{Shape}
use Rattle.gaz_register.proofs.Documents.{its-value, map-ok_or, no-key}
use Rattle.gaz_register.proofs.draft.array_at.Goals as goal

pub returns-in_default : goal.returns-in_default
returns-in_default c =
    let es = c.args.table.now.entries in
    let found = table_get c.get.result c.args.key.now es c.get.ensures.value in
    sym (no-key as_array c.args.key.now es (sym (rw c.in_default.is at found)))

pub returns : goal.returns
returns c =
    let es = c.args.table.now.entries in
    let found = table_get c.get.result c.args.key.now es c.get.ensures.value in
    rw c.ok_or.ensures.value (map-ok_or (λ v. array_view v.now) c.as_array.result Shape
    ∙ ap (λ (o : Option (Items)). ok_or o Shape) c.as_array.ensures
    ∙ sym (its-value as_array c.args.key.now es (view c.in-Some.value.now) (sym (rw c.in-Some.is at found))))
