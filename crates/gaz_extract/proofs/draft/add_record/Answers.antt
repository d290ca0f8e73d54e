use Rattle.std.proofs.Common.{◌∙◌, ap, ◌++◌, ◌∷◌, [], codes}
use Rattle.std.specs.Prelude.{decimal}
use Rattle.gaz_records.specs.Items.{item_text}
use Rattle.gaz_records.specs.Kinds.{identifier}
use Rattle.gaz_extract.proofs.Rows.{record_written}
use Rattle.gaz_extract.proofs.draft.add_record.Goals as goal

pub returns : goal.returns
returns c =
    let id = c.in_ok-extend_from_slice.ensures.items ∙ ap (λ s. c.args.out.now.items ++ s) (c.text.ensures ∙ ap identifier c.kind.ensures) in
    let insert = c.in_ok-extend_from_slice-2.ensures.items ∙ ap (λ o. o ++ codes ",I,") id in
    let order = c.in_ok-add_number.ensures ∙ ap (λ o. o ++ decimal c.args.order) insert in
    let comma = c.in_ok-push.ensures.items ∙ ap (λ o. o ++ (44 ∷ [])) order in
    let row = c.in_ok-write_item.ensures.row ∙ ap (λ o. o ++ item_text c.args.item.now) comma in
    c.in_ok-push-2.ensures.items ∙ ap (λ o. o ++ (10 ∷ [])) row ∙ record_written c.args.out.now.items c.args.order c.args.item.now c.ranges.order.fits
