use Rattle.std.proofs.Common.{◌∙◌, ap, ◌∷◌, []}
use Rattle.gaz_extract.specs.Drafts.{DraftValue, with_items}
use Rattle.gaz_extract.proofs.Rows.{with-one}
use Rattle.gaz_extract.proofs.draft.ExtractDraft.push.Goals as goal

pub returns : goal.returns
returns c =
    with-one (record { text = c.self.inside.text.items; next = c.self.inside.next }) c.add_record.new.out.items c.args.item.now c.in_ok-add_record.ensures
    ∙ ap (λ (d : DraftValue). with_items d (c.args.item.now ∷ [])) c.self.view_is
