use Rattle.std.proofs.Common.{◌≡◌, ◌∙◌, ◌+◌, sym, ap, ◌∷◌, [], drop}
use Rattle.std.proofs.lemmas.List.{drop_all}
use Rattle.gaz_records.specs.declared.item.Item.{Item}
use Rattle.gaz_extract.specs.Drafts.{DraftValue, with_items}
use Rattle.gaz_extract.proofs.Lists.{next_item}
use Rattle.gaz_extract.proofs.Rows.{with-append, with-none}
use Rattle.gaz_extract.proofs.draft.ExtractDraft.append.Goals as goal

pub loop-item-preserved : goal.loop-item-preserved
loop-item-preserved c =
    let i = c.loop-item.item-index in
    let rest = drop (i + 1) c.args.items.now in
    let lent : c.deref.result.now ≡ c.item-item.result = c.deref.ensures in
    ap (λ (d : DraftValue). with_items d rest) (c.in_ok-draft.ensures ∙ ap (λ (x : Item). with_items c.loop-item.draft (x ∷ [])) lent)
    ∙ with-append c.loop-item.draft (c.item-item.result ∷ []) rest
    ∙ ap (with_items c.loop-item.draft) (sym (next_item c.args.items.now i c.item-item.result c.loop-item-test.true c.item-item.is))
    ∙ c.loop-item.invariant

pub returns : goal.returns
returns c =
    sym (with-none c.loop-item.draft) ∙ ap (with_items c.loop-item.draft) (sym (drop_all c.loop-item.item-index c.args.items.now c.loop-item-test.false)) ∙ c.loop-item.invariant
