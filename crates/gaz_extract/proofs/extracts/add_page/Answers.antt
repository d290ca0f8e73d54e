use Rattle.std.proofs.Common.{◌∙◌, ap, List}
use Rattle.gaz_records.specs.declared.item.Item.{Item}
use Rattle.gaz_keeper.specs.Board.{view_after}
use Rattle.gaz_views.specs.Reading.{left_after}
use Rattle.gaz_extract.specs.Drafts.{DraftValue, with_items}
use Rattle.gaz_extract.proofs.Rows.{with-append}
use Rattle.gaz_extract.proofs.extracts.add_page.Goals as goal

pub returns-clause-tells : goal.returns-clause-tells
returns-clause-tells g c =
    let read = c.in_ok-page.ensures.tells in
    let v = view_after (g.K.Shelf.seen c.args.keeper.now).content.board c.args.code c.args.volume in
    let left = left_after v c.args.kind c.in_ok-page.page.next in
    let added = c.in_ok-draft.ensures ∙ ap (λ (is : List Item). with_items c.args.draft is) c.as_slice.ensures.value in
    record {
      keeps = read.keeps;
      right = λ stood fine within.
          ap (λ (d : DraftValue). with_items d left) added ∙ with-append c.args.draft c.in_ok-page.page.items.items left
          ∙ ap (with_items c.args.draft) (read.right stood fine within);
      counts = record { kept = read.counts.kept; store = tt; trust = read.counts.trust };
    }
